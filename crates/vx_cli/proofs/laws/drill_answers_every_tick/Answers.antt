use Rattle.vx_cli.proofs.SampleLemmas.{drill_answers_every_tick as proof}
use Rattle.vx_cli.proofs.laws.drill_answers_every_tick.Goals as goal

pub returns : goal.returns
returns c = proof
