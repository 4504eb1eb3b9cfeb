use Rattle.vx_cli.proofs.ReplayIsOne.{drill_is_one as proof}
use Rattle.vx_cli.proofs.laws.drill_is_one.Goals as goal

pub returns : goal.returns
returns c = proof
