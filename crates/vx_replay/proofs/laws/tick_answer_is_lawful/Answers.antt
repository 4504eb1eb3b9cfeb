-- The law is a lemma of LawfulTicks.
use Rattle.vx_replay.proofs.LawfulTicks.{tick_answer_is_lawful as proof}
use Rattle.vx_replay.proofs.laws.tick_answer_is_lawful.Goals as goal

pub returns : goal.returns
returns c = proof
