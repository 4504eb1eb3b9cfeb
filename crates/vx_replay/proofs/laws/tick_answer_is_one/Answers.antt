-- The law is a lemma of TickAnswerIsOne.
use Rattle.vx_replay.proofs.TickAnswerIsOne.{tick_answer_is_one as proof}
use Rattle.vx_replay.proofs.laws.tick_answer_is_one.Goals as goal

pub returns : goal.returns
returns c = proof
