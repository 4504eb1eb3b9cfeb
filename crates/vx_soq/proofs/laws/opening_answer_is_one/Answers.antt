-- The law is a lemma of OpeningAnswerIsOne.
use Rattle.vx_soq.proofs.OpeningAnswerIsOne.{opening_answer_is_one as proof}
use Rattle.vx_soq.proofs.laws.opening_answer_is_one.Goals as goal

pub returns : goal.returns
returns c = proof
