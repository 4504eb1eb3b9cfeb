-- The law is a lemma of Stays.
use Rattle.vx_soq.proofs.Stays.{opening_answer_stays as proof}
use Rattle.vx_soq.proofs.laws.opening_answer_stays.Goals as goal

pub returns : goal.returns
returns c = proof
