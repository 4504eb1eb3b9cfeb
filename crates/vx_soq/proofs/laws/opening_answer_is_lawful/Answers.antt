-- The law is a lemma of LawfulOpenings.
use Rattle.vx_soq.proofs.LawfulOpenings.{opening_answer_is_lawful as proof}
use Rattle.vx_soq.proofs.laws.opening_answer_is_lawful.Goals as goal

pub returns : goal.returns
returns c = proof
