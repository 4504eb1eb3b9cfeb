-- The law is a lemma of Openings.
use Rattle.vx_existence.proofs.Openings.{opening_has_answer as proof}
use Rattle.vx_existence.proofs.laws.opening_has_answer.Goals as goal

pub returns : goal.returns
returns c = proof
