-- The law is a lemma of Terms.
use Rattle.vx_existence.proofs.Terms.{every_term_has_answer as proof}
use Rattle.vx_existence.proofs.laws.every_term_has_answer.Goals as goal

pub returns : goal.returns
returns c = proof
