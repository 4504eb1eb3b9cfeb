-- The law is a lemma of Terms.
use Rattle.vx_accepted.proofs.Terms.{certified_term_is_true as proof}
use Rattle.vx_accepted.proofs.laws.certified_term_is_true.Goals as goal

pub returns : goal.returns
returns c = proof
