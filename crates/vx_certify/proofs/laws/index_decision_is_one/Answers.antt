-- The law is a lemma of IndexDecisionIsOne.
use Rattle.vx_certify.proofs.IndexDecisionIsOne.{index_decision_is_one as proof}
use Rattle.vx_certify.proofs.laws.index_decision_is_one.Goals as goal

pub returns : goal.returns
returns c = proof
