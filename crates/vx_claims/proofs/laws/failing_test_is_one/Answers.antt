-- The law is a lemma of FailingLemmas.
use Rattle.vx_claims.proofs.FailingLemmas.{failing_test_is_one as proof}
use Rattle.vx_claims.proofs.laws.failing_test_is_one.Goals as goal

pub returns : goal.returns
returns c = proof
