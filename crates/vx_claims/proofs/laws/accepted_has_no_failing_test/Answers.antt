-- The law is a lemma of FailingLemmas.
use Rattle.vx_claims.proofs.FailingLemmas.{accepted_has_no_failing_test as proof}
use Rattle.vx_claims.proofs.laws.accepted_has_no_failing_test.Goals as goal

pub returns : goal.returns
returns c = proof
