-- The law is a lemma of FailingLemmas.
use Rattle.vx_claims.proofs.FailingLemmas.{stated_ends_are_decided as proof}
use Rattle.vx_claims.proofs.laws.stated_ends_are_decided.Goals as goal

pub returns : goal.returns
returns c = proof
