-- The law is a lemma of LevelLemmas.
use Rattle.vx_claims.proofs.LevelLemmas.{accepted_level_means as proof}
use Rattle.vx_claims.proofs.laws.accepted_level_means.Goals as goal

pub returns : goal.returns
returns c = proof
