-- The law is a lemma of IndexIsTight.
use Rattle.vx_certify.proofs.IndexIsTight.{index_is_tight as proof}
use Rattle.vx_certify.proofs.laws.index_is_tight.Goals as goal

pub returns : goal.returns
returns c = proof
