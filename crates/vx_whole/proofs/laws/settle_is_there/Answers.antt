-- The law is a lemma of Positions.
use Rattle.vx_whole.proofs.Positions.{settle_is_there as proof}
use Rattle.vx_whole.proofs.laws.settle_is_there.Goals as goal

pub returns : goal.returns
returns c = proof
