use Rattle.vx_bounds.proofs.RootsAreOne.{roots_are_one as proof}
use Rattle.vx_bounds.proofs.laws.roots_are_one.Goals as goal

pub returns : goal.returns
returns c = proof
