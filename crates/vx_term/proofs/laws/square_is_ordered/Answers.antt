use Rattle.vx_term.proofs.Ordered.{square_is_ordered as proof}
use Rattle.vx_term.proofs.laws.square_is_ordered.Goals as goal

pub returns : goal.returns
returns c = proof
