use Rattle.vx_term.proofs.Ordered.{variance_is_ordered as proof}
use Rattle.vx_term.proofs.laws.variance_is_ordered.Goals as goal

pub returns : goal.returns
returns c = proof
