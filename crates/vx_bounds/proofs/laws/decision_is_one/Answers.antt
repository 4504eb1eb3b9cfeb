use Rattle.vx_bounds.proofs.DecisionIsOne.{decision_is_one as proof}
use Rattle.vx_bounds.proofs.laws.decision_is_one.Goals as goal

pub returns : goal.returns
returns c = proof
