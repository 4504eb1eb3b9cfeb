use Rattle.vx_sum.proofs.SumIsOne.{sum_is_one as proof}
use Rattle.vx_sum.proofs.laws.sum_is_one.Goals as goal

pub returns : goal.returns
returns c = proof
