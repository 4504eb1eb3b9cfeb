use Rattle.std.proofs.Common.{arith, le_trans}
use Rattle.vx_bounds.proofs.Roots.{root_bound}
use Rattle.vx_bounds.proofs.root.root_down.Goals as goal

pub overflow_cast-result : goal.overflow_cast-result
overflow_cast-result c = let b = root_bound c.isqrt-root.result (le_trans c.isqrt-root.ensures.square_le c.requires) in omega arith

pub returns-clause-bound : goal.returns-clause-bound
returns-clause-bound c = root_bound c.isqrt-root.result (le_trans c.isqrt-root.ensures.square_le c.requires)
