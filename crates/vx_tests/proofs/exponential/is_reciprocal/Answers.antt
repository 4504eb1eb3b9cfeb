use Rattle.std.proofs.Common.{FitsSigned, to_z-of_z, rules}
use Rattle.std.specs.Int.{w128}
use Rattle.vx_tests.proofs.exponential.is_reciprocal.Goals as goal

pub returns-then-is_below_reciprocal : goal.returns-then-is_below_reciprocal
returns-then-is_below_reciprocal c =
    let lo : FitsSigned w128 c.args.e.lo = search rules in
    let hi : FitsSigned w128 c.args.e.hi = search rules in
    let below = rw (to_z-of_z lo, to_z-of_z c.ranges.high) at c.is_below_reciprocal.ensures in
    let above = rw (to_z-of_z hi, to_z-of_z c.ranges.low) at c.is_above_reciprocal.ensures in
    (λ t. (below.0 c.if-is_below_reciprocal.true, above.0 t), λ h. above.1 h.1)
