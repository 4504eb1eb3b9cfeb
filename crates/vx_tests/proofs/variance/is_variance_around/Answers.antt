use Rattle.std.proofs.Common.{FitsSigned, to_z-of_z, rules}
use Rattle.std.specs.Int.{w128}
use Rattle.vx_tests.proofs.variance.is_variance_around.Goals as goal

pub returns-then-is_variance_below : goal.returns-then-is_variance_below
returns-then-is_variance_below c =
    let w_lo : FitsSigned w128 c.args.w.lo = search rules in
    let w_hi : FitsSigned w128 c.args.w.hi = search rules in
    let below = rw (to_z-of_z w_lo, to_z-of_z c.ranges.low) at c.is_variance_below.ensures in
    let above = rw (to_z-of_z w_hi, to_z-of_z c.ranges.high) at c.is_variance_above.ensures in
    (λ t. (below.0 c.if-is_variance_below.true, above.0 t), λ h. above.1 h.1)
