use Rattle.std.proofs.Common.{FitsSigned, to_z-of_z, rules}
use Rattle.std.specs.Int.{w128}
use Rattle.vx_tests.proofs.forward.is_excess_around.Goals as goal

pub returns-then-is_excess_below : goal.returns-then-is_excess_below
returns-then-is_excess_below c =
    let g_lo : FitsSigned w128 c.args.g.lo = search rules in
    let g_hi : FitsSigned w128 c.args.g.hi = search rules in
    let f_lo : FitsSigned w128 c.args.f.lo = search rules in
    let f_hi : FitsSigned w128 c.args.f.hi = search rules in
    let below = rw (to_z-of_z g_lo, to_z-of_z f_lo) at c.is_excess_below.ensures in
    let above = rw (to_z-of_z g_hi, to_z-of_z f_hi) at c.is_excess_above.ensures in
    (λ t. (below.0 c.if-is_excess_below.true, above.0 t), λ h. above.1 h.1)
