use Rattle.std.proofs.Common.{◌≡◌, FitsSigned, to_z, of_z, to_z-of_z, ◌∙◌, rules}
use Rattle.std.specs.Int.{w128}
use Rattle.vx_claims.specs.FigureTests.{weighted}
use Rattle.vx_tests.proofs.figure.is_weighted_between.Goals as goal

pub returns-then-is_between : goal.returns-then-is_between
returns-then-is_between c =
    let m = c.args.m in
    let next_lo : FitsSigned w128 c.args.next.lo = search rules in
    let next_hi : FitsSigned w128 c.args.next.hi = search rules in
    let first_fits : FitsSigned w128 c.weighted.result = search rules in
    let last_fits : FitsSigned w128 c.weighted-then-is_between.result = search rules in
    let first : to_z w128 (of_z w128 c.weighted.result) ≡ weighted m.target m.near m.next c.args.near c.args.next.lo =
    to_z-of_z first_fits ∙ (simp (to_z-of_z c.ranges.near, to_z-of_z next_lo) at c.weighted.ensures) in
    let last : to_z w128 (of_z w128 c.weighted-then-is_between.result) ≡ weighted m.target m.near m.next c.args.near c.args.next.hi =
    to_z-of_z last_fits ∙ (simp (to_z-of_z c.ranges.near, to_z-of_z next_hi) at c.weighted-then-is_between.ensures) in
    let at_low = simp (to_z-of_z c.ranges.low, first, to_z-of_z c.ranges.high) at c.is_between.ensures in
    let at_high = simp (to_z-of_z c.ranges.low, last, to_z-of_z c.ranges.high) at c.is_between-then-is_between.ensures in
    (λ t. (at_low.0 c.if-is_between.true, at_high.0 t), λ h. at_high.1 h.1)
