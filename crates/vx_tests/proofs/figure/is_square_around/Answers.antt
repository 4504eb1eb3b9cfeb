use Rattle.std.proofs.Common.{◌≡◌, ◌*ℤ◌, FitsSigned, IsTrue, true, false, to_z, of_z, to_z-of_z, sym, ◌∙◌, rules}
use Rattle.std.specs.Int.{w128}
use Rattle.vx_claims.specs.FigureTests.{span}
use Rattle.vx_tests.proofs.figure.is_square_around.Goals as goal

pub returns-then-is_weighted_between : goal.returns-then-is_weighted_between
returns-then-is_weighted_between c =
    let m = c.args.m in
    let x_lo : FitsSigned w128 c.args.x.lo = search rules in
    let x_hi : FitsSigned w128 c.args.x.hi = search rules in
    let near_lo : FitsSigned w128 c.args.near.lo = search rules in
    let near_hi : FitsSigned w128 c.args.near.hi = search rules in
    let low_fits : FitsSigned w128 c.times_span-low.result = search rules in
    let high_fits : FitsSigned w128 c.times_span-high.result = search rules in
    let low : to_z w128 (of_z w128 c.times_span-low.result) ≡ c.args.x.lo *ℤ span m.target m.near m.next = to_z-of_z low_fits ∙ (simp (to_z-of_z x_lo) at c.times_span-low.ensures) in
    let high : to_z w128 (of_z w128 c.times_span-high.result) ≡ c.args.x.hi *ℤ span m.target m.near m.next = to_z-of_z high_fits ∙ (simp (to_z-of_z x_hi) at c.times_span-high.ensures) in
    let at_low = simp (low, high, to_z-of_z near_lo) at c.is_weighted_between.ensures in
    let at_high = simp (low, high, to_z-of_z near_hi) at c.is_weighted_between-then-is_weighted_between.ensures in
    (λ t. (at_low.0 c.if-is_weighted_between.true, at_high.0 t), λ h. at_high.1 h.1)

pub returns-else-is_weighted_between : goal.returns-else-is_weighted_between
returns-else-is_weighted_between c =
    let m = c.args.m in
    let x_lo : FitsSigned w128 c.args.x.lo = search rules in
    let x_hi : FitsSigned w128 c.args.x.hi = search rules in
    let near_lo : FitsSigned w128 c.args.near.lo = search rules in
    let low_fits : FitsSigned w128 c.times_span-low.result = search rules in
    let high_fits : FitsSigned w128 c.times_span-high.result = search rules in
    let low : to_z w128 (of_z w128 c.times_span-low.result) ≡ c.args.x.lo *ℤ span m.target m.near m.next = to_z-of_z low_fits ∙ (simp (to_z-of_z x_lo) at c.times_span-low.ensures) in
    let high : to_z w128 (of_z w128 c.times_span-high.result) ≡ c.args.x.hi *ℤ span m.target m.near m.next = to_z-of_z high_fits ∙ (simp (to_z-of_z x_hi) at c.times_span-high.ensures) in
    let at_low = simp (low, high, to_z-of_z near_lo) at c.is_weighted_between.ensures in
    let never : IsTrue c.is_weighted_between.result → ⊥ = λ t. let q : true ≡ false = sym t ∙ c.if-is_weighted_between.false in cc q in
    (λ t. absurd (never t), λ h. at_low.1 h.0)
