use Rattle.std.proofs.Common.{◌≡◌, pos, ◌*ℤ◌, FitsSigned, IsTrue, true, false, to_z, of_z, to_z-of_z, sym, ◌∙◌, rules}
use Rattle.std.specs.Int.{w128}
use Rattle.vx_formula.specs.declared.limits.TheConstants.{YEAR_MINUTES, THIRTY_DAYS}
use Rattle.vx_tests.proofs.figure.is_single_around.Goals as goal

pub returns-then-is_between : goal.returns-then-is_between
returns-then-is_between c =
    let x_lo : FitsSigned w128 c.args.x.lo = search rules in
    let x_hi : FitsSigned w128 c.args.x.hi = search rules in
    let w_lo : FitsSigned w128 c.args.w.lo = search rules in
    let w_hi : FitsSigned w128 c.args.w.hi = search rules in
    let low_fits : FitsSigned w128 c.times_thirty_days-low.result = search rules in
    let high_fits : FitsSigned w128 c.times_thirty_days-high.result = search rules in
    let first_fits : FitsSigned w128 c.times_year.result = search rules in
    let last_fits : FitsSigned w128 c.times_year-then-is_between.result = search rules in
    let low : to_z w128 (of_z w128 c.times_thirty_days-low.result) ≡ c.args.x.lo *ℤ pos THIRTY_DAYS =
    to_z-of_z low_fits ∙ (simp (to_z-of_z x_lo) at c.times_thirty_days-low.ensures) in
    let high : to_z w128 (of_z w128 c.times_thirty_days-high.result) ≡ c.args.x.hi *ℤ pos THIRTY_DAYS =
    to_z-of_z high_fits ∙ (simp (to_z-of_z x_hi) at c.times_thirty_days-high.ensures) in
    let first : to_z w128 (of_z w128 c.times_year.result) ≡ pos YEAR_MINUTES *ℤ c.args.w.lo = to_z-of_z first_fits ∙ (simp (to_z-of_z w_lo) at c.times_year.ensures) in
    let last : to_z w128 (of_z w128 c.times_year-then-is_between.result) ≡ pos YEAR_MINUTES *ℤ c.args.w.hi =
    to_z-of_z last_fits ∙ (simp (to_z-of_z w_hi) at c.times_year-then-is_between.ensures) in
    let at_low = simp (low, first, high) at c.is_between.ensures in
    let at_high = simp (low, last, high) at c.is_between-then-is_between.ensures in
    (λ t. (at_low.0 c.if-is_between.true, at_high.0 t), λ h. at_high.1 h.1)

pub returns-else-is_between : goal.returns-else-is_between
returns-else-is_between c =
    let x_lo : FitsSigned w128 c.args.x.lo = search rules in
    let x_hi : FitsSigned w128 c.args.x.hi = search rules in
    let w_lo : FitsSigned w128 c.args.w.lo = search rules in
    let low_fits : FitsSigned w128 c.times_thirty_days-low.result = search rules in
    let high_fits : FitsSigned w128 c.times_thirty_days-high.result = search rules in
    let first_fits : FitsSigned w128 c.times_year.result = search rules in
    let low : to_z w128 (of_z w128 c.times_thirty_days-low.result) ≡ c.args.x.lo *ℤ pos THIRTY_DAYS =
    to_z-of_z low_fits ∙ (simp (to_z-of_z x_lo) at c.times_thirty_days-low.ensures) in
    let high : to_z w128 (of_z w128 c.times_thirty_days-high.result) ≡ c.args.x.hi *ℤ pos THIRTY_DAYS =
    to_z-of_z high_fits ∙ (simp (to_z-of_z x_hi) at c.times_thirty_days-high.ensures) in
    let first : to_z w128 (of_z w128 c.times_year.result) ≡ pos YEAR_MINUTES *ℤ c.args.w.lo = to_z-of_z first_fits ∙ (simp (to_z-of_z w_lo) at c.times_year.ensures) in
    let at_low = simp (low, first, high) at c.is_between.ensures in
    let never : IsTrue c.is_between.result → ⊥ = λ t. let q : true ≡ false = sym t ∙ c.if-is_between.false in cc q in
    (λ t. absurd (never t), λ h. at_low.1 h.0)
