use Rattle.std.proofs.Common.{◌≡◌, pos, ◌-ℤ◌, ◌*ℤ◌, FitsSigned, IsTrue, false, true, to_z, of_z, to_z-of_z, sym, ◌∙◌, rules, arith}
use Rattle.std.specs.Int.{w128}
use Rattle.std.proofs.lemmas.Int.{ints}
use Rattle.vx_tests.proofs.variance.encloses_variance.Goals as goal

pub variance_end-requires-then-is_variance_in_range-clause-e : goal.variance_end-requires-then-is_variance_in_range-clause-e
variance_end-requires-then-is_variance_in_range-clause-e c =
    let e = c.requires.exponential in
    let hi : FitsSigned w128 c.args.e.hi = search rules in
    let clean = to_z-of_z hi in
    (omega (arith, ints, clean, e.not_negative, e.in_order), rw clean e.in_range)

pub variance_end-requires-then-is_variance_in_range-clause-s : goal.variance_end-requires-then-is_variance_in_range-clause-s
variance_end-requires-then-is_variance_in_range-clause-s c =
    let s = c.requires.total in
    let hi : FitsSigned w128 c.args.s.hi = search rules in
    let clean = to_z-of_z hi in
    (omega (arith, ints, clean, s.not_negative, s.in_order), rw clean s.in_range)

pub variance_end-requires-then-is_variance_in_range-clause-g : goal.variance_end-requires-then-is_variance_in_range-clause-g
variance_end-requires-then-is_variance_in_range-clause-g c =
    let g = c.requires.excess in
    let lo : FitsSigned w128 c.args.g.lo = search rules in
    let clean = to_z-of_z lo in
    (rw clean g.not_negative, omega (arith, ints, clean, g.in_order, g.in_range))

pub is_variance_around-requires-clause-in_range : goal.is_variance_around-requires-clause-in_range
is_variance_around-requires-clause-in_range c = c.is_variance_in_range.ensures.0 c.if-is_variance_in_range.true

pub returns-then-is_variance_in_range : goal.returns-then-is_variance_in_range
returns-then-is_variance_in_range c =
    let e_lo : FitsSigned w128 c.args.e.lo = search rules in
    let e_hi : FitsSigned w128 c.args.e.hi = search rules in
    let s_lo : FitsSigned w128 c.args.s.lo = search rules in
    let s_hi : FitsSigned w128 c.args.s.hi = search rules in
    let g_lo : FitsSigned w128 c.args.g.lo = search rules in
    let g_hi : FitsSigned w128 c.args.g.hi = search rules in
    let first : FitsSigned w128 c.variance_end.result = search rules in
    let last : FitsSigned w128 c.variance_end-then-is_variance_in_range.result = search rules in
    let low : to_z w128 (of_z w128 c.variance_end.result) ≡ (pos 2 *ℤ (c.args.e.lo *ℤ c.args.s.lo) -ℤ c.args.g.hi *ℤ c.args.g.hi) =
    to_z-of_z first ∙ (simp (to_z-of_z e_lo, to_z-of_z s_lo, to_z-of_z g_hi) at c.variance_end.ensures) in
    let high : to_z w128 (of_z w128 c.variance_end-then-is_variance_in_range.result) ≡ (pos 2 *ℤ (c.args.e.hi *ℤ c.args.s.hi) -ℤ c.args.g.lo *ℤ c.args.g.lo) =
    to_z-of_z last ∙ (simp (to_z-of_z e_hi, to_z-of_z s_hi, to_z-of_z g_lo) at c.variance_end-then-is_variance_in_range.ensures) in
    let both = rw (low, high) at c.is_variance_around.ensures in
    let range = c.is_variance_in_range.ensures.0 c.if-is_variance_in_range.true in (
      λ t. let ends = both.0 t in record { low = ends.0; high = ends.1; low_range = range.low; high_range = range.high },
      λ h. both.1 (h.low, h.high),
    )

pub returns-else-is_variance_in_range : goal.returns-else-is_variance_in_range
returns-else-is_variance_in_range c =
    let never : IsTrue c.is_variance_in_range.result → ⊥ = λ t. let q : true ≡ false = sym t ∙ c.if-is_variance_in_range.false in cc q in
    (λ t. absurd (never t), λ h. c.is_variance_in_range.ensures.1 (record { low = h.low_range; high = h.high_range }))
