-- The printed ends of the index lie around every value of its square between the square's ends.
use Rattle.std.proofs.Common.{◌≡◌, refl, ℕ, ◌*◌, ◌^◌, ℤ, pos, negsuc, ◌*ℤ◌, ◌≤ℤ◌, ◌<ℤ◌, inl, inr, one-mul, arith}
use Rattle.std.proofs.lemmas.Int.{ints, by_lt_z}
use Rattle.vx_num.specs.Fraction.{Fraction}
use Rattle.vx_num.specs.SignedSquare.{signed_square}
use Rattle.vx_num.proofs.Whole.{mul_mono, mul_mono_left, mul_cancel, mul_assoc, mul_right_comm, mul_strict}
use Rattle.vx_interval.specs.Ends.{Ends, unit}
use Rattle.vx_interval.specs.Membership.{IsMember}
use Rattle.vx_interval.proofs.EndsLemmas.{unit_positive}
use Rattle.vx_interval.proofs.Enclosures.{member_at_least, member_at_most}
use Rattle.vx_bounds.specs.Cents.{IsStraddled}
use Rattle.vx_formula.specs.Between.{BetweenAt}
use Rattle.vx_formula.specs.Index.{IsNegative}
use Rattle.vx_formula.specs.Undecided.{Straddles}
use Rattle.vx_claims.specs.declared.limits.TheConstants.{INDEX_END_MAX}
use Rattle.vx_term.specs.Ranges.{IsSquareInRange}
use Rattle.vx_certify.specs.Certified.{AreIndexEnds}
use Rattle.vx_accepted.proofs.Figures.{high_end_small}

module _ (P : ℕ) (square : Ends) (lo hi : ℤ) (ends : AreIndexEnds P square lo hi) (x : Fraction) (member : IsMember P square x) where
  bottom : pos 0 ≤ℤ pos x.bottom
  bottom = omega (arith, ints)

  one_bottom : (z : ℤ) → z *ℤ pos (1 * x.bottom) ≡ z *ℤ pos x.bottom
  one_bottom z = rw (one-mul x.bottom) refl

  low_times : (signed_square lo *ℤ pos x.bottom) ≤ℤ (pos (10 ^ 16) *ℤ x.top)
  low_times =
      let n : ℤ = pos x.bottom in
      let u : ℤ = unit P in
      let s : ℤ = signed_square lo in
      let h = unit_positive P in
      let scaled = mul_mono (s *ℤ u) (pos (10 ^ 16) *ℤ square.lo) n bottom (ends.low).at_most in
      let inside = mul_mono_left (square.lo *ℤ n) (x.top *ℤ u) (pos (10 ^ 16)) (omega (arith, ints)) (member_at_least P square x member) in
      mul_cancel (s *ℤ n) (pos (10 ^ 16) *ℤ x.top) u h
      (omega (arith, ints, scaled, inside, mul_right_comm s u n, mul_assoc (pos (10 ^ 16)) square.lo n, mul_assoc (pos (10 ^ 16)) x.top u))

  high_times : (pos (10 ^ 16) *ℤ x.top) ≤ℤ (signed_square hi *ℤ pos x.bottom)
  high_times =
      let n : ℤ = pos x.bottom in
      let u : ℤ = unit P in
      let s : ℤ = signed_square hi in
      let h = unit_positive P in
      let scaled = mul_mono (pos (10 ^ 16) *ℤ square.hi) (s *ℤ u) n bottom (ends.high).at_least in
      let inside = mul_mono_left (x.top *ℤ u) (square.hi *ℤ n) (pos (10 ^ 16)) (omega (arith, ints)) (member_at_most P square x member) in
      mul_cancel (pos (10 ^ 16) *ℤ x.top) (s *ℤ n) u h
      (omega (arith, ints, scaled, inside, mul_right_comm s u n, mul_assoc (pos (10 ^ 16)) square.hi n, mul_assoc (pos (10 ^ 16)) x.top u))

  -- a member of the square lies between the printed ends
  pub member_is_between : BetweenAt lo hi x
  member_is_between = record { at_least = omega (arith, ints, low_times, one_bottom (signed_square lo)); at_most = omega (arith, ints, high_times, one_bottom (signed_square hi)) }

  negative_square : (z : ℤ) → z <ℤ pos 0 → signed_square z <ℤ pos 0
  negative_square (pos z) h = absurd (omega (arith, ints, h))
  negative_square (negsuc z) h = omega (arith, ints)

  -- and is below zero where the high end is
  pub member_is_negative : hi <ℤ pos 0 → IsNegative x
  member_is_negative below =
      let n : ℤ = pos x.bottom in
      let proper = member.proper in
      let s = negative_square hi below in
      let times = mul_strict (signed_square hi) (pos 0) n (omega (arith, ints, proper)) s in
      by_lt_z x.top (pos 0) (λ less. omega (arith, ints, less)) (λ more. absurd (omega (arith, ints, high_times, times, more)))

-- a boundary between the printed ends is one of a lawful figure
pub ends_straddle : (P : ℕ) (square : Ends) (lo hi : ℤ) → IsSquareInRange P square → AreIndexEnds P square lo hi → IsStraddled lo hi → Straddles lo hi
ends_straddle P square lo hi range ends (b, inl zero, above, most) = record { boundary = b; is_boundary = inl zero; above = above; at_most = most }
ends_straddle P square lo hi range ends (b, inr (k, is), above, most) =
    let small : hi ≤ℤ pos INDEX_END_MAX = high_end_small P square hi range.high ends.high (omega (arith, ints, is, most)) in
    record { boundary = b; is_boundary = inr (k, omega (arith, ints, is, most, small), is); above = above; at_most = most }
