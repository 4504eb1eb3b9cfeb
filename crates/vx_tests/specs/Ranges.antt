-- The ranges that the tests of a term and of a figure state, each by itself: a later test's products stay within 128 bits by them.
-- This project's own. Numbers count 2^-P.
use Rattle.std.specs.Prelude.{ℕ, ◌*◌, ◌^◌, ℤ, pos, ◌*ℤ◌, ◌≤ℤ◌}
use Rattle.vx_cert.specs.declared.certificate.Ends.{Ends}
use Rattle.vx_formula.specs.declared.limits.TheConstants.{STRIP_TOTAL_MAX}
use Rattle.vx_claims.specs.declared.limits.TheConstants.{EXCESS_MAX, VARIANCE_MAX, SQUARE_MAX}
use Rattle.vx_claims.specs.TermTests.{IsWithin}

-- not negative, in order, and at most 5/4
pub record IsExponentialAdmitted (P : ℕ) (e : Ends) : Type 0 where
  pub not_negative : pos 0 ≤ℤ e.lo
  pub in_order : e.lo ≤ℤ e.hi
  pub in_range : (pos 4 *ℤ e.hi) ≤ℤ pos (5 * 2 ^ P)

-- at a negative rate: both sums are at most 5/4, and the ends enclose the reciprocal of what lies between them
pub record EnclosesReciprocal (P : ℕ) (low high : ℤ) (e : Ends) : Type 0 where
  pub low_range : (pos 4 *ℤ low) ≤ℤ pos (5 * 2 ^ P)
  pub high_range : (pos 4 *ℤ high) ≤ℤ pos (5 * 2 ^ P)
  pub below : (e.lo *ℤ high) ≤ℤ pos (2 ^ P * 2 ^ P)
  pub above : pos (2 ^ P * 2 ^ P) ≤ℤ (e.hi *ℤ low)

pub record IsExcessAdmitted (P : ℕ) (g : Ends) : Type 0 where
  pub not_negative : pos 0 ≤ℤ g.lo
  pub in_order : g.lo ≤ℤ g.hi
  pub in_range : g.hi ≤ℤ pos (EXCESS_MAX * 2 ^ P)

pub record IsTotalAdmitted (P : ℕ) (s : Ends) : Type 0 where
  pub not_negative : pos 0 ≤ℤ s.lo
  pub in_order : s.lo ≤ℤ s.hi
  pub in_range : s.hi ≤ℤ pos (STRIP_TOTAL_MAX * 2 ^ P)

pub record IsVarianceAdmitted (P : ℕ) (w : Ends) : Type 0 where
  pub low : IsWithin (VARIANCE_MAX * 2 ^ P) w.lo
  pub high : IsWithin (VARIANCE_MAX * 2 ^ P) w.hi

pub record IsSquareAdmitted (P : ℕ) (x : Ends) : Type 0 where
  pub low : IsWithin (SQUARE_MAX * 2 ^ P) x.lo
  pub high : IsWithin (SQUARE_MAX * 2 ^ P) x.hi
