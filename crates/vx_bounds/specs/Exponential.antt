-- The exponential's rounded terms and the ends that they give, in units of 1/u with u = 2^P, at x = p/q. This project's own.
use Rattle.std.specs.Prelude.{◌≡◌, ℕ, zero, suc, ◌+◌, ◌*◌, ◌/◌, ◌^◌, ◌<◌, List, length, slice_index, ℤ, pos, negsuc, ◌*ℤ◌, ◌≤ℤ◌}
use Rattle.std.specs.Int.{div_ceil}
use Rattle.vx_interval.specs.Ends.{Ends, IsInterval, unit, width}
use Rattle.vx_interval.specs.Rounding.{floor_of, ceiling_of}

-- u, then each term times p over q*(k+1), rounded down
unfoldable pub low_term : ℕ → ℕ → ℕ → ℕ → ℕ
low_term u p q zero = u
low_term u p q (suc k) = low_term u p q k * p / (q * suc k)

-- the same, rounded up
unfoldable pub high_term : ℕ → ℕ → ℕ → ℕ → ℕ
high_term u p q zero = u
high_term u p q (suc k) = div_ceil (high_term u p q k * p) (q * suc k)

-- the terms from 0 to n, added
unfoldable pub low_sum_to : ℕ → ℕ → ℕ → ℕ → ℕ
low_sum_to u p q zero = low_term u p q 0
low_sum_to u p q (suc n) = low_sum_to u p q n + low_term u p q (suc n)

unfoldable pub high_sum_to : ℕ → ℕ → ℕ → ℕ → ℕ
high_sum_to u p q zero = high_term u p q 0
high_sum_to u p q (suc n) = high_sum_to u p q n + high_term u p q (suc n)

-- a list of the first 14 terms
pub record IsTerms (term : ℕ → ℕ) (terms : List ℕ) : Type 0 where
  pub count : length terms ≡ 14
  pub each : (k : ℕ) → k < 14 → slice_index terms k ≡ term k

-- terms 0 to 12 on either side, and twice the last upper term for all that follows
unfoldable pub low_end : ℕ → ℕ → ℕ → ℕ
low_end u p q = low_sum_to u p q 12

unfoldable pub high_end : ℕ → ℕ → ℕ → ℕ
high_end u p q = high_sum_to u p q 12 + 2 * high_term u p q 13

abbrev pub exp_ends : ℕ → ℕ → ℕ → Ends
exp_ends P p q = record { lo = pos (low_end (2 ^ P) p q); hi = pos (high_end (2 ^ P) p q) }

-- for a negative exponent the reciprocals of the ends at its opposite, rounded outwards
abbrev pub signed_ends : ℕ → ℤ → ℕ → Ends
signed_ends P (pos p) q = exp_ends P p q
signed_ends P (negsuc p) q = record {
  lo = floor_of (pos (2 ^ P * 2 ^ P)) (pos (high_end (2 ^ P) (suc p) q));
  hi = ceiling_of (pos (2 ^ P * 2 ^ P)) (pos (low_end (2 ^ P) (suc p) q));
}

-- what every bounded exponential keeps: its ends are at most w units apart, and it stays at most 1.134, so at most 5/4
pub record IsTightValue (P w : ℕ) (x : Ends) : Type 0 where
  pub interval : IsInterval P x
  pub narrow : width x ≤ℤ pos w
  pub height : (pos 1000 *ℤ x.hi) ≤ℤ (pos 1134 *ℤ unit P)
  pub quarter : (pos 4 *ℤ x.hi) ≤ℤ (pos 5 *ℤ unit P)
  pub nonneg : pos 0 ≤ℤ x.lo
