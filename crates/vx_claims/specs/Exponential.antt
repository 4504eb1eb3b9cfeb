-- The tests of a certificate's exponential: Taylor's terms and their sums, as multiplications alone. This project's own.
use Rattle.std.specs.Prelude.{ℕ, ◌+◌, ◌-◌, ◌*◌, ◌^◌, ◌<◌, ◌≤◌, ℤ, pos, ◌*ℤ◌, ◌≤ℤ◌, ◌<ℤ◌, List, take, slice_index, sum}
use Rattle.vx_cert.specs.declared.limits.TheConstants.{TAYLOR_TERMS}
use Rattle.vx_cert.specs.declared.certificate.Ends.{Ends}

-- Of the lists t_lo and t_hi at an exponent whose absolute value is p/q: each term of the first is at most, and each of the
-- second at least, the term of the series times 2^P
pub record AreTaylorTerms (P p q : ℕ) (low high : List ℕ) : Type 0 where
  pub first_low : slice_index low 0 ≤ 2 ^ P
  pub first_high : 2 ^ P ≤ slice_index high 0
  pub next_low : (k : ℕ) → k + 1 < TAYLOR_TERMS → slice_index low (k + 1) * (q * (k + 1)) ≤ slice_index low k * p
  pub next_high : (k : ℕ) → k + 1 < TAYLOR_TERMS → slice_index high k * p ≤ slice_index high (k + 1) * (q * (k + 1))

-- the sum of all terms but the last
abbrev pub low_sum : List ℕ → ℕ
low_sum terms = sum (take (TAYLOR_TERMS - 1) terms)

-- and with twice the last one, for all that the series leaves out
abbrev pub high_sum : List ℕ → ℕ
high_sum terms = sum (take (TAYLOR_TERMS - 1) terms) + 2 * slice_index terms (TAYLOR_TERMS - 1)

-- the ends enclose the exponential, which at a negative rate is the reciprocal of the one at the opposite rate
pub record EncloseExponential (P : ℕ) (rate : ℤ) (low high : List ℕ) (e : Ends) : Type 0 where
  pub not_negative : pos 0 ≤ℤ e.lo
  pub in_order : e.lo ≤ℤ e.hi
  pub in_range : (pos 4 *ℤ e.hi) ≤ℤ pos (5 * 2 ^ P)
  pub rising : pos 0 ≤ℤ rate → (e.lo ≤ℤ pos (low_sum low)) × (pos (high_sum high) ≤ℤ e.hi)
  pub falling_range : rate <ℤ pos 0 → (4 * low_sum low ≤ 5 * 2 ^ P) × (4 * high_sum high ≤ 5 * 2 ^ P)
  pub falling : rate <ℤ pos 0 → ((e.lo *ℤ pos (high_sum high)) ≤ℤ pos (2 ^ (2 * P))) × (pos (2 ^ (2 * P)) ≤ℤ (e.hi *ℤ pos (low_sum low)))
