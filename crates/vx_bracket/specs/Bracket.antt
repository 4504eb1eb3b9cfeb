-- The bracket that catches the exponential between fractions: Taylor's sum and its remainder (textbook, for an exponent within 1 of zero).
-- No real number occurs: e^x is the only number that lies in the bracket of x at every n.
use Rattle.std.specs.Prelude.{ℕ, zero, suc, ◌*◌, ◌≤◌, pos, neg_ℤ, nat_abs, ◌≤ℤ◌, ◌<ℤ◌}
use Rattle.vx_num.specs.Fraction.{Fraction, IsProper, whole, ◌+ᶠ◌, ◌*ᶠ◌, ◌/ᶠ◌, ◌≤ᶠ◌}

-- n!
unfoldable pub factorial : ℕ → ℕ
factorial zero = 1
factorial (suc n) = factorial n * suc n

-- x^k
unfoldable pub power : Fraction → ℕ → Fraction
power x zero = whole (pos 1)
power x (suc k) = power x k *ᶠ x

-- x^k / k!
unfoldable pub series_term : ℕ → Fraction → Fraction
series_term k x = power x k /ᶠ factorial k

-- 1 + x + x^2/2! + .. + x^n/n!
unfoldable pub series_sum : ℕ → Fraction → Fraction
series_sum zero x = series_term zero x
series_sum (suc n) x = series_sum n x +ᶠ series_term (suc n) x

-- that sum and twice its next term, which is more than all the terms that the sum leaves out
unfoldable pub series_upper : ℕ → Fraction → Fraction
series_upper n x = series_sum n x +ᶠ whole (pos 2) *ᶠ series_term (suc n) x

-- f lies between the two sums at x
pub record IsBetweenSums (n : ℕ) (x f : Fraction) : Type 0 where
  pub above_sum : series_sum n x ≤ᶠ f
  pub below_upper : f ≤ᶠ series_upper n x

-- -x
abbrev pub negated : Fraction → Fraction
negated x = record { top = neg_ℤ x.top; bottom = x.bottom }

-- 1/f of a positive fraction
abbrev pub reciprocal : Fraction → Fraction
reciprocal f = record { top = pos f.bottom; bottom = nat_abs f.top }

-- The bracket of the exponent x at n. For a negative exponent it holds the positive fractions whose reciprocal lies between the sums at -x:
-- no fraction that is zero or less is in it.
pub record Bracket (n : ℕ) (x f : Fraction) : Type 0 where
  pub proper : IsProper f
  pub from_zero : pos 0 ≤ℤ x.top → IsBetweenSums n x f
  pub below_zero : x.top <ℤ pos 0 → (pos 0 <ℤ f.top) × IsBetweenSums n (negated x) (reciprocal f)

-- the exponent is from -1 to 1, where the sums close in on the exponential
abbrev pub IsWithinOne : Fraction → Type 0
IsWithinOne x = nat_abs x.top ≤ x.bottom
