-- What a fraction between two whole numbers says of them.
use Rattle.std.proofs.Common.{◌≡◌, ℕ, zero, suc, ◌≤◌, ℤ, pos, negsuc, ◌*ℤ◌, ◌≤ℤ◌, ◌<ℤ◌, arith}
use Rattle.std.proofs.lemmas.Int.{ints, by_lt_z}
use Rattle.vx_num.specs.Fraction.{Fraction, IsProper, whole, ◌≤ᶠ◌, ◌<ᶠ◌}
use Rattle.vx_num.proofs.Whole.{mul_mono, mul_cancel}

-- at least the one and below the other, they are in that order; so also the other way round. The fraction need not be proper
pub whole_below : (z w : ℤ) (f : Fraction) → whole z ≤ᶠ f → f <ᶠ whole w → z <ℤ w
whole_below z w f low high =
    by_lt_z z w (λ less. less) (λ more. absurd (omega (arith, ints, mul_mono w z (pos f.bottom) (omega (arith, ints)) more)))

pub whole_above : (z w : ℤ) (f : Fraction) → whole z <ᶠ f → f ≤ᶠ whole w → z <ℤ w
whole_above z w f low high =
    by_lt_z z w (λ less. less) (λ more. absurd (omega (arith, ints, mul_mono w z (pos f.bottom) (omega (arith, ints)) more)))

pub whole_at_most : (z w : ℤ) (f : Fraction) → IsProper f → whole z ≤ᶠ f → f ≤ᶠ whole w → z ≤ℤ w
whole_at_most z w f p low high = mul_cancel z w (pos f.bottom) (omega (arith, ints)) (omega (arith, ints))

times_zero : (z : ℤ) → z *ℤ pos 0 ≡ pos 0
times_zero (pos n) = omega (arith, ints)
times_zero (negsuc n) = omega (arith, ints)

-- and then the fraction is proper
pub whole_proper : (z w : ℤ) (f : Fraction) → whole z ≤ᶠ f → f <ᶠ whole w → IsProper f
whole_proper z w f low high = proper_at z w f.top f.bottom low high where
  proper_at : (z w t : ℤ) (n : ℕ) → (z *ℤ pos n) ≤ℤ (t *ℤ pos 1) → (t *ℤ pos 1) <ℤ (w *ℤ pos n) → 1 ≤ n
  proper_at z w t zero low high = absurd (omega (arith, ints, times_zero z, times_zero w))
  proper_at z w t (suc n) low high = omega arith
