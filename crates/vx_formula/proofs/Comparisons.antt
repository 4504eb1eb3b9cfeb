-- Of any two numbers one comparison or the other holds.
use Rattle.std.proofs.Common.{ℕ, ◌≤◌, ◌⊎◌, ℤ, ◌≤ℤ◌, ◌<ℤ◌, inl, inr, arith}
use Rattle.std.proofs.lemmas.Int.{ints, by_lt_z}
use Rattle.std.proofs.lemmas.Bool.{cases_lt}

-- one is less, or the other is at most it
pub less_or_at_most : (a b : ℤ) → (a <ℤ b) ⊎ (b ≤ℤ a)
less_or_at_most a b = by_lt_z a b (λ less. inl less) (λ most. inr most)

-- one is less than the other, or it is not
pub below_or_not : (a b : ℤ) → (a <ℤ b) ⊎ ¬ (a <ℤ b)
below_or_not a b = by_lt_z a b (λ less. inl less) (λ most. inr (λ h. omega (arith, ints, most, h)))

-- one is at most the other, or it is not
pub at_most_or_not : (a b : ℤ) → (a ≤ℤ b) ⊎ ¬ (a ≤ℤ b)
at_most_or_not a b = by_lt_z b a (λ less. inr (λ h. omega (arith, ints, less, h))) (λ most. inl most)

-- of two natural numbers one is at most the other
pub rising_total : (a b : ℕ) → (a ≤ b) ⊎ (b ≤ a)
rising_total a b = elim (cases_lt a b) [ inl less ↦ inl (omega (arith, less)) | inr fine ↦ inr fine ]

-- and one is at least the other
pub falling_total : (a b : ℕ) → (b ≤ a) ⊎ (a ≤ b)
falling_total a b = rising_total b a
