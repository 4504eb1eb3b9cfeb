-- Rounding to hundredths of a point. Ends are in millionths; an exact half rounds up. This project's own.
use Rattle.std.specs.Prelude.{◌≡◌, ℕ, ◌+◌, ◌*◌, ◌/◌, ◌⊎◌, ℤ, pos, ◌≤ℤ◌, ◌<ℤ◌}
use Rattle.vx_num.specs.declared.limits.TheConstants.{CENT, HALF_CENT}
use Rattle.vx_bounds.specs.declared.cents.Decision.{Decision}
use Rattle.vx_bounds.specs.declared.cents.Decision.TheVariants.{Cents, Straddle, Negative}

-- the figure of v millionths, in cents
abbrev pub cents_of : ℕ → ℕ
cents_of v = (v + HALF_CENT) / CENT

-- a value at which rounding changes: 0, below which there is no figure, and each half of a cent, however large
abbrev pub IsRoundingStep : ℤ → Type 0
IsRoundingStep b = (b ≡ pos 0) ⊎ ((k : ℕ) × (b ≡ pos (CENT * k + HALF_CENT)))

-- such a value lies above lo and at most at hi
abbrev pub IsStraddled : ℤ → ℤ → Type 0
IsStraddled lo hi = (b : ℤ) × (IsRoundingStep b) × (lo <ℤ b) × (b ≤ℤ hi)

-- what is decided from two ends
abbrev pub Decides : ℤ → ℤ → Decision → Type 0
Decides lo hi (Cents c) = (IsStraddled lo hi → ⊥) × (pos 0 ≤ℤ lo) × (v : ℕ) × (lo ≡ pos v) × (c ≡ cents_of v)
Decides lo hi Straddle = IsStraddled lo hi
Decides lo hi Negative = (IsStraddled lo hi → ⊥) × (hi <ℤ pos 0)
