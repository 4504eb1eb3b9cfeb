-- The figure is the exact value rounded to the nearest cent; an exact half rounds up (this project's own).
use Rattle.std.specs.Prelude.{ℕ, ◌+◌, ◌-◌, ◌*◌, ◌^◌, pos}
use Rattle.vx_num.specs.Fraction.{Fraction, whole, ◌*ᶠ◌, ◌≤ᶠ◌, ◌<ᶠ◌}
use Rattle.vx_formula.specs.Index.{Basis, SquareMeets}

-- c cents is the rounded index where its square is x: c - 1/2 <= 10^4 * root x < c + 1/2, by squares of twice each side.
-- Subtraction stops at 0, so that for c = 0 the lower half asks that x is not negative
pub record RoundsAt (c : ℕ) (x : Fraction) : Type 0 where
  pub at_least : whole (pos ((2 * c - 1) * (2 * c - 1))) ≤ᶠ (whole (pos (4 * 10 ^ 8)) *ᶠ x)
  pub below : (whole (pos (4 * 10 ^ 8)) *ᶠ x) <ᶠ whole (pos ((2 * c + 1) * (2 * c + 1)))

abbrev pub Rounds : Basis → ℕ → Type 0
Rounds basis c = SquareMeets basis (RoundsAt c)
