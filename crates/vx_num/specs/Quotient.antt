-- Quotients of whole numbers, rounded down and up. Textbook; both are said by multiplication, for a divisor above 0.
use Rattle.std.specs.Prelude.{ℤ, ◌+ℤ◌, ◌*ℤ◌, ◌≤ℤ◌, ◌<ℤ◌}

-- z is the greatest whole number at most a / b: z * b ≤ a < (z + 1) * b
pub record IsFloor (a b z : ℤ) : Type 0 where
  pub at_most : (z *ℤ b) ≤ℤ a
  pub next_above : a <ℤ (z *ℤ b +ℤ b)

-- z is the least whole number at least a / b: (z - 1) * b < a ≤ z * b
pub record IsCeiling (a b z : ℤ) : Type 0 where
  pub at_least : a ≤ℤ (z *ℤ b)
  pub last_below : (z *ℤ b) <ℤ (a +ℤ b)
