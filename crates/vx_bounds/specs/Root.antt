-- The index by squares: the ends of the signed root, in millionths of a point.
use Rattle.std.specs.Prelude.{◌^◌, ℤ, pos, ◌+ℤ◌, ◌-ℤ◌, ◌*ℤ◌, ◌≤ℤ◌, ◌<ℤ◌}
use Rattle.vx_num.specs.SignedSquare.{signed_square}

-- z is the greatest whole number whose signed square is at most 10^16 * y / u. The signed square of the root itself is that number, so z is the greatest at most the signed root
pub record IsGreatestRoot (u y z : ℤ) : Type 0 where
  pub at_most : (signed_square z *ℤ u) ≤ℤ (pos (10 ^ 16) *ℤ y)
  pub next_above : (pos (10 ^ 16) *ℤ y) <ℤ (signed_square (z +ℤ pos 1) *ℤ u)

-- z is the least whole number whose signed square is at least 10^16 * y / u
pub record IsLeastRoot (u y z : ℤ) : Type 0 where
  pub at_least : (pos (10 ^ 16) *ℤ y) ≤ℤ (signed_square z *ℤ u)
  pub last_below : (signed_square (z -ℤ pos 1) *ℤ u) <ℤ (pos (10 ^ 16) *ℤ y)
