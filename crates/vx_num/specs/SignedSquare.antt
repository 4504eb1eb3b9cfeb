-- The square of a whole number with the number's sign, by which values below zero are compared with squares too. This project's own.
use Rattle.std.specs.Prelude.{ℤ, pos, ◌*ℤ◌, nat_abs}

-- z * |z|
abbrev pub signed_square : ℤ → ℤ
signed_square z = z *ℤ pos (nat_abs z)
