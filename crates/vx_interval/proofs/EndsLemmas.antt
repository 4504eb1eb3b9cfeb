-- Equal ends, and the unit as a natural number.
use Rattle.std.proofs.Common.{◌≡◌, ℕ, ℤ, pos, ◌<ℤ◌, ap₂, arith, pow_pos}
use Rattle.std.proofs.lemmas.Int.{ints}
use Rattle.vx_interval.specs.Ends.{Ends, unit}

-- intervals with the same ends are the same
pub same_ends : (x y : Ends) → x.lo ≡ y.lo → x.hi ≡ y.hi → x ≡ y
same_ends x y = ap₂ (λ (a b : ℤ). let e : Ends = record { lo = a; hi = b } in e)

-- the unit of a scale is positive
pub unit_positive : (P : ℕ) → pos 0 <ℤ unit P
unfolding unit
unit_positive P = omega (arith, ints, pow_pos P)
