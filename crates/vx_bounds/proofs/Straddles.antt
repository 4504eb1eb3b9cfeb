-- Two figures that differ have a boundary between them.
use Rattle.std.proofs.Common.{ℕ, ◌+◌, ◌-◌, ◌*◌, ◌<◌, ◌≤◌, ◌≢◌, inr, ℤ, pos, negsuc, ◌≤ℤ◌, refl, arith, nat_abs}
use Rattle.std.proofs.lemmas.Int.{ints}
use Rattle.vx_bounds.specs.Cents.{IsStraddled, cents_of}

-- for ends that are not negative
pub straddled_naturals : (a b : ℕ) → a ≤ b → cents_of a ≢ cents_of b → IsStraddled (pos a) (pos b)
straddled_naturals a b l ne =
    let rise : cents_of a < cents_of b = omega arith in
    let k : ℕ = cents_of b - 1 in
    let low : a < 10000 * k + 5000 = omega arith in
    let high : 10000 * k + 5000 ≤ b = omega arith in
    (pos (10000 * k + 5000), inr (k, refl), omega (arith, ints), omega (arith, ints))

-- for ordered ends of which the low one is not negative
pub straddled : (lo hi : ℤ) → pos 0 ≤ℤ lo → lo ≤ℤ hi → cents_of (nat_abs lo) ≢ cents_of (nat_abs hi) → IsStraddled lo hi
straddled (pos a) (pos b) p l ne = straddled_naturals a b (omega (arith, ints)) ne
straddled (pos a) (negsuc b) p l ne = absurd (omega (arith, ints))
straddled (negsuc a) hi p l ne = absurd (omega (arith, ints))
