-- Rounded-up contributions are ceilings, and exponents in range are small.
use Rattle.std.proofs.Common.{ℕ, ◌+◌, ◌-◌, ◌*◌, ◌/◌, ◌^◌, ◌<◌, ◌≤◌, ℤ, pos, negsuc, nat_abs, arith}
use Rattle.std.proofs.lemmas.Int.{ints}
use Rattle.std.proofs.Math.Nat.{mul-le-mul}
use Rattle.vx_num.specs.Quotient.{IsCeiling}
use Rattle.vx_num.proofs.Squares.{abs_product}
use Rattle.vx_clock.specs.declared.limits.TheConstants.{MINUTES_MAX}
use Rattle.vx_symbol.specs.Rows.{IsRateInRange}
use Rattle.vx_formula.specs.Term.{Term, exponent, HasSmallExponent}
use Rattle.vx_formula.specs.Strip.{StripEntry, upper_end}

ceiling_of : (n m : ℕ) → 1 ≤ m → (n ≤ (n + (m - 1)) / m * m) × ((n + (m - 1)) / m * m < n + m)
ceiling_of n m h = (omega arith, omega arith)

pub upper_end_is_ceiling : (P : ℕ) (entry : StripEntry) → 1 ≤ entry.strike → IsCeiling (pos (5 * (entry.d * entry.q4) * 2 ^ P)) (pos (4 * (entry.strike * entry.strike))) (pos (upper_end P entry))
upper_end_is_ceiling P entry h =
    let square : 1 * 1 ≤ entry.strike * entry.strike = mul-le-mul h h in
    let both = ceiling_of (5 * (entry.d * entry.q4) * 2 ^ P) (4 * (entry.strike * entry.strike)) (omega arith) in
    record { at_least = omega (arith, ints, both.0); last_below = omega (arith, ints, both.1) }

abs_in_range : (z : ℤ) → IsRateInRange z → nat_abs z ≤ 25000000
abs_in_range (pos n) h = omega (arith, ints, h.1)
abs_in_range (negsuc n) h = omega (arith, ints, h.0)

pub exponent_is_small : (term : Term) → IsRateInRange term.rate → term.minutes ≤ MINUTES_MAX
    → (8 * nat_abs (exponent term.rate term.minutes).top ≤ (exponent term.rate term.minutes).bottom) × HasSmallExponent term
exponent_is_small term rate minutes =
    let top = abs_product term.rate (pos term.minutes) 25000000 262800 (abs_in_range term.rate rate) minutes in
    (omega arith, omega arith)
