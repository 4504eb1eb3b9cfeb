-- Quotients rounded up from quotients rounded down, and the powers of two that count as 1.
use Rattle.std.proofs.Common.{◌≡◌, ℕ, ◌+◌, ◌-◌, ◌*◌, ◌/◌, ◌^◌, ◌<◌, ◌≤◌, sym, ◌∙◌, ap, arith}
use Rattle.std.proofs.lemmas.Nat.{div-mul-add}
use Rattle.std.proofs.Math.Nat.{pow-le-pow_right}

-- a quotient that is not exact is one more when it is rounded up
pub one_up : (n m f : ℕ) → 0 < m → f ≡ n / m → (f * m ≡ n → ⊥) → f + 1 ≡ (n + (m - 1)) / m
one_up n m f positive floor inexact =
    let at_most : n / m * m ≤ n = omega arith in
    let next : n < n / m * m + m = omega arith in
    let same : f * m ≡ n / m * m = ap (λ x. x * m) floor in
    let rest = n - f * m - 1 in
    let split : n + (m - 1) ≡ (f + 1) * m + rest = omega (arith, same, at_most, next, inexact) in
    sym (ap (λ x. x / m) split ∙ div-mul-add (f + 1) m rest (omega (arith, same, next)))

-- the unit of a scale of at most 62 is at most 2^62
pub power_of_two_at_most : (P u : ℕ) → P ≤ 62 → u ≡ 2 ^ P → u ≤ 2 ^ 62
power_of_two_at_most P u small is =
    let most : 2 ^ P ≤ 2 ^ 62 = pow-le-pow_right {n = 2} (omega arith) small in
    omega (arith, is, most)
