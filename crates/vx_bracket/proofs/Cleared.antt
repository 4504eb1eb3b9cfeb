-- The cleared sums: they never fall, with twice the next term they never rise, and the first stay below the second.
use Rattle.std.proofs.Common.{◌≡◌, ℕ, zero, suc, ◌+◌, ◌*◌, ◌^◌, ◌<◌, ◌≤◌, inl, inr, refl, ◌∙◌, arith, le_refl, mul-pos, mul-le-mul_left, mul-le-mul_right, eq-or-lt_of_le}
use Rattle.std.proofs.Math.Nat.{le_of_mul-le-mul_left, pow-succ'}
use Rattle.vx_bracket.specs.Cleared.{series_bottom, series_top, upper_top}

-- ---- whole numbers

-- a/b <= c/d and c/d <= e/f give a/b <= e/f
pub quotient_trans : (a b c d e f : ℕ) → 0 < d → a * d ≤ c * b → c * f ≤ e * d → a * f ≤ e * b
quotient_trans a b c d e f hd first second =
    let one : (a * d) * f ≤ (c * b) * f = mul-le-mul_right f first in
    let two : (c * f) * b ≤ (e * d) * b = mul-le-mul_right b second in
    let three : d * (a * f) ≤ d * (e * b) = omega arith in
    le_of_mul-le-mul_left three hd

-- ---- denominators and sums are positive

-- a sum has a positive denominator
pub bottom_positive : (q n : ℕ) → 0 < q → 0 < series_bottom q n
unfolding series_bottom
bottom_positive q zero h = omega arith
bottom_positive q (suc n) h =
    let k : 0 < q * suc n = mul-pos h (omega arith) in mul-pos (bottom_positive q n h) k

-- a sum is at least 1
pub bottom_below_top : (p q n : ℕ) → series_bottom q n ≤ series_top p q n
unfolding series_bottom series_top
bottom_below_top p q zero = le_refl 1
bottom_below_top p q (suc n) =
    let k : series_bottom q n * (q * suc n) ≤ series_top p q n * (q * suc n) = mul-le-mul_right (q * suc n) (bottom_below_top p q n) in
    omega arith

-- so its numerator is positive
pub top_positive : (p q n : ℕ) → 0 < q → 0 < series_top p q n
top_positive p q n h = let b = bottom_below_top p q n in let c = bottom_positive q n h in omega arith

-- ---- nested

-- a sum does not fall by one more term
series_step : (p q n : ℕ) → series_top p q n * series_bottom q (suc n) ≤ series_top p q (suc n) * series_bottom q n
unfolding series_bottom series_top
series_step p q n = omega arith

-- the sum never falls
pub low_nested : (p q n m : ℕ) → 0 < q → n ≤ m → series_top p q n * series_bottom q m ≤ series_top p q m * series_bottom q n
low_nested p q n zero hq h = let e : n ≡ zero = omega arith in rw e (le_refl (series_top p q 0 * series_bottom q 0))
low_nested p q n (suc m) hq h =
    elim (eq-or-lt_of_le h) [
      | inl e ↦ rw e (le_refl (series_top p q (suc m) * series_bottom q (suc m)))
      | inr l ↦
          quotient_trans (series_top p q n) (series_bottom q n) (series_top p q m) (series_bottom q m) (series_top p q (suc m)) (series_bottom q (suc m))
          (bottom_positive q m hq) (low_nested p q n m hq (omega arith)) (series_step p q m)
    ]

-- a sum with twice its next term does not rise by one more
upper_step : (p q n : ℕ) → 2 * p ≤ q * suc (suc n) → upper_top p q (suc n) * series_bottom q (suc n) ≤ upper_top p q n * series_bottom q (suc (suc n))
unfolding series_bottom series_top upper_top
upper_step p q n h =
    let t : ℕ = series_top p q n * (q * suc n) in
    let y : ℕ = p ^ suc n in
    let k : ℕ = q * suc (suc n) in
    let b : ℕ = series_bottom q (suc n) in
    let power : p ^ suc (suc n) ≡ p * y = pow-succ' p (suc n) in
    let step : (2 * p) * y ≤ k * y = mul-le-mul_right y h in
    let below : (t + y) * k + 2 * (p * y) ≤ (t + 2 * y) * k = omega arith in
    let scaled : b * ((t + y) * k + 2 * (p * y)) ≤ b * ((t + 2 * y) * k) = mul-le-mul_left b below in
    rw power (omega arith)

-- with twice the next term the sum never rises, for p/q up to 1
pub high_nested : (p q n m : ℕ) → 0 < q → p ≤ q → n ≤ m → upper_top p q m * series_bottom q (suc n) ≤ upper_top p q n * series_bottom q (suc m)
high_nested p q n zero hq hp h = let e : n ≡ zero = omega arith in rw e (le_refl (upper_top p q 0 * series_bottom q 1))
high_nested p q n (suc m) hq hp h =
    elim (eq-or-lt_of_le h) [
      | inl e ↦ rw e (le_refl (upper_top p q (suc m) * series_bottom q (suc (suc m))))
      | inr l ↦
          quotient_trans (upper_top p q (suc m)) (series_bottom q (suc (suc m))) (upper_top p q m) (series_bottom q (suc m)) (upper_top p q n) (series_bottom q (suc n))
          (bottom_positive q (suc m) hq) (upper_step p q m (two_steps p q m hp)) (high_nested p q n m hq hp (omega arith))
    ]
  where
    two_steps : (p q m : ℕ) → p ≤ q → 2 * p ≤ q * suc (suc m)
    two_steps p q m h = let more : q * 2 ≤ q * suc (suc m) = mul-le-mul_left q (omega arith) in omega arith

-- Taylor's sum is at most the sum with its remainder
pub low_below_high : (p q n : ℕ) → series_top p q n * series_bottom q (suc n) ≤ upper_top p q n * series_bottom q n
unfolding series_bottom series_top upper_top
low_below_high p q n = omega arith

-- ---- at zero

zero_power : (n : ℕ) → 0 ^ suc n ≡ 0
zero_power n = pow-succ' 0 n ∙ omega arith

-- at the exponent 0 the sum is 1
pub top_at_zero : (q n : ℕ) → series_top 0 q n ≡ series_bottom q n
unfolding series_bottom series_top
top_at_zero q zero = refl
top_at_zero q (suc n) = let z = zero_power n in let e = top_at_zero q n in rw (e, z) (omega arith)

-- and so is the sum with its remainder
pub upper_at_zero : (q n : ℕ) → upper_top 0 q n ≡ series_bottom q (suc n)
unfolding series_bottom series_top upper_top
upper_at_zero q n = let z = zero_power n in let e = top_at_zero q n in rw (e, z) (omega arith)
