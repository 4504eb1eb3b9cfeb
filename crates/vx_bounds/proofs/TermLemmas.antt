-- The rounded terms: how they shrink, how close the two lists stay, and how large the ends are. All over natural numbers; u is 2^P.
use Rattle.std.proofs.Common.{◌≡◌, ℕ, zero, suc, ◌+◌, ◌*◌, ◌/◌, ◌%◌, ◌<◌, ◌≤◌, min, arith, mul-le-mul_left, mul-le-mul_right, mul-pos, le_refl, le_trans}
use Rattle.std.proofs.Math.Nat.{div-mul-le_self, lt-div-mul-add, div-add-mod', mod-lt, le_of_mul-le-mul_right, lt_of_mul-lt-mul_right}
use Rattle.std.specs.Int.{div_ceil}
use Rattle.vx_bounds.specs.Exponential.{low_term, high_term}

-- ---- quotients of naturals

-- a quotient rounded up, times its divisor, is at least the dividend
pub ceil_above : (x y : ℕ) → 0 < y → x ≤ div_ceil x y * y
ceil_above x y h = let e = div-add-mod' x y in let r : x % y < y = mod-lt x h in ceil_cases x y (x / y) (x % y) e r
  where
    ceil_cases : (x y d r : ℕ) → d * y + r ≡ x → r < y → x ≤ (d + min 1 r) * y
    ceil_cases x y d zero e l = omega arith
    ceil_cases x y d (suc r) e l = let one : min 1 (suc r) ≡ 1 = omega arith in rw one (omega arith)

-- and less than the divisor above it
pub ceil_below : (x y : ℕ) → 0 < y → div_ceil x y * y < x + y
ceil_below x y h = let e = div-add-mod' x y in let r : x % y < y = mod-lt x h in ceil_cases x y (x / y) (x % y) e r
  where
    ceil_cases : (x y d r : ℕ) → d * y + r ≡ x → r < y → (d + min 1 r) * y < x + y
    ceil_cases x y d zero e l = omega arith
    ceil_cases x y d (suc r) e l = let one : min 1 (suc r) ≡ 1 = omega arith in rw one (omega arith)

-- the divisor of a term is positive
divisor_positive : (q k : ℕ) → 0 < q → 0 < q * suc k
divisor_positive q k h = mul-pos h (omega arith)

-- ---- one step

-- a low term is at most the term before times p / (q * k)
pub low_step : (u p q k : ℕ) → low_term u p q (suc k) * (q * suc k) ≤ low_term u p q k * p
unfolding low_term
low_step u p q k = div-mul-le_self (low_term u p q k * p) (q * suc k)

low_next : (u p q k : ℕ) → 0 < q → low_term u p q k * p < low_term u p q (suc k) * (q * suc k) + q * suc k
unfolding low_term
low_next u p q k h = lt-div-mul-add (divisor_positive q k h)

-- a high term is at least that
pub high_step : (u p q k : ℕ) → 0 < q → high_term u p q k * p ≤ high_term u p q (suc k) * (q * suc k)
unfolding high_term
high_step u p q k h = ceil_above (high_term u p q k * p) (q * suc k) (divisor_positive q k h)

high_next : (u p q k : ℕ) → 0 < q → high_term u p q (suc k) * (q * suc k) < high_term u p q k * p + q * suc k
unfolding high_term
high_next u p q k h = ceil_below (high_term u p q k * p) (q * suc k) (divisor_positive q k h)

-- ---- the two lists stay close

-- each low term is at most its high term
pub low_under_high : (u p q k : ℕ) → 0 < q → low_term u p q k ≤ high_term u p q k
unfolding low_term high_term
low_under_high u p q zero h = le_refl u
low_under_high u p q (suc k) h =
    let before : low_term u p q k * p ≤ high_term u p q k * p = mul-le-mul_right p (low_under_high u p q k h) in
    le_of_mul-le-mul_right (le_trans (low_step u p q k) (le_trans before (high_step u p q k h))) (divisor_positive q k h)

-- h*d < a + d and b < l*d + d, with a at most b + c*p: h is below l + 2 + c where c*p is at most c*d
gap_one : (h l d a b : ℕ) → h * d < a + d → b < l * d + d → a ≤ b → h ≤ l + 1
gap_one h l d a b p q r = let s : h * d < (l + 2) * d = omega arith in let t : h < l + 2 = lt_of_mul-lt-mul_right d s in omega arith

gap_two : (h l d a b e : ℕ) → h * d < a + d → b < l * d + d → a ≤ b + e → e ≤ d → h ≤ l + 2
gap_two h l d a b e p q r f = let s : h * d < (l + 3) * d = omega arith in let t : h < l + 3 = lt_of_mul-lt-mul_right d s in omega arith

-- the first two rounded terms are at most one unit apart
pub first_gap : (u p q : ℕ) → 0 < q → high_term u p q 1 ≤ low_term u p q 1 + 1
unfolding high_term low_term
first_gap u p q h = gap_one (high_term u p q 1) (low_term u p q 1) (q * 1) (high_term u p q 0 * p) (low_term u p q 0 * p) (high_next u p q 0 h) (low_next u p q 0 h) (same u p q)
  where
    same : (u p q : ℕ) → high_term u p q 0 * p ≤ low_term u p q 0 * p
    same u p q = le_refl (u * p)

-- terms at most two units apart have next terms at most two units apart
pub next_gap : (u p q k : ℕ) → 0 < q → 8 * p ≤ q → high_term u p q k ≤ low_term u p q k + 2 → high_term u p q (suc k) ≤ low_term u p q (suc k) + 2
next_gap u p q k h s g =
    let times : high_term u p q k * p ≤ (low_term u p q k + 2) * p = mul-le-mul_right p g in
    let wide : q * 1 ≤ q * suc k = mul-le-mul_left q (omega arith) in
    gap_two (high_term u p q (suc k)) (low_term u p q (suc k)) (q * suc k) (high_term u p q k * p) (low_term u p q k * p) (2 * p)
    (high_next u p q k h) (low_next u p q k h) (omega arith) (omega arith)

-- ---- the terms shrink by 8*(k+1)

-- a high term is less than a unit above the term before over 8 * k
pub high_shrinks : (u p q k : ℕ) → 0 < q → 8 * p ≤ q → 8 * suc k * high_term u p q (suc k) < high_term u p q k + 8 * suc k
high_shrinks u p q k h s =
    let a : ℕ = high_term u p q (suc k) in
    let b : ℕ = high_term u p q k in
    let step : a * (q * suc k) < b * p + q * suc k = high_next u p q k h in
    let less : b * (8 * p) ≤ b * q = mul-le-mul_left b s in
    let scaled : (8 * suc k * a) * q < (b + 8 * suc k) * q = omega arith in
    lt_of_mul-lt-mul_right q scaled

-- a low term is at most the term before over 8 * k
pub low_shrinks : (u p q k : ℕ) → 0 < q → 8 * p ≤ q → 8 * suc k * low_term u p q (suc k) ≤ low_term u p q k
low_shrinks u p q k h s =
    let a : ℕ = low_term u p q (suc k) in
    let b : ℕ = low_term u p q k in
    let step : a * (q * suc k) ≤ b * p = low_step u p q k in
    let less : b * (8 * p) ≤ b * q = mul-le-mul_left b s in
    let scaled : (8 * suc k * a) * q ≤ b * q = omega arith in
    le_of_mul-le-mul_right scaled h
