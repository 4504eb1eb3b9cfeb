-- How wide the exponential's ends lie apart, and how large they are.
use Rattle.std.proofs.Common.{◌≡◌, ℕ, zero, suc, ◌+◌, ◌*◌, ◌^◌, ◌<◌, ◌≤◌, refl, arith, mul-le-mul_right, le_refl, le_trans}
use Rattle.vx_bounds.specs.Exponential.{low_term, high_term, low_sum_to, high_sum_to, low_end, high_end}
use Rattle.vx_bounds.proofs.TermLemmas.{low_under_high, first_gap, next_gap, high_shrinks, low_shrinks}

-- what is known of the scale
pub record IsUnit (u : ℕ) : Type 0 where
  pub v : ℕ
  pub whole : u ≡ 128 * v
  pub low : 2 ^ 40 ≤ u
  pub high : u ≤ 2 ^ 62

-- the first high term is the unit
pub high_first : (u p q : ℕ) → high_term u p q 0 ≡ u
unfolding high_term
high_first u p q = refl

-- and so is the first low term
pub low_first : (u p q : ℕ) → low_term u p q 0 ≡ u
unfolding low_term
low_first u p q = refl

-- each term after the third is at most the one before
falls : (a b c : ℕ) → 2 ≤ c → c * a < b + c → a ≤ b
falls zero b c two h = omega arith
falls (suc a) b c two h = let m : 2 * suc a ≤ c * suc a = mul-le-mul_right (suc a) two in let n : c * a + c < b + c = omega arith in let k : 2 * a ≤ c * a = mul-le-mul_right a two in falls_more a b c n k
  where
    falls_more : (a b c : ℕ) → c * a + c < b + c → 2 * a ≤ c * a → suc a ≤ b
    falls_more zero b c n k = omega arith
    falls_more (suc a) b c n k = omega arith

-- high terms do not grow
pub high_falls : (u p q k : ℕ) → 0 < q → 8 * p ≤ q → high_term u p q (suc k) ≤ high_term u p q k
high_falls u p q k h s =
    falls (high_term u p q (suc k)) (high_term u p q k) (8 * suc k) (omega arith) (high_shrinks u p q k h s)

-- so each is at most the unit
pub high_at_most : (u p q k : ℕ) → 0 < q → 8 * p ≤ q → high_term u p q k ≤ u
high_at_most u p q zero h s = rw (high_first u p q) (le_refl u)
high_at_most u p q (suc k) h s = le_trans (high_falls u p q k h s) (high_at_most u p q k h s)

-- and each low term
pub low_at_most : (u p q k : ℕ) → 0 < q → 8 * p ≤ q → low_term u p q k ≤ u
low_at_most u p q k h s = le_trans (low_under_high u p q k h) (high_at_most u p q k h s)

-- the last term is at most one unit
pub last_term : (u p q : ℕ) → 0 < q → 8 * p ≤ q → u ≤ 2 ^ 62 → high_term u p q 13 ≤ 1
last_term u p q h s l =
    let e = high_first u p q in
    let h1 : high_term u p q 1 ≤ 576460752303423488 = omega (arith, high_shrinks u p q 0 h s) in
    let h2 : high_term u p q 2 ≤ 36028797018963968 = omega (arith, high_shrinks u p q 1 h s) in
    let h3 : high_term u p q 3 ≤ 1501199875790166 = omega (arith, high_shrinks u p q 2 h s) in
    let h4 : high_term u p q 4 ≤ 46912496118443 = omega (arith, high_shrinks u p q 3 h s) in
    let h5 : high_term u p q 5 ≤ 1172812402962 = omega (arith, high_shrinks u p q 4 h s) in
    let h6 : high_term u p q 6 ≤ 24433591729 = omega (arith, high_shrinks u p q 5 h s) in
    let h7 : high_term u p q 7 ≤ 436314139 = omega (arith, high_shrinks u p q 6 h s) in
    let h8 : high_term u p q 8 ≤ 6817409 = omega (arith, high_shrinks u p q 7 h s) in
    let h9 : high_term u p q 9 ≤ 94687 = omega (arith, high_shrinks u p q 8 h s) in
    let h10 : high_term u p q 10 ≤ 1184 = omega (arith, high_shrinks u p q 9 h s) in
    let h11 : high_term u p q 11 ≤ 14 = omega (arith, high_shrinks u p q 10 h s) in
    let h12 : high_term u p q 12 ≤ 1 = omega (arith, high_shrinks u p q 11 h s) in
    omega (arith, high_shrinks u p q 12 h s)

-- the two lists are at most 2 units apart, and 1 and 0 at the start
pub gap_after : (u p q k : ℕ) → 0 < q → 8 * p ≤ q → high_term u p q (suc k) ≤ low_term u p q (suc k) + 2
gap_after u p q zero h s = let g : high_term u p q 1 ≤ low_term u p q 1 + 1 = first_gap u p q h in omega arith
gap_after u p q (suc k) h s = next_gap u p q (suc k) h s (gap_after u p q k h s)

-- the sums of the terms up to n are 2*n - 1 apart
pub sum_gap : (u p q n : ℕ) → 0 < q → 8 * p ≤ q → high_sum_to u p q (suc n) ≤ low_sum_to u p q (suc n) + (2 * n + 1)
unfolding high_sum_to low_sum_to
sum_gap u p q zero h s =
    let a = high_first u p q in
    let b = low_first u p q in
    let g : high_term u p q 1 ≤ low_term u p q 1 + 1 = first_gap u p q h in
    omega arith
sum_gap u p q (suc n) h s =
    let before : high_sum_to u p q (suc n) ≤ low_sum_to u p q (suc n) + (2 * n + 1) = sum_gap u p q n h s in
    let here : high_term u p q (suc (suc n)) ≤ low_term u p q (suc (suc n)) + 2 = gap_after u p q (suc n) h s in
    omega arith

-- the low sum is at most the high sum
pub sum_order : (u p q n : ℕ) → 0 < q → low_sum_to u p q n ≤ high_sum_to u p q n
unfolding high_sum_to low_sum_to
sum_order u p q zero h = low_under_high u p q 0 h
sum_order u p q (suc n) h = let a = sum_order u p q n h in let b = low_under_high u p q (suc n) h in omega arith

-- A <= B <= A + 25
pub ends_order : (u p q : ℕ) → 0 < q → low_end u p q ≤ high_end u p q
unfolding low_end high_end
ends_order u p q h = let a = sum_order u p q 12 h in omega arith

-- the two ends are at most 25 units apart
pub ends_close : (u p q : ℕ) → 0 < q → 8 * p ≤ q → u ≤ 2 ^ 62 → high_end u p q ≤ low_end u p q + 25
unfolding low_end high_end
ends_close u p q h s l =
    let g : high_sum_to u p q 12 ≤ low_sum_to u p q 12 + 23 = sum_gap u p q 11 h s in
    let t : high_term u p q 13 ≤ 1 = last_term u p q h s l in
    omega arith

-- u <= A
pub low_sum_grows : (u p q n : ℕ) → u ≤ low_sum_to u p q n
unfolding low_sum_to
low_sum_grows u p q zero = rw (low_first u p q) (le_refl u)
low_sum_grows u p q (suc n) = let a = low_sum_grows u p q n in omega arith

-- the low end is at least the unit
pub low_end_above : (u p q : ℕ) → u ≤ low_end u p q
unfolding low_end
low_end_above u p q = low_sum_grows u p q 12

-- 1000 * B <= 1134 * u
pub high_end_below : (u p q : ℕ) → 0 < q → 8 * p ≤ q → IsUnit u → 1000 * high_end u p q ≤ 1134 * u
unfolding high_end high_sum_to
high_end_below u p q h s k =
    let e = high_first u p q in
    let w = k.whole in
    let low = k.low in
    let s0 = high_shrinks u p q 0 h s in
    let s1 = high_shrinks u p q 1 h s in
    let s2 = high_shrinks u p q 2 h s in
    let s3 = high_shrinks u p q 3 h s in
    let h1 : 8 * high_term u p q 1 ≤ u = omega arith in
    let h2 : 128 * high_term u p q 2 ≤ u = omega arith in
    let f4 = high_falls u p q 4 h s in
    let f5 = high_falls u p q 5 h s in
    let f6 = high_falls u p q 6 h s in
    let f7 = high_falls u p q 7 h s in
    let f8 = high_falls u p q 8 h s in
    let f9 = high_falls u p q 9 h s in
    let f10 = high_falls u p q 10 h s in
    let f11 = high_falls u p q 11 h s in
    let f12 = high_falls u p q 12 h s in
    omega arith

-- ---- sums on the way fit: what is added so far and the last term are at most 2*u, and 2 for each rounding up

-- the low sum with its last term stays within twice the unit
pub low_so_far : (u p q n : ℕ) → 0 < q → 8 * p ≤ q → low_sum_to u p q n + low_term u p q n ≤ 2 * u
unfolding low_sum_to
low_so_far u p q zero h s = let e = low_first u p q in omega arith
low_so_far u p q (suc n) h s =
    let before = low_so_far u p q n h s in
    let shrinks = low_shrinks u p q n h s in
    let more : 2 * low_term u p q (suc n) ≤ 8 * suc n * low_term u p q (suc n) = mul-le-mul_right (low_term u p q (suc n)) (omega arith) in
    omega arith

half : (a b c : ℕ) → 2 ≤ c → c * a < b + c → 2 * a ≤ b + 2
half zero b c two h = omega arith
half (suc a) b c two h = let k : 2 * a ≤ c * a = mul-le-mul_right a two in let n : c * a + c < b + c = omega arith in omega arith

-- the high sum with its last term stays within twice the unit and twice the count of terms
pub high_so_far : (u p q n : ℕ) → 0 < q → 8 * p ≤ q → high_sum_to u p q n + high_term u p q n ≤ 2 * u + 2 * n
unfolding high_sum_to
high_so_far u p q zero h s = let e = high_first u p q in omega arith
high_so_far u p q (suc n) h s =
    let before = high_so_far u p q n h s in
    let shrinks = half (high_term u p q (suc n)) (high_term u p q n) (8 * suc n) (omega arith) (high_shrinks u p q n h s) in
    omega arith
