-- Identities of whole numbers, by one short line each. Every whole number is a difference of two naturals, and sums and products of differences are differences.
-- For variables x and y: `rw (is_difference x, is_difference y) (simp differences (same_difference _ _ _ _ (omega arith)))`, which asks `omega` for an equation of natural numbers alone.
use Rattle.std.proofs.Common.{◌≡◌, ap, ℕ, ◌+◌, ◌*◌, ◌≤◌, ℤ, pos, negsuc, ◌+ℤ◌, ◌-ℤ◌, ◌*ℤ◌, neg_ℤ, ◌≤ℤ◌, arith}
use Rattle.std.proofs.lemmas.Int.{ints}
use borrow.Author.Differences.{up, down, product_is, same_in}

-- m - n
pub difference : ℕ → ℕ → ℤ
difference m n = pos m -ℤ pos n

difference_is : (m n : ℕ) → up (difference m n) + n ≡ down (difference m n) + m
unfolding difference
difference_is m n = omega (arith, ints)

-- each whole number is the difference of its parts above and below zero
pub is_difference : (z : ℤ) → z ≡ difference (up z) (down z)
unfolding difference
is_difference (pos n) = omega (arith, ints)
is_difference (negsuc n) = omega (arith, ints)

-- a natural is its difference from 0
pub pos_is_difference : (n : ℕ) → pos n ≡ difference n 0
unfolding difference
pos_is_difference n = omega (arith, ints)

-- the opposite exchanges the two
pub difference-neg : (a b : ℕ) → neg_ℤ (difference a b) ≡ difference b a
unfolding difference
difference-neg a b = omega (arith, ints)

-- a sum of differences is the difference of sums
pub difference-add : (a b c d : ℕ) → difference a b +ℤ difference c d ≡ difference (a + c) (b + d)
unfolding difference
difference-add a b c d = omega (arith, ints)

times : (a b c d p q r s : ℕ) → p + b ≡ q + a → r + d ≡ s + c → (p * r + q * s) + (a * d + b * c) ≡ (p * s + q * r) + (a * c + b * d)
times a b c d p q r s e f =
    let by_r = ap (λ x. x * r) e in
    let by_s = ap (λ x. x * s) e in
    let by_a = ap (λ x. x * a) f in
    let by_b = ap (λ x. x * b) f in
    omega arith

-- a product of differences is a difference
pub difference-mul : (a b c d : ℕ) → difference a b *ℤ difference c d ≡ difference (a * c + b * d) (a * d + b * c)
difference-mul a b c d =
    let e = times a b c d (up (difference a b)) (down (difference a b)) (up (difference c d)) (down (difference c d)) (difference_is a b) (difference_is c d) in
    let f = difference_is (a * c + b * d) (a * d + b * c) in
    let p = product_is (difference a b) (difference c d) in
    same_in _ _ (omega (arith, p.0, p.1, e, f))

-- two differences are the same where the sums across are
pub same_difference : (a b c d : ℕ) → a + d ≡ c + b → difference a b ≡ difference c d
unfolding difference
same_difference a b c d e = omega (arith, ints)

-- and are ordered as the sums across
pub difference_at_most : (a b c d : ℕ) → a + d ≤ c + b → difference a b ≤ℤ difference c d
unfolding difference
difference_at_most a b c d e = omega (arith, ints)

pub ruleset differences = (difference-neg, difference-add, difference-mul)
