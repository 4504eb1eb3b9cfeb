-- Products and squares of numbers within bounds, and signed squares.
use Rattle.std.proofs.Common.{◌≡◌, refl, ap, ℕ, zero, suc, ◌+◌, ◌*◌, ◌≤◌, ◌<◌, ℤ, pos, negsuc, ◌+ℤ◌, ◌-ℤ◌, ◌*ℤ◌, neg_ℤ, ◌≤ℤ◌, ◌<ℤ◌, arith}
use Rattle.std.specs.Prelude.{nat_abs}
use Rattle.std.proofs.lemmas.Int.{ints, by_lt_z, unsigned_abs-mul}
use native.Mathlib.Nat.{mul-le-mul, mul-le-mul_left, mul-le-mul_right}
use Rattle.vx_num.specs.SignedSquare.{signed_square}
use Rattle.vx_num.proofs.Differences.{is_difference, pos_is_difference, differences, same_difference}
use Rattle.vx_num.proofs.Whole.{mul_mono_left, mul_nonneg, square_nonneg}

-- |x| ≤ m and |y| ≤ n: |x * y| ≤ m * n
pub abs_product : (x y : ℤ) (m n : ℕ) → nat_abs x ≤ m → nat_abs y ≤ n → nat_abs (x *ℤ y) ≤ m * n
abs_product x y m n p q = rw (unsigned_abs-mul x y) (mul-le-mul p q)

product_gap_is : (x1 y1 x2 y2 : ℤ) → x1 *ℤ y1 -ℤ x2 *ℤ y2 ≡ x1 *ℤ (y1 -ℤ y2) +ℤ y2 *ℤ (x1 -ℤ x2)
product_gap_is x1 y1 x2 y2 = rw (is_difference x1, is_difference y1, is_difference x2, is_difference y2) (simp differences (same_difference _ _ _ _ (omega arith)))

-- how far two products are apart, by how far their factors are
pub product_gap : (x1 y1 x2 y2 : ℤ) (m n v w : ℕ) → nat_abs x1 ≤ m → nat_abs y2 ≤ n → nat_abs (x1 -ℤ x2) ≤ v → nat_abs (y1 -ℤ y2) ≤ w → (x1 *ℤ y1 -ℤ x2 *ℤ y2) ≤ℤ pos (m * w + n * v)
product_gap x1 y1 x2 y2 m n v w p q r s =
    let first = abs_product x1 (y1 -ℤ y2) m w p s in
    let second = abs_product y2 (x1 -ℤ x2) n v q r in
    rw (product_gap_is x1 y1 x2 y2) (omega (arith, ints, first, second))

-- the same of two squares
pub square_gap : (x y : ℤ) (m v : ℕ) → nat_abs x ≤ m → nat_abs y ≤ m → nat_abs (x -ℤ y) ≤ v → (x *ℤ x -ℤ y *ℤ y) ≤ℤ pos (2 * m * v)
square_gap x y m v p q r = omega (arith, ints, product_gap x x y y m m v v p q r r)

-- ---- signed squares

-- the signed square of a number that is not negative is its square
pub signed_square_of_nonneg : (z : ℤ) → pos 0 ≤ℤ z → signed_square z ≡ z *ℤ z
signed_square_of_nonneg (pos n) h = refl
signed_square_of_nonneg (negsuc n) h = absurd (omega (arith, ints))

-- that of another is its square below zero
pub signed_square_of_negative : (z : ℤ) → z ≤ℤ pos 0 → signed_square z ≡ neg_ℤ (z *ℤ z)
signed_square_of_negative (pos zero) h = refl
signed_square_of_negative (pos (suc n)) h = absurd (omega (arith, ints))
signed_square_of_negative (negsuc n) h = omega (arith, ints)

-- the signed square of the opposite is the opposite
pub signed_square-neg : (z : ℤ) → signed_square (neg_ℤ z) ≡ neg_ℤ (signed_square z)
signed_square-neg (pos zero) = refl
signed_square-neg (pos (suc n)) = omega (arith, ints)
signed_square-neg (negsuc n) = omega (arith, ints)

nat_square_strict : (m n : ℕ) → m < n → m * m < n * n
nat_square_strict m n h = let a : m * m ≤ m * n = mul-le-mul_left m (omega arith) in let b : suc m * n ≤ n * n = mul-le-mul_right n h in omega arith

-- it rises with the number
pub signed_square_strict : (x y : ℤ) → x <ℤ y → signed_square x <ℤ signed_square y
signed_square_strict (pos x) (pos y) h = let l : x < y = omega (arith, ints) in omega (arith, ints, nat_square_strict x y l)
signed_square_strict (pos x) (negsuc y) h = absurd (omega (arith, ints))
signed_square_strict (negsuc x) (pos y) h = omega (arith, ints)
signed_square_strict (negsuc x) (negsuc y) h = let l : suc y < suc x = omega (arith, ints) in omega (arith, ints, nat_square_strict (suc y) (suc x) l)

-- so signed squares keep the order
pub signed_square_mono : (x y : ℤ) → x ≤ℤ y → signed_square x ≤ℤ signed_square y
signed_square_mono x y h = by_lt_z x y (λ l. omega (arith, ints, signed_square_strict x y l)) (λ l. let e : x ≡ y = omega (arith, ints) in omega (arith, ints, ap signed_square e))

-- and give it back
pub signed_square_cancel : (x y : ℤ) → signed_square x ≤ℤ signed_square y → x ≤ℤ y
signed_square_cancel x y h = by_lt_z y x (λ l. absurd (omega (arith, ints, signed_square_strict y x l))) (λ l. l)

-- also where it is strict
pub signed_square_cancel_strict : (x y : ℤ) → signed_square x <ℤ signed_square y → x <ℤ y
signed_square_cancel_strict x y h = by_lt_z x y (λ l. l) (λ l. absurd (omega (arith, ints, signed_square_mono y x l)))

-- p ≤ r: the square of the distance is at most twice the distance of the signed squares
pub signed_square_half : (p r : ℤ) → p ≤ℤ r → ((r -ℤ p) *ℤ (r -ℤ p)) ≤ℤ (pos 2 *ℤ (signed_square r -ℤ signed_square p))
signed_square_half p r h = by_lt_z p (pos 0)
    (λ n. by_lt_z r (pos 0)
    (λ m. let d : pos 0 ≤ℤ (r -ℤ p) = omega (arith, ints) in
    let s : (r -ℤ p) ≤ℤ neg_ℤ (r +ℤ p) = omega (arith, ints) in
    rw (signed_square_of_negative r (omega (arith, ints)), signed_square_of_negative p (omega (arith, ints)))
    (omega (arith, ints, mul_mono_left (r -ℤ p) (neg_ℤ (r +ℤ p)) (r -ℤ p) d s, below r p, mul_nonneg (r -ℤ p) (r -ℤ p) d d)))
    (λ m. rw (signed_square_of_nonneg r m, signed_square_of_negative p (omega (arith, ints)))
    (omega (arith, ints, square_nonneg (r +ℤ p), across r p))))
    (λ n. let d : pos 0 ≤ℤ (r -ℤ p) = omega (arith, ints) in
    let s : (r -ℤ p) ≤ℤ (r +ℤ p) = omega (arith, ints) in
    rw (signed_square_of_nonneg r (omega (arith, ints)), signed_square_of_nonneg p n)
    (omega (arith, ints, mul_mono_left (r -ℤ p) (r +ℤ p) (r -ℤ p) d s, above r p, mul_nonneg (r -ℤ p) (r -ℤ p) d d)))
  where
    above : (r p : ℤ) → (r -ℤ p) *ℤ (r +ℤ p) ≡ r *ℤ r -ℤ p *ℤ p
    above r p = rw (is_difference r, is_difference p) (simp differences (same_difference _ _ _ _ (omega arith)))

    below : (r p : ℤ) → (r -ℤ p) *ℤ neg_ℤ (r +ℤ p) ≡ p *ℤ p -ℤ r *ℤ r
    below r p = rw (is_difference r, is_difference p) (simp differences (same_difference _ _ _ _ (omega arith)))

    across : (r p : ℤ) → (r +ℤ p) *ℤ (r +ℤ p) ≡ pos 2 *ℤ (r *ℤ r +ℤ p *ℤ p) -ℤ (r -ℤ p) *ℤ (r -ℤ p)
    across r p = rw (is_difference r, is_difference p, pos_is_difference 2) (simp differences (same_difference _ _ _ _ (omega arith)))
