-- Products within bounds.
use Rattle.std.proofs.Common.{◌≡◌, ◌↔◌, ℕ, ◌+◌, ◌-◌, ◌*◌, ◌^◌, ◌<◌, ◌≤◌, ℤ, pos, negsuc, nat_abs, ◌+ℤ◌, ◌-ℤ◌, ◌*ℤ◌, ◌≤ℤ◌, to_z-of_z, to_z, of_z, FitsSigned, ◌∙◌, ap, lit<, lit≤, arith}
use Rattle.std.proofs.Math.Nat.{pow-le-pow_right}
use Rattle.vx_formula.specs.declared.limits.TheConstants.{VARIANCE_MAX}
use Rattle.vx_claims.specs.declared.limits.TheConstants.{SCALE, SQUARE_MAX, INDEX_END_MAX}
use Rattle.std.proofs.lemmas.Nat.{pow-add}
use Rattle.std.proofs.Math.Nat.{mul_comm}
use Rattle.std.specs.Int.{w128}
use Rattle.std.proofs.lemmas.Int.{ints, fits_signed_mul}
use Rattle.vx_num.proofs.Squares.{abs_product}
use Rattle.vx_claims.specs.TermTests.{IsWithin}

pub abs_within : (n : ℕ) (z : ℤ) → nat_abs z ≤ n → IsWithin n z
abs_within n (pos a) h = (omega (arith, ints), omega (arith, ints))
abs_within n (negsuc a) h = (omega (arith, ints), omega (arith, ints))

pub within_abs : (n : ℕ) (z : ℤ) → IsWithin n z → nat_abs z ≤ n
within_abs n (pos a) h = let low = h.0 in let high = h.1 in omega (arith, ints)
within_abs n (negsuc a) h = let low = h.0 in let high = h.1 in omega (arith, ints)

pub within_more : (m n : ℕ) (z : ℤ) → m ≤ n → IsWithin m z → IsWithin n z
within_more m n z more h = let low = h.0 in let high = h.1 in (omega (arith, ints), omega (arith, ints))

pub within_between : (n : ℕ) (z : ℤ) → pos 0 ≤ℤ z → z ≤ℤ pos n → IsWithin n z
within_between n z low high = (omega (arith, ints), high)

pub product_within : (a b : ℤ) (m n k : ℕ) → IsWithin m a → IsWithin n b → m * n ≤ k → IsWithin k (a *ℤ b)
product_within a b m n k p q fits =
    let bound = abs_product a b m n (within_abs m a p) (within_abs n b q) in
    abs_within k (a *ℤ b) (omega arith)

pub product_fits : (a b : ℤ) (m n : ℕ) → IsWithin m a → IsWithin n b → m * n < 2 ^ 127 → to_z w128 (of_z w128 (a *ℤ b)) ≡ a *ℤ b
product_fits a b m n p q fits = to_z-of_z (fits_signed_mul w128 a b m n (within_abs m a p) (within_abs n b q) fits)

-- a factor of four cancels
pub quarter_of : (P : ℕ) → 2 ≤ P → 2 ^ P ≡ 4 * 2 ^ (P - 2)
quarter_of P h = let e : P ≡ (P - 2) + 2 = omega arith in ap (λ k. 2 ^ k) e ∙ pow-add 2 (P - 2) 2 ∙ mul_comm (2 ^ (P - 2)) 4

pub quarters_in_order : (x k u P : ℕ) → 2 ≤ P → (x * (k * k) ≤ u * 2 ^ (P - 2)) ↔ (x * (4 * (k * k)) ≤ u * 2 ^ P)
quarters_in_order x k u P h =
    let q = quarter_of P h in
    let left : x * (4 * (k * k)) ≡ 4 * (x * (k * k)) = omega arith in
    let right : u * 2 ^ P ≡ 4 * (u * 2 ^ (P - 2)) = ap (λ m. u * m) q ∙ (omega arith) in
    (λ le. omega (arith, left, right), λ le. omega (arith, left, right))

pub quarters_over : (x k u P : ℕ) → 2 ≤ P → (u * 2 ^ (P - 2) ≤ x * (k * k)) ↔ (u * 2 ^ P ≤ x * (4 * (k * k)))
quarters_over x k u P h =
    let q = quarter_of P h in
    let left : x * (4 * (k * k)) ≡ 4 * (x * (k * k)) = omega arith in
    let right : u * 2 ^ P ≡ 4 * (u * 2 ^ (P - 2)) = ap (λ m. u * m) q ∙ (omega arith) in
    (λ le. omega (arith, left, right), λ le. omega (arith, left, right))

-- a number of units times the unit of 1
pub scaled_fits : (P : ℕ) (z : ℤ) → P ≤ SCALE → IsWithin (VARIANCE_MAX * 2 ^ P) z → FitsSigned w128 (z *ℤ pos (2 ^ P))
scaled_fits P z h range =
    let most : 2 ^ P ≤ 2 ^ SCALE = pow-le-pow_right (omega arith) h in
    let number = within_abs (6 * 2 ^ 62) z (within_more (VARIANCE_MAX * 2 ^ P) (6 * 2 ^ 62) z (omega arith) range) in
    let unit : nat_abs (pos (2 ^ P)) ≤ 2 ^ 62 = most in
    fits_signed_mul w128 z (pos (2 ^ P)) (6 * 2 ^ 62) (2 ^ 62) number unit (lit< tt)

-- ---- of a figure

pub variance_within : (P : ℕ) (z : ℤ) → P ≤ SCALE → IsWithin (VARIANCE_MAX * 2 ^ P) z → IsWithin (2 ^ 65) z
variance_within P z h range =
    let most : 2 ^ P ≤ 2 ^ SCALE = pow-le-pow_right (omega arith) h in
    within_more (VARIANCE_MAX * 2 ^ P) (2 ^ 65) z (omega arith) range

pub square_within : (P : ℕ) (z : ℤ) → P ≤ SCALE → IsWithin (SQUARE_MAX * 2 ^ P) z → IsWithin (2 ^ 72) z
square_within P z h range =
    let most : 2 ^ P ≤ 2 ^ SCALE = pow-le-pow_right (omega arith) h in
    within_more (SQUARE_MAX * 2 ^ P) (2 ^ 72) z (omega arith) range

pub sum_within : (n : ℕ) (a b : ℤ) → IsWithin n a → IsWithin n b → IsWithin (2 * n) (a +ℤ b)
sum_within n a b p q = (omega (arith, ints, p.0, q.0), omega (arith, ints, p.1, q.1))

-- the minutes ahead times those between two terms
minutes_apart_within : (a b : ℕ) → a < 2 ^ 32 → b < 2 ^ 32 → IsWithin (2 ^ 32) (pos b -ℤ pos a)
minutes_apart_within a b p q = (omega (arith, ints), omega (arith, ints))

pub span_within : (t a b : ℕ) → t ≤ 172800 → a < 2 ^ 32 → b < 2 ^ 32 → IsWithin (2 ^ 54) (pos t *ℤ (pos b -ℤ pos a))
span_within t a b most p q =
    product_within (pos t) (pos b -ℤ pos a) (2 ^ 18) (2 ^ 32) (2 ^ 54) (omega (arith, ints), omega (arith, ints)) (minutes_apart_within a b p q) (lit≤ tt)

pub span_fits : (t a b : ℕ) → t ≤ 172800 → a < 2 ^ 32 → b < 2 ^ 32 → FitsSigned w128 (pos t *ℤ (pos b -ℤ pos a))
span_fits t a b most p q =
    fits_signed_mul w128 (pos t) (pos b -ℤ pos a) (2 ^ 18) (2 ^ 32) (omega arith) (within_abs (2 ^ 32) (pos b -ℤ pos a) (minutes_apart_within a b p q)) (lit< tt)

-- the square of a printed end, and at a scale
module _ (z : ℤ) (low : pos 0 ≤ℤ z) (high : z ≤ℤ pos INDEX_END_MAX) where
  end_within : IsWithin INDEX_END_MAX z
  end_within = within_between INDEX_END_MAX z low high

  pub end_square : to_z w128 (of_z w128 (z *ℤ z)) ≡ z *ℤ z
  end_square = product_fits z z INDEX_END_MAX INDEX_END_MAX end_within end_within (lit< tt)

  pub scaled_square_fits : (P : ℕ) → P ≤ SCALE → FitsSigned w128 (z *ℤ z *ℤ pos (2 ^ P))
  scaled_square_fits P h =
      let most : 2 ^ P ≤ 2 ^ SCALE = pow-le-pow_right (omega arith) h in
      let square = within_abs (2 ^ 64) (z *ℤ z) (product_within z z INDEX_END_MAX INDEX_END_MAX (2 ^ 64) end_within end_within (lit≤ tt)) in
      let unit : nat_abs (pos (2 ^ P)) ≤ 2 ^ 62 = most in
      fits_signed_mul w128 (z *ℤ z) (pos (2 ^ P)) (2 ^ 64) (2 ^ 62) square unit (lit< tt)
