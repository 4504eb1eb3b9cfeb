-- The amount of a position.
use Rattle.std.proofs.Common.{◌≡◌, ℕ, ◌*◌, ◌^◌, ◌≤◌, ℤ, pos, ◌-ℤ◌, ◌*ℤ◌, FitsSigned, sym, ap, ◌∙◌, refl, arith, lit<, subst, to_z, of_z}
use Rattle.std.specs.Prelude.{nat_abs}
use mir.Syntax.{w32, w128}
use Rattle.std.proofs.lemmas.Int.{ints, fits_signed_from_abs, fits_signed_mul, to_z-of_z, unsigned_abs-mul}
use native.Mathlib.Nat.{mul-le-mul}
use Rattle.vx_num.proofs.Whole.{mul_assoc, mul_left_comm}
use Rattle.vx_settle.specs.declared.position.Contract.{Contract}
use Rattle.vx_settle.specs.declared.position.Contract.TheVariants.{Vx, Vxm}
use Rattle.vx_settle.specs.declared.position.Position.{Position}
use Rattle.vx_settle.specs.Amount.{IsAmount}
use Rattle.vx_settle.specs.Position.{multiplier_of}

-- a hundred times a product with a hundredth
pub times_hundred : (gain quantity : ℤ) (cents dollars : ℕ) → dollars ≡ 100 * cents → pos 100 *ℤ (gain *ℤ pos cents *ℤ quantity) ≡ gain *ℤ pos dollars *ℤ quantity
times_hundred gain quantity cents dollars e =
    sym (mul_assoc (pos 100) (gain *ℤ pos cents) quantity) ∙ ap (λ z. z *ℤ quantity) (mul_left_comm (pos 100) gain (pos cents) ∙ ap (λ (n : ℕ). gain *ℤ pos n) (sym e))

-- cents for a ten-thousandth of a point
cents_of : Contract → ℕ
cents_of Vx = 10
cents_of Vxm = 1

dollars_are : (contract : Contract) → multiplier_of contract ≡ 100 * cents_of contract
unfolding cents_of
dollars_are Vx = refl
dollars_are Vxm = refl

-- every position has an amount at every figure
pub amount_is_there : (figure : ℕ) (p : Position) → (amount : ℤ) × IsAmount figure p amount
amount_is_there figure p =
    let gain : ℤ = pos (100 * figure) -ℤ pos p.last in
    (gain *ℤ pos (cents_of p.contract) *ℤ p.quantity, times_hundred gain p.quantity (cents_of p.contract) (multiplier_of p.contract) (dollars_are p.contract))

hundredth_is_one : (a b hundredfold : ℤ) → pos 100 *ℤ a ≡ hundredfold → pos 100 *ℤ b ≡ hundredfold → a ≡ b
hundredth_is_one a b hundredfold e f = omega (arith, ints)

-- and one alone
pub amount_is_one : (figure : ℕ) (p : Position) (a b : ℤ) → IsAmount figure p a → IsAmount figure p b → a ≡ b
amount_is_one figure p a b e f =
    hundredth_is_one a b ((pos (100 * figure) -ℤ pos p.last) *ℤ pos (multiplier_of p.contract) *ℤ p.quantity) e f

-- a number as the code holds it, in 128 bits
abbrev pub cast : ℤ → ℤ
cast z = to_z w128 (of_z w128 z)

-- the products that the code makes: a gain below 2 ^ 32, at most ten cents and at most a million contracts have room in 128 bits
gain_fits : (gain : ℤ) → nat_abs gain ≤ 2 ^ 32 → FitsSigned w128 gain
gain_fits gain h = fits_signed_from_abs w128 gain (omega arith)

cents_fit : (cents : ℕ) → cents ≤ 10 → FitsSigned w128 (pos cents)
cents_fit cents k = fits_signed_from_abs w128 (pos cents) (omega arith)

quantity_fits : (quantity : ℤ) → nat_abs quantity ≤ 1000000 → FitsSigned w128 quantity
quantity_fits quantity q = fits_signed_from_abs w128 quantity (omega arith)

first_fits : (gain : ℤ) (cents : ℕ) → nat_abs gain ≤ 2 ^ 32 → cents ≤ 10 → FitsSigned w128 (gain *ℤ pos cents)
first_fits gain cents h k = fits_signed_mul w128 gain (pos cents) (2 ^ 32) 10 h k (lit< tt)

both_fit : (gain : ℤ) (cents : ℕ) (quantity : ℤ) → nat_abs gain ≤ 2 ^ 32 → cents ≤ 10 → nat_abs quantity ≤ 1000000 → FitsSigned w128 (gain *ℤ pos cents *ℤ quantity)
both_fit gain cents quantity h k q =
    let first : nat_abs (gain *ℤ pos cents) ≤ 2 ^ 32 * 10 = omega (arith, unsigned_abs-mul gain (pos cents), mul-le-mul h k) in
    fits_signed_mul w128 (gain *ℤ pos cents) quantity (2 ^ 32 * 10) 1000000 first q (lit< tt)

amount_within : (gain : ℤ) (cents : ℕ) (quantity : ℤ) → nat_abs gain ≤ 2 ^ 32 → cents ≤ 10 → nat_abs quantity ≤ 1000000 → nat_abs (gain *ℤ pos cents *ℤ quantity) ≤ 2 ^ 56
amount_within gain cents quantity h k q =
    let first : nat_abs (gain *ℤ pos cents) ≤ 2 ^ 32 * 10 = omega (arith, unsigned_abs-mul gain (pos cents), mul-le-mul h k) in
    omega (arith, unsigned_abs-mul (gain *ℤ pos cents) quantity, mul-le-mul first q)

first_is : (gain : ℤ) (cents : ℕ) → nat_abs gain ≤ 2 ^ 32 → cents ≤ 10 → cast gain *ℤ cast (pos cents) ≡ gain *ℤ pos cents
first_is gain cents h k = λ i. to_z-of_z w128 gain (gain_fits gain h) i *ℤ to_z-of_z w128 (pos cents) (cents_fit cents k) i

both_are : (gain : ℤ) (cents : ℕ) (quantity : ℤ) → nat_abs gain ≤ 2 ^ 32 → cents ≤ 10 → nat_abs quantity ≤ 1000000
    → cast (cast gain *ℤ cast (pos cents)) *ℤ cast quantity ≡ gain *ℤ pos cents *ℤ quantity
both_are gain cents quantity h k q =
    (λ i. cast (first_is gain cents h k i) *ℤ to_z-of_z w128 quantity (quantity_fits quantity q) i)
    ∙ ap (λ z. z *ℤ quantity) (to_z-of_z w128 (gain *ℤ pos cents) (first_fits gain cents h k))

-- the amount has room in 128 bits
pub amount_fits : (gain wide_cents wide_quantity : ℤ) (cents : ℕ) (quantity : ℤ) → wide_cents ≡ pos cents → wide_quantity ≡ quantity
    → nat_abs gain ≤ 2 ^ 32 → cents ≤ 10 → nat_abs quantity ≤ 1000000
    → FitsSigned w128 (cast (cast gain *ℤ cast wide_cents) *ℤ cast wide_quantity)
amount_fits gain wide_cents wide_quantity cents quantity e f h k q =
    subst (FitsSigned w128) (sym ((λ i. cast (cast gain *ℤ cast (e i)) *ℤ cast (f i)) ∙ both_are gain cents quantity h k q)) (both_fit gain cents quantity h k q)

-- so the computed product is the amount
pub amount_is : (gain wide_cents wide_quantity : ℤ) (cents : ℕ) (quantity : ℤ) → wide_cents ≡ pos cents → wide_quantity ≡ quantity
    → nat_abs gain ≤ 2 ^ 32 → cents ≤ 10 → nat_abs quantity ≤ 1000000
    → cast (cast (cast gain *ℤ cast wide_cents) *ℤ cast wide_quantity) ≡ gain *ℤ pos cents *ℤ quantity
amount_is gain wide_cents wide_quantity cents quantity e f h k q =
    (λ i. cast (cast (cast gain *ℤ cast (e i)) *ℤ cast (f i)))
    ∙ (ap (λ z. cast z) (both_are gain cents quantity h k q) ∙ to_z-of_z w128 (gain *ℤ pos cents *ℤ quantity) (both_fit gain cents quantity h k q))

-- and what they make is below 2 ^ 56
pub amount_bound : (gain wide_cents wide_quantity : ℤ) (cents : ℕ) (quantity : ℤ) → wide_cents ≡ pos cents → wide_quantity ≡ quantity → nat_abs gain ≤ 2 ^ 32 → cents ≤ 10 → nat_abs quantity ≤ 1000000
    → nat_abs (cast (cast (cast gain *ℤ cast wide_cents) *ℤ cast wide_quantity)) ≤ 2 ^ 56
amount_bound gain wide_cents wide_quantity cents quantity e f h k q =
    subst (λ (z : ℤ). nat_abs z ≤ 2 ^ 56) (sym (amount_is gain wide_cents wide_quantity cents quantity e f h k q)) (amount_within gain cents quantity h k q)

-- a quantity in range keeps its value in 32 bits
pub quantity_is : (quantity : ℤ) → nat_abs quantity ≤ 1000000 → to_z w32 (of_z w32 quantity) ≡ quantity
quantity_is quantity q = to_z-of_z w32 quantity (fits_signed_from_abs w32 quantity (omega arith))
