-- Roots of whole numbers.
use Rattle.std.proofs.Common.{◌≡◌, ◌∙◌, ℕ, zero, suc, ◌+◌, ◌-◌, ◌*◌, ◌<◌, ◌≤◌, ℤ, pos, negsuc, ◌+ℤ◌, ◌-ℤ◌, ◌*ℤ◌, neg_ℤ, nat_abs, ◌≤ℤ◌, ◌<ℤ◌, refl, sym, ap, subst, arith, mul-le-mul, inl, inr, to_z-of_z}
use Rattle.std.proofs.lemmas.Int.{ints}
use Rattle.std.proofs.lemmas.Bool.{cases_lt}
use Rattle.std.specs.Prelude.{FitsSigned, ◌^◌}
use mir.Syntax.{w128}
use Rattle.vx_interval.proofs.Widths.{within}
use Rattle.vx_interval.proofs.Ranges.{cast, fits_within}
use Rattle.vx_num.specs.SignedSquare.{signed_square}
use Rattle.vx_num.specs.Quotient.{IsFloor, IsCeiling}
use Rattle.vx_num.proofs.Whole.{add_mul, mul_mono}
use Rattle.vx_num.proofs.Squares.{signed_square-neg}
use Rattle.vx_num.proofs.Quotients.{floor_within, ceiling_within}
use Rattle.vx_bounds.specs.Root.{IsGreatestRoot, IsLeastRoot}

-- r * r at most 3200000000 * 3200000000: so is r
pub root_bound : (r : ℕ) → r * r ≤ 10240000000000000000 → r ≤ 3200000000
root_bound r h =
    elim (cases_lt 3200000000 r) [
      | inl l ↦ let m : 3200000001 * 3200000001 ≤ r * r = mul-le-mul l l in absurd (omega arith)
      | inr l ↦ l
    ]

-- the number below the least root of n, where the root of n is r or r + 1
pub root_above_bound : (r n : ℕ) → r * r < n → n ≤ 10240000000000000000 → r + 1 ≤ 3200000000
root_above_bound r n h l =
    elim (cases_lt r 3200000000) [
      | inl m ↦ omega arith
      | inr m ↦ let k : 3200000000 * 3200000000 ≤ r * r = mul-le-mul m m in absurd (omega arith)
    ]

-- the number before a root has a lesser square
pub square_before : (r n : ℕ) → 0 < r → r * r ≤ n → (r - 1) * (r - 1) < n
square_before zero n p h = absurd (omega arith)
square_before (suc r) n p h = let e : suc r - 1 ≡ r = omega arith in rw e (omega arith)

-- the root of a positive number is positive
pub root_is_positive : (r n : ℕ) → 0 < n → r * r ≡ n → 0 < r
root_is_positive zero n p e = omega arith
root_is_positive (suc r) n p e = omega arith

-- signed squares by squares of naturals
pub below_of_down : (r n : ℕ) → r * r ≤ n → n < (r + 1) * (r + 1) → (signed_square (pos r) ≤ℤ pos n) × (pos n <ℤ signed_square (pos r +ℤ pos 1))
below_of_down r n a b = (omega (arith, ints), omega (arith, ints))

-- the root above a number gives the root below its opposite
pub below_of_up : (r n : ℕ) → 0 < r → n ≤ r * r → (r - 1) * (r - 1) < n → (signed_square (neg_ℤ (pos r)) ≤ℤ neg_ℤ (pos n)) × (neg_ℤ (pos n) <ℤ signed_square (neg_ℤ (pos r) +ℤ pos 1))
below_of_up zero n p a b = absurd (omega arith)
below_of_up (suc zero) n p a b = (omega (arith, ints), omega (arith, ints))
below_of_up (suc (suc r)) n p a b =
    let e : suc (suc r) - 1 ≡ suc r = omega arith in
    let P : ℕ → Type 0 = λ z. z * z < n in
    let less : suc r * suc r < n = subst P e b in
    let t : neg_ℤ (pos (suc (suc r))) +ℤ pos 1 ≡ neg_ℤ (pos (suc r)) = omega (arith, ints) in
    let s = ap signed_square t in
    (omega (arith, ints), omega (arith, ints, s))

-- and the other way round
pub above_of_below : (n z : ℤ) → signed_square z ≤ℤ neg_ℤ n → neg_ℤ n <ℤ signed_square (z +ℤ pos 1) → (n ≤ℤ signed_square (neg_ℤ z)) × (signed_square (neg_ℤ z -ℤ pos 1) <ℤ n)
above_of_below n z a b =
    let first = signed_square-neg z in
    let turned : neg_ℤ z -ℤ pos 1 ≡ neg_ℤ (z +ℤ pos 1) = omega (arith, ints) in
    let second = ap signed_square turned ∙ signed_square-neg (z +ℤ pos 1) in
    (omega (arith, ints, first), omega (arith, ints, second))

-- ---- a rounded quotient and its root

-- the greatest root below a floor is the greatest root below the quotient
pub greatest_of_floor : (u y n z : ℤ) → pos 0 <ℤ u → IsFloor (pos 10000000000000000 *ℤ y) u n → signed_square z ≤ℤ n → n <ℤ signed_square (z +ℤ pos 1) → IsGreatestRoot u y z
greatest_of_floor u y n z h f low high =
    let a = f.at_most in
    let b = f.next_above in
    let some : pos 0 ≤ℤ u = omega (arith, ints) in
    let next : (n +ℤ pos 1) ≤ℤ signed_square (z +ℤ pos 1) = omega (arith, ints) in
    let one : pos 1 *ℤ u ≡ u = omega (arith, ints) in
    record {
      at_most = omega (arith, ints, mul_mono (signed_square z) n u some low);
      next_above = omega (arith, ints, mul_mono (n +ℤ pos 1) (signed_square (z +ℤ pos 1)) u some next, add_mul n (pos 1) u);
    }

-- the least root above a ceiling is the least root above the quotient
pub least_of_ceiling : (u y n z : ℤ) → pos 0 <ℤ u → IsCeiling (pos 10000000000000000 *ℤ y) u n → n ≤ℤ signed_square z → signed_square (z -ℤ pos 1) <ℤ n → IsLeastRoot u y z
least_of_ceiling u y n z h c low high =
    let a = c.at_least in
    let b = c.last_below in
    let some : pos 0 ≤ℤ u = omega (arith, ints) in
    let next : (signed_square (z -ℤ pos 1) +ℤ pos 1) ≤ℤ n = omega (arith, ints) in
    let one : pos 1 *ℤ u ≡ u = omega (arith, ints) in
    record {
      at_least = omega (arith, ints, mul_mono n (signed_square z) u some low);
      last_below = omega (arith, ints, mul_mono (signed_square (z -ℤ pos 1) +ℤ pos 1) n u some next, add_mul (signed_square (z -ℤ pos 1)) (pos 1) u);
    }

-- what the code answers, its numbers under casts
pub record IsRootBelow (n z : ℤ) : Type 0 where
  pub at_most : signed_square z ≤ℤ n
  pub next_above : n <ℤ signed_square (z +ℤ pos 1)
  pub bound : nat_abs z ≤ 3200000000

down_at : (n : ℤ) (r : ℕ) → pos 0 ≤ℤ n → r * r ≤ nat_abs n → nat_abs n < (r + 1) * (r + 1) → r ≤ 3200000000 → IsRootBelow n (pos r)
down_at (pos n) r h a b l = let e = below_of_down r n a b in record { at_most = e.0; next_above = e.1; bound = l }
down_at (negsuc n) r h a b l = absurd (omega (arith, ints))

up_at : (n : ℤ) (r : ℕ) → n <ℤ pos 0 → 0 < r → nat_abs n ≤ r * r → (r - 1) * (r - 1) < nat_abs n → r ≤ 3200000000 → IsRootBelow n (neg_ℤ (pos r))
up_at (pos n) r h p a b l = absurd (omega (arith, ints))
up_at (negsuc n) r h p a b l = let e = below_of_up r (suc n) p a b in record { at_most = e.0; next_above = e.1; bound = small r l }
  where
    small : (r : ℕ) → r ≤ 3200000000 → nat_abs (neg_ℤ (pos r)) ≤ 3200000000
    small zero l = l
    small (suc r) l = l

-- the root below a number that is not negative, as it is computed
pub down_answer : (n n' z : ℤ) (r : ℕ) → n' ≡ n → pos 0 ≤ℤ n → z ≡ pos r → r * r ≤ nat_abs n' → nat_abs n' < (r + 1) * (r + 1) → r ≤ 3200000000 → IsRootBelow n z
down_answer n n' z r e h f a b l =
    let P : ℤ → Type 0 = λ x. r * r ≤ nat_abs x in
    let Q : ℤ → Type 0 = λ x. nat_abs x < (r + 1) * (r + 1) in
    let R : ℤ → Type 0 = λ x. IsRootBelow n x in
    subst R (sym f) (down_at n r h (subst P e a) (subst Q e b) l)

-- the root below a negative number, as it is computed
pub up_answer : (n n' z : ℤ) (r m : ℕ) → n' ≡ n → n <ℤ pos 0 → m ≡ nat_abs n' → z ≡ neg_ℤ (pos r) → 0 < r → m ≤ r * r → (r - 1) * (r - 1) < m → r ≤ 3200000000 → IsRootBelow n z
up_answer n n' z r m e h f g p a b l =
    let k : m ≡ nat_abs n = f ∙ ap nat_abs e in
    let P : ℕ → Type 0 = λ x. x ≤ r * r in
    let Q : ℕ → Type 0 = λ x. (r - 1) * (r - 1) < x in
    let R : ℤ → Type 0 = λ x. IsRootBelow n x in
    subst R (sym g) (up_at n r h p (subst P k a) (subst Q k b) l)

-- the least whole number whose signed square is at least n
pub record IsRootAbove (n z : ℤ) : Type 0 where
  pub at_least : n ≤ℤ signed_square z
  pub last_below : signed_square (z -ℤ pos 1) <ℤ n
  pub bound : nat_abs z ≤ 3200000000

-- the root above a number, as it is computed
pub above_answer : (n n' z z' : ℤ) → n' ≡ neg_ℤ n → z' ≡ neg_ℤ z → signed_square z ≤ℤ n' → n' <ℤ signed_square (z +ℤ pos 1) → nat_abs z ≤ 3200000000 → IsRootAbove n z'
above_answer n n' z z' e f a b l =
    let P : ℤ → Type 0 = λ x. signed_square z ≤ℤ x in
    let Q : ℤ → Type 0 = λ x. x <ℤ signed_square (z +ℤ pos 1) in
    let R : ℤ → Type 0 = λ x. IsRootAbove n x in
    let r = above_of_below n z (subst P e a) (subst Q e b) in
    subst R (sym f) (record { at_least = r.0; last_below = r.1; bound = same z l })
  where
    same : (z : ℤ) → nat_abs z ≤ 3200000000 → nat_abs (neg_ℤ z) ≤ 3200000000
    same (pos zero) l = l
    same (pos (suc z)) l = l
    same (negsuc z) l = l

-- the dividend of the root: 10^16 times an end within 1024 units
pub dividend_fits : (u x k x' : ℤ) → u ≤ℤ pos (2 ^ 62) → k ≡ pos 10000000000000000 → x' ≡ x → neg_ℤ (pos 1024 *ℤ u) ≤ℤ x → x ≤ℤ (pos 1024 *ℤ u) → FitsSigned w128 (k *ℤ x')
dividend_fits u x k x' h e f low high =
    let P : ℤ → Type 0 = λ a. FitsSigned w128 (a *ℤ x') in
    let Q : ℤ → Type 0 = λ a. FitsSigned w128 (pos 10000000000000000 *ℤ a) in
    subst P (sym e) (subst Q (sym f) (fits_within (pos 10000000000000000 *ℤ x) (within (pos 10000000000000000 *ℤ x) (2 ^ 126) (omega (arith, ints)) (omega (arith, ints)))))

-- its quotient by the unit is within 1024 * 10^16
pub floor_bound : (u x n : ℤ) → pos 0 <ℤ u → neg_ℤ (pos 1024 *ℤ u) ≤ℤ x → x ≤ℤ (pos 1024 *ℤ u) → IsFloor (pos 10000000000000000 *ℤ x) u n → nat_abs n ≤ 10240000000000000000
floor_bound u x n h low high f =
    let r = floor_within (pos 10000000000000000 *ℤ x) u n (pos 10240000000000000000) h (omega (arith, ints)) (omega (arith, ints)) f in
    within n 10240000000000000000 r.1 (omega (arith, ints, r.0))

-- so is its quotient rounded up
pub ceiling_bound : (u x n : ℤ) → pos 0 <ℤ u → neg_ℤ (pos 1024 *ℤ u) ≤ℤ x → x ≤ℤ (pos 1024 *ℤ u) → IsCeiling (pos 10000000000000000 *ℤ x) u n → nat_abs n ≤ 10240000000000000000
ceiling_bound u x n h low high f =
    let r = ceiling_within (pos 10000000000000000 *ℤ x) u n (pos 10240000000000000000) h (omega (arith, ints)) (omega (arith, ints)) f in
    within n 10240000000000000000 r.1 (omega (arith, ints, r.0))

-- ---- the same under casts

-- a floor of the same numbers
pub floor_given : (a b a' b' n : ℤ) → a' ≡ a → b' ≡ b → IsFloor a' b' n → IsFloor a b n
floor_given a b a' b' n p q f =
    let P : ℤ → Type 0 = λ x. IsFloor x b' n in
    let Q : ℤ → Type 0 = λ x. IsFloor a x n in
    subst Q q (subst P p f)

-- a ceiling of the same numbers
pub ceiling_given : (a b a' b' n : ℤ) → a' ≡ a → b' ≡ b → IsCeiling a' b' n → IsCeiling a b n
ceiling_given a b a' b' n p q f =
    let P : ℤ → Type 0 = λ x. IsCeiling x b' n in
    let Q : ℤ → Type 0 = λ x. IsCeiling a x n in
    subst Q q (subst P p f)

-- the bound on a square, of the same number
pub small_given : (n n' : ℤ) → n' ≡ n → nat_abs n ≤ 10240000000000000000 → nat_abs n' ≤ 10240000000000000000
small_given n n' e h = let P : ℤ → Type 0 = λ x. nat_abs x ≤ 10240000000000000000 in subst P (sym e) h

-- a greatest root, by computed numbers that are these
pub greatest_given : (u y n n' z z' : ℤ) → pos 0 <ℤ u → IsFloor (pos 10000000000000000 *ℤ y) u n → n' ≡ n → z' ≡ z → signed_square z ≤ℤ n' → n' <ℤ signed_square (z +ℤ pos 1) → IsGreatestRoot u y z'
greatest_given u y n n' z z' h f p q low high =
    let A : ℤ → Type 0 = λ x. signed_square z ≤ℤ x in
    let B : ℤ → Type 0 = λ x. x <ℤ signed_square (z +ℤ pos 1) in
    let R : ℤ → Type 0 = λ x. IsGreatestRoot u y x in
    subst R (sym q) (greatest_of_floor u y n z h f (subst A p low) (subst B p high))

-- a least root, by computed numbers that are these
pub least_given : (u y n n' z z' : ℤ) → pos 0 <ℤ u → IsCeiling (pos 10000000000000000 *ℤ y) u n → n' ≡ n → z' ≡ z → n' ≤ℤ signed_square z → signed_square (z -ℤ pos 1) <ℤ n' → IsLeastRoot u y z'
least_given u y n n' z z' h f p q low high =
    let A : ℤ → Type 0 = λ x. x ≤ℤ signed_square z in
    let B : ℤ → Type 0 = λ x. signed_square (z -ℤ pos 1) <ℤ x in
    let R : ℤ → Type 0 = λ x. IsLeastRoot u y x in
    subst R (sym q) (least_of_ceiling u y n z h f (subst A p low) (subst B p high))

-- the bound on a root, of the same number
pub bound_given : (z z' : ℤ) → z' ≡ z → nat_abs z ≤ 3200000000 → nat_abs z' ≤ 3200000000
bound_given z z' e h = let P : ℤ → Type 0 = λ x. nat_abs x ≤ 3200000000 in subst P (sym e) h

-- the dividend keeps its value in 128 bits
pub dividend_is : (u x x' : ℤ) → u ≤ℤ pos (2 ^ 62) → x' ≡ x → neg_ℤ (pos 1024 *ℤ u) ≤ℤ x → x ≤ℤ (pos 1024 *ℤ u) → cast (pos 10000000000000000 *ℤ x') ≡ pos 10000000000000000 *ℤ x
dividend_is u x x' h e low high = to_z-of_z (dividend_fits u x (pos 10000000000000000) x' h refl e low high) ∙ ap (λ a. pos 10000000000000000 *ℤ a) e
