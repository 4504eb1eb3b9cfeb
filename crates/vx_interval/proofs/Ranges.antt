-- What keeps the code's numbers in their type and the results in range. The code's values stand under casts, so each lemma takes them with the equations that the casts give.
use Rattle.std.proofs.Common.{◌≡◌, ◌∙◌, ℕ, ◌+◌, ◌-◌, ◌*◌, ◌^◌, ◌<◌, ◌≤◌, ℤ, pos, negsuc, ◌*ℤ◌, neg_ℤ, nat_abs, ◌≤ℤ◌, ◌<ℤ◌, refl, sym, ap, ap₂, subst}
use Rattle.std.proofs.Common.{arith, mul-le-mul, pow-add, lit<, lit≤, le_trans, le_refl, lt_of_le_of_lt, to_z, of_z, to_z-of_z}
use Rattle.std.specs.Prelude.{FitsSigned}
use Rattle.std.proofs.lemmas.Int.{ints, fits_signed_from_abs, unsigned_abs-mul}
use lib.Signed.{mag}
use mir.Syntax.{w64, w128}
use Rattle.std.proofs.Math.Pow.{pow_mono}
use Rattle.vx_num.specs.Quotient.{IsFloor, IsCeiling}
use Rattle.vx_num.proofs.Whole.{mul_comm, mul_assoc, mul_mono, mul_mono_left, mul_anti_left, mul_cancel}
use Rattle.vx_num.proofs.Quotients.{floor_within, ceiling_within, floor_within_dividend, ceiling_within_dividend, floor_exact, ceiling_exact, floor_scaled, ceiling_scaled}
use Rattle.vx_interval.specs.Rounding.{floor_of, ceiling_of}
use Rattle.vx_interval.specs.Ends.{Ends, IsScale, IsIntervalInRange, unit, magnitude, least_of_four, greatest_of_four, least_product, greatest_product, least_square, greatest_square, rounded_ends, scale_ends, rescale_ends}
use Rattle.vx_interval.proofs.EndsLemmas.{same_ends, unit_positive}
use Rattle.vx_interval.proofs.RoundingLemmas.{floor_of_is, ceiling_of_is, floor_found, ceiling_found}
use Rattle.vx_interval.proofs.Enclosures.{least_at_most, greatest_at_least, least_above, greatest_below}
use Rattle.vx_interval.proofs.Squares.{least_is_least, greatest_is_greatest, greatest_is_at_most}
use Rattle.vx_interval.proofs.Widths.{within, from_within, magnitude_above}

-- a value of the code, as a call passes it
abbrev pub cast : ℤ → ℤ
cast z = to_z w128 (of_z w128 z)

abbrev pub cast_small : ℤ → ℤ
cast_small z = to_z w64 (of_z w64 z)

-- ---- numbers that fit the type

-- a number of at most 2^126 in absolute value has room in 128 bits
pub fits_within : (z : ℤ) → nat_abs z ≤ 2 ^ 126 → FitsSigned w128 z
fits_within z h = fits_signed_from_abs w128 z (lt_of_le_of_lt h (lit< tt))

-- so has an end in range
pub fits_in_range : (z : ℤ) → neg_ℤ (pos (2 ^ 110)) ≤ℤ z → z ≤ℤ pos (2 ^ 110) → FitsSigned w128 z
fits_in_range z low high = fits_within z (le_trans (within z (2 ^ 110) high (omega (arith, ints))) (lit≤ tt))

-- ---- the unit

-- the unit of each scale is at least 2^40
pub unit_at_least : (P : ℕ) → IsScale P → pos (2 ^ 40) ≤ℤ unit P
unfolding unit
unit_at_least P h = let m : 2 ^ 40 ≤ 2 ^ P = pow_mono h.0 in omega (arith, ints)

-- and at most 2^62
pub unit_at_most : (P : ℕ) → IsScale P → unit P ≤ℤ pos (2 ^ 62)
unfolding unit
unit_at_most P h = let m : 2 ^ P ≤ 2 ^ 62 = pow_mono h.1 in omega (arith, ints)

-- ---- rounded ends

-- rounded quotients of the same numbers are the same
pub rounded_same : (a b d a' b' d' : ℤ) → a ≡ a' → b ≡ b' → d ≡ d' → rounded_ends a b d ≡ rounded_ends a' b' d'
rounded_same a b d a' b' d' p q r = same_ends _ _ (ap₂ floor_of p r) (ap₂ ceiling_of q r)

-- rounded down is at most rounded up
pub rounded_ordered : (a b d : ℤ) → pos 0 <ℤ d → a ≤ℤ b → floor_of a d ≤ℤ ceiling_of b d
rounded_ordered a b d h l =
    let f = floor_of_is a d h in
    let c = ceiling_of_is b d h in
    let low = f.at_most in
    let high = c.at_least in
    mul_cancel (floor_of a d) (ceiling_of b d) d h (omega (arith, ints))

-- quotients of dividends in range are in range
pub rounded_in_range : (a b d : ℤ) → pos 0 <ℤ d → a ≤ℤ b → neg_ℤ (pos (2 ^ 110)) ≤ℤ a → b ≤ℤ pos (2 ^ 110) → IsIntervalInRange (rounded_ends a b d)
rounded_in_range a b d h l low high = record {
  low = (floor_within_dividend a d (floor_of a d) (pos (2 ^ 110)) h low (omega (arith, ints)) (floor_of_is a d h)).0;
  high = (ceiling_within_dividend b d (ceiling_of b d) (pos (2 ^ 110)) h (omega (arith, ints)) high (ceiling_of_is b d h)).1;
}

-- quotients by a unit of dividends within 2^126 are in range
pub rounded_over_unit : (a b d : ℤ) → pos (2 ^ 40) ≤ℤ d → a ≤ℤ b → neg_ℤ (pos (2 ^ 126)) ≤ℤ a → b ≤ℤ pos (2 ^ 126) → IsIntervalInRange (rounded_ends a b d)
rounded_over_unit a b d h l low high =
    let p : pos 0 <ℤ d = omega (arith, ints) in
    let grown : (pos (2 ^ 110) *ℤ pos (2 ^ 40)) ≤ℤ (pos (2 ^ 110) *ℤ d) = mul_mono_left (pos (2 ^ 40)) d (pos (2 ^ 110)) (omega (arith, ints)) h in
    let top : pos (2 ^ 126) ≤ℤ (pos (2 ^ 110) *ℤ d) = omega (arith, ints) in
    record {
      low = (floor_within a d (floor_of a d) (pos (2 ^ 110)) p (omega (arith, ints)) (omega (arith, ints)) (floor_of_is a d p)).0;
      high = (ceiling_within b d (ceiling_of b d) (pos (2 ^ 110)) p (omega (arith, ints)) (omega (arith, ints)) (ceiling_of_is b d p)).1;
    }

-- ---- products of ends

-- factors within bounds have a product within 2^126
pub product_small : (a b : ℤ) (m n : ℕ) → nat_abs a ≤ m → nat_abs b ≤ n → m * n ≤ 2 ^ 126 → nat_abs a * nat_abs b ≤ 2 ^ 126
product_small a b m n p q h = le_trans (mul-le-mul p q) h

-- the low end is within the interval's greatest absolute value
pub low_of : (x : Ends) (a : ℤ) → a ≡ x.lo → nat_abs a ≤ magnitude x
low_of x a e = let P : ℤ → Type 0 = λ z. nat_abs z ≤ magnitude x in subst P (sym e) (magnitude_above x).0

-- and so is the high end
pub high_of : (x : Ends) (a : ℤ) → a ≡ x.hi → nat_abs a ≤ magnitude x
high_of x a e = let P : ℤ → Type 0 = λ z. nat_abs z ≤ magnitude x in subst P (sym e) (magnitude_above x).1

-- products of the same factors are the same
pub products_same : (a b a' b' : ℤ) → a ≡ a' → b ≡ b' → a *ℤ b ≡ a' *ℤ b'
products_same a b a' b' p q = ap₂ (λ (x y : ℤ). x *ℤ y) p q

-- the bound on a product holds for the same factors
pub product_small_same : (a b a' b' : ℤ) → a' ≡ a → b' ≡ b → nat_abs a * nat_abs b ≤ 2 ^ 126 → nat_abs a' * nat_abs b' ≤ 2 ^ 126
product_small_same a b a' b' p q h =
    let P : ℕ → Type 0 = λ z. z ≤ 2 ^ 126 in
    subst P (sym (ap₂ (λ (x y : ℤ). nat_abs x * nat_abs y) p q)) h

product_range : (a b : ℤ) (m n : ℕ) → nat_abs a ≤ m → nat_abs b ≤ n → m * n ≤ 2 ^ 126 → (neg_ℤ (pos (2 ^ 126)) ≤ℤ (a *ℤ b)) × ((a *ℤ b) ≤ℤ pos (2 ^ 126))
product_range a b m n p q h =
    let P : ℕ → Type 0 = λ z. z ≤ 2 ^ 126 in
    let small : nat_abs (a *ℤ b) ≤ 2 ^ 126 = subst P (sym (unsigned_abs-mul a b)) (product_small a b m n p q h) in
    let r = from_within (a *ℤ b) (2 ^ 126) small in
    (r.1, r.0)

-- the least product of the ends is at least -2^126
pub least_product_range : (x y : Ends) → magnitude x * magnitude y ≤ 2 ^ 126 → neg_ℤ (pos (2 ^ 126)) ≤ℤ least_product x y
least_product_range x y h =
    let a = magnitude_above x in
    let b = magnitude_above y in
    let m : ℕ = magnitude x in
    let n : ℕ = magnitude y in
    least_above _ _ _ _ _ (product_range x.lo y.lo m n a.0 b.0 h).0 (product_range x.lo y.hi m n a.0 b.1 h).0 (product_range x.hi y.lo m n a.1 b.0 h).0 (product_range x.hi y.hi m n a.1 b.1 h).0

-- the greatest product of the ends is at most 2^126
pub greatest_product_range : (x y : Ends) → magnitude x * magnitude y ≤ 2 ^ 126 → greatest_product x y ≤ℤ pos (2 ^ 126)
greatest_product_range x y h =
    let a = magnitude_above x in
    let b = magnitude_above y in
    let m : ℕ = magnitude x in
    let n : ℕ = magnitude y in
    greatest_below _ _ _ _ _ (product_range x.lo y.lo m n a.0 b.0 h).1 (product_range x.lo y.hi m n a.0 b.1 h).1 (product_range x.hi y.lo m n a.1 b.0 h).1 (product_range x.hi y.hi m n a.1 b.1 h).1

-- the least product is at most the greatest
pub least_at_most_greatest : (x y : Ends) → least_product x y ≤ℤ greatest_product x y
least_at_most_greatest x y =
    let a = least_at_most (x.lo *ℤ y.lo) (x.lo *ℤ y.hi) (x.hi *ℤ y.lo) (x.hi *ℤ y.hi) in
    let b = greatest_at_least (x.lo *ℤ y.lo) (x.lo *ℤ y.hi) (x.hi *ℤ y.lo) (x.hi *ℤ y.hi) in
    omega (arith, ints)

-- the greatest square of the ends is at most 2^126
pub greatest_square_range : (x : Ends) → magnitude x * magnitude x ≤ 2 ^ 126 → greatest_square x ≤ℤ pos (2 ^ 126)
greatest_square_range x h =
    let a = magnitude_above x in
    let m : ℕ = magnitude x in
    greatest_is_at_most x (pos (2 ^ 126)) (product_range x.lo x.lo m m a.0 a.0 h).1 (product_range x.hi x.hi m m a.1 a.1 h).1

-- the two quotients of the code are the rounded ends
pub rounded_is : (low high den low' high' den' lo hi : ℤ) → pos 0 <ℤ den → low' ≡ low → high' ≡ high → den' ≡ den → IsFloor low' den' lo → IsCeiling high' den' hi
    → (lo ≡ floor_of low den) × (hi ≡ ceiling_of high den)
rounded_is low high den low' high' den' lo hi h p q r f c =
    let P : ℤ → Type 0 = λ z. IsFloor z den' lo in
    let F : ℤ → Type 0 = λ z. IsFloor low z lo in
    let Q : ℤ → Type 0 = λ z. IsCeiling z den' hi in
    let C : ℤ → Type 0 = λ z. IsCeiling high z hi in
    (floor_found low den lo h (subst F r (subst P p f)), ceiling_found high den hi h (subst C r (subst Q q c)))

-- ---- whole factors

-- a negative factor exchanges the ends
pub scale_ends_negative : (x : Ends) (k : ℤ) → k <ℤ pos 0 → scale_ends x k ≡ record { lo = k *ℤ x.hi; hi = k *ℤ x.lo }
scale_ends_negative x (pos k) h = absurd (omega (arith, ints))
scale_ends_negative x (negsuc k) h = refl

-- another factor keeps their order
pub scale_ends_nonneg : (x : Ends) (k : ℤ) → pos 0 ≤ℤ k → scale_ends x k ≡ record { lo = k *ℤ x.lo; hi = k *ℤ x.hi }
scale_ends_nonneg x (pos k) h = refl
scale_ends_nonneg x (negsuc k) h = absurd (omega (arith, ints))

-- a multiple in range by a negative factor: its ends are in order and within 2^110
pub scale_range_negative : (x : Ends) (k : ℤ) → k <ℤ pos 0 → x.lo ≤ℤ x.hi → IsIntervalInRange (scale_ends x k)
    → (neg_ℤ (pos (2 ^ 110)) ≤ℤ (k *ℤ x.hi)) × ((k *ℤ x.hi) ≤ℤ (k *ℤ x.lo)) × ((k *ℤ x.lo) ≤ℤ pos (2 ^ 110))
scale_range_negative x k h l r =
    let s = subst IsIntervalInRange (scale_ends_negative x k h) r in
    (s.low, mul_anti_left x.lo x.hi k (omega (arith, ints)) l, s.high)

-- the same by another factor
pub scale_range_nonneg : (x : Ends) (k : ℤ) → pos 0 ≤ℤ k → x.lo ≤ℤ x.hi → IsIntervalInRange (scale_ends x k)
    → (neg_ℤ (pos (2 ^ 110)) ≤ℤ (k *ℤ x.lo)) × ((k *ℤ x.lo) ≤ℤ (k *ℤ x.hi)) × ((k *ℤ x.hi) ≤ℤ pos (2 ^ 110))
scale_range_nonneg x k h l r =
    let s = subst IsIntervalInRange (scale_ends_nonneg x k h) r in
    (s.low, mul_mono_left x.lo x.hi k h l, s.high)

-- ---- a quotient's dividend

-- a number that the unit of its scale multiplies stays within 2^126
pub unit_bound : (P : ℕ) → IsScale P → 2 ^ (126 - P) * nat_abs (unit P) ≤ 2 ^ 126
unfolding unit
unit_bound P h =
    let whole : 126 - P + P ≡ 126 = omega arith in
    let e : 2 ^ (126 - P + P) ≡ 2 ^ (126 - P) * 2 ^ P = pow-add 2 (126 - P) P in
    let f : 2 ^ (126 - P + P) ≡ 2 ^ 126 = ap (λ z. 2 ^ z) whole in
    omega arith

-- ---- another scale

unit_split : (P k : ℕ) → unit (P + k) ≡ unit k *ℤ unit P
unfolding unit
unit_split P k = ap pos (pow-add 2 P k ∙ omega arith)

-- the unit of a finer scale is a multiple of the unit of a coarser one
pub unit_up : (P R : ℕ) → P ≤ R → unit R ≡ unit (R - P) *ℤ unit P
unit_up P R h = let e : R ≡ P + (R - P) = omega arith in ap unit e ∙ unit_split P (R - P)

-- to a finer scale the ends are multiplied
pub rescale_up : (P R : ℕ) (x : Ends) → P ≤ R → rescale_ends P R x ≡ record { lo = x.lo *ℤ unit (R - P); hi = x.hi *ℤ unit (R - P) }
rescale_up P R x h =
    let u = unit_up P R h in
    let p = unit_positive P in
    let low : x.lo *ℤ unit R ≡ (x.lo *ℤ unit (R - P)) *ℤ unit P = ap (λ z. x.lo *ℤ z) u ∙ sym (mul_assoc x.lo (unit (R - P)) (unit P)) in
    let high : x.hi *ℤ unit R ≡ (x.hi *ℤ unit (R - P)) *ℤ unit P = ap (λ z. x.hi *ℤ z) u ∙ sym (mul_assoc x.hi (unit (R - P)) (unit P)) in
    let F : ℤ → Type 0 = λ z. IsFloor z (unit P) (x.lo *ℤ unit (R - P)) in
    let C : ℤ → Type 0 = λ z. IsCeiling z (unit P) (x.hi *ℤ unit (R - P)) in
    same_ends _ _
    (sym (floor_found (x.lo *ℤ unit R) (unit P) (x.lo *ℤ unit (R - P)) p (subst F (sym low) (floor_exact (x.lo *ℤ unit (R - P)) (unit P) p))))
    (sym (ceiling_found (x.hi *ℤ unit R) (unit P) (x.hi *ℤ unit (R - P)) p (subst C (sym high) (ceiling_exact (x.hi *ℤ unit (R - P)) (unit P) p))))

-- to a coarser scale they are divided and rounded outwards
pub rescale_down : (P R : ℕ) (x : Ends) → R ≤ P → rescale_ends P R x ≡ rounded_ends x.lo x.hi (unit (P - R))
rescale_down P R x h =
    let u : unit P ≡ unit R *ℤ unit (P - R) = unit_up R P h ∙ mul_comm (unit (P - R)) (unit R) in
    let p = unit_positive P in
    let q = unit_positive R in
    let s = unit_positive (P - R) in
    let k : ℤ = unit (P - R) in
    let floor : IsFloor (x.lo *ℤ unit R) (unit P) (floor_of x.lo k) =
    (let F : ℤ → Type 0 = λ z. IsFloor z (unit P) (floor_of x.lo k) in
    let G : ℤ → Type 0 = λ z. IsFloor (unit R *ℤ x.lo) z (floor_of x.lo k) in
    subst F (mul_comm (unit R) x.lo) (subst G (sym u) (floor_scaled (unit R) x.lo k (floor_of x.lo k) q (floor_of_is x.lo k s)))) in
    let ceiling : IsCeiling (x.hi *ℤ unit R) (unit P) (ceiling_of x.hi k) =
    (let F : ℤ → Type 0 = λ z. IsCeiling z (unit P) (ceiling_of x.hi k) in
    let G : ℤ → Type 0 = λ z. IsCeiling (unit R *ℤ x.hi) z (ceiling_of x.hi k) in
    subst F (mul_comm (unit R) x.hi) (subst G (sym u) (ceiling_scaled (unit R) x.hi k (ceiling_of x.hi k) q (ceiling_of_is x.hi k s)))) in
    same_ends _ _ (sym (floor_found (x.lo *ℤ unit R) (unit P) (floor_of x.lo k) p floor)) (sym (ceiling_found (x.hi *ℤ unit R) (unit P) (ceiling_of x.hi k) p ceiling))

-- ends in range at a finer scale are in order and within 2^110
pub rescale_up_range : (P R : ℕ) (x : Ends) → P ≤ R → x.lo ≤ℤ x.hi → IsIntervalInRange (rescale_ends P R x)
    → (neg_ℤ (pos (2 ^ 110)) ≤ℤ (x.lo *ℤ unit (R - P))) × ((x.lo *ℤ unit (R - P)) ≤ℤ (x.hi *ℤ unit (R - P))) × ((x.hi *ℤ unit (R - P)) ≤ℤ pos (2 ^ 110))
rescale_up_range P R x h l r =
    let s = subst IsIntervalInRange (rescale_up P R x h) r in
    let u = unit_positive (R - P) in
    (s.low, mul_mono x.lo x.hi (unit (R - P)) (omega (arith, ints)) l, s.high)

-- a product in range, by absolute values
pub range_small : (a b : ℤ) → neg_ℤ (pos (2 ^ 110)) ≤ℤ (a *ℤ b) → (a *ℤ b) ≤ℤ pos (2 ^ 110) → nat_abs a * nat_abs b ≤ 2 ^ 126
range_small a b low high =
    let P : ℕ → Type 0 = λ z. z ≤ 2 ^ 126 in
    subst P (unsigned_abs-mul a b) (le_trans (within (a *ℤ b) (2 ^ 110) high (omega (arith, ints))) (lit≤ tt))

-- the dividend of a quotient stays within 2^126
pub ratio_small : (P : ℕ) (num : ℤ) → IsScale P → nat_abs num ≤ 2 ^ (126 - P) → nat_abs num * nat_abs (unit P) ≤ 2 ^ 126
ratio_small P num h small = le_trans (mul-le-mul small (le_refl (nat_abs (unit P)))) (unit_bound P h)

-- ---- the least and the greatest product, as the code finds them

-- a product of given factors, by the numbers that they are
pub same_product : (a b a' b' p : ℤ) → a ≡ a' → b ≡ b' → p ≡ a *ℤ b → p ≡ a' *ℤ b'
same_product a b a' b' p q r e = e ∙ products_same a b a' b' q r

-- the least of four computed products is the least product of the ends
pub least_product_is : (x y : Ends) (a b c d p q r s : ℤ) → a ≡ x.lo → b ≡ x.hi → c ≡ y.lo → d ≡ y.hi
    → p ≡ a *ℤ c → q ≡ a *ℤ d → r ≡ b *ℤ c → s ≡ b *ℤ d → least_of_four p q r s ≡ least_product x y
least_product_is x y a b c d p q r s ea eb ec ed ep eq er es =
    let fp = same_product a c x.lo y.lo p ea ec ep in
    let fq = same_product a d x.lo y.hi q ea ed eq in
    let fr = same_product b c x.hi y.lo r eb ec er in
    let fs = same_product b d x.hi y.hi s eb ed es in
    cc

-- the greatest of them is the greatest product
pub greatest_product_is : (x y : Ends) (a b c d p q r s : ℤ) → a ≡ x.lo → b ≡ x.hi → c ≡ y.lo → d ≡ y.hi
    → p ≡ a *ℤ c → q ≡ a *ℤ d → r ≡ b *ℤ c → s ≡ b *ℤ d → greatest_of_four p q r s ≡ greatest_product x y
greatest_product_is x y a b c d p q r s ea eb ec ed ep eq er es =
    let fp = same_product a c x.lo y.lo p ea ec ep in
    let fq = same_product a d x.lo y.hi q ea ed eq in
    let fr = same_product b c x.hi y.lo r eb ec er in
    let fs = same_product b d x.hi y.hi s eb ed es in
    cc

-- the square of an end stays within 2^126
pub square_range : (x : Ends) (a : ℤ) → nat_abs a ≤ magnitude x → magnitude x * magnitude x ≤ 2 ^ 126 → nat_abs a * nat_abs a ≤ 2 ^ 126
square_range x a h small = product_small a a (magnitude x) (magnitude x) h h small

-- the least square depends on the ends alone
pub least_square_same : (x : Ends) (a b : ℤ) → a ≡ x.lo → b ≡ x.hi → least_square (record { lo = a; hi = b }) ≡ least_square x
least_square_same x a b p q = ap least_square (same_ends _ _ p q)

-- and so does the greatest
pub greatest_square_same : (x : Ends) (a b : ℤ) → a ≡ x.lo → b ≡ x.hi → greatest_square (record { lo = a; hi = b }) ≡ greatest_square x
greatest_square_same x a b p q = ap greatest_square (same_ends _ _ p q)

-- the least square is at most the greatest
pub square_ordered : (x : Ends) → least_square x ≤ℤ greatest_square x
square_ordered x = let a = least_is_least x in let b = greatest_is_greatest x in omega (arith, ints)

-- ---- ends that pass through a call

-- a number with room in 128 bits keeps its value there
pub cast_is : (z z' : ℤ) → mag z < 2 ^ 127 → z ≡ z' → cast z ≡ z'
cast_is z z' f e = to_z-of_z {w = w128} (record { sfits = f }) ∙ e

-- two ends that keep their values are in range as they were
pub passed_ends_in_range : (a b a' b' : ℤ) → mag a < 2 ^ 127 → mag b < 2 ^ 127 → a ≡ a' → b ≡ b'
    → (neg_ℤ (pos (2 ^ 110)) ≤ℤ a') × (a' ≤ℤ b') × (b' ≤ℤ pos (2 ^ 110))
    → (cast a ≤ℤ cast b) × IsIntervalInRange (record { lo = cast a; hi = cast b })
passed_ends_in_range a b a' b' f g p q r =
    let x = cast_is a a' f p in
    let y = cast_is b b' g q in
    let low = r.0 in
    let mid = r.1 in
    let high = r.2 in
    rw (x, y) (mid, record { low = low; high = high })
