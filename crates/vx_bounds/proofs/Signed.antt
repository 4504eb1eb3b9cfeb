-- The exponential of an exponent of either sign, as the code finds it.
use Rattle.std.proofs.Common.{◌≡◌, ◌∙◌, ℕ, suc, ◌*◌, ◌^◌, ◌<◌, ◌≤◌, ℤ, pos, negsuc, ◌*ℤ◌, nat_abs, ◌≤ℤ◌, ◌<ℤ◌, sym, ap, subst, arith, le_trans, mul-le-mul, lit≤, to_z-of_z}
use Rattle.std.specs.Prelude.{FitsSigned, false}
use lib.Signed.{le_z}
use mir.Syntax.{w128}
use Rattle.std.proofs.Math.Pow.{pow_mono}
use Rattle.std.proofs.lemmas.Int.{ints}
use Rattle.vx_num.specs.Quotient.{IsFloor, IsCeiling}
use Rattle.vx_interval.specs.Ends.{Ends, IsScale, unit}
use Rattle.vx_interval.proofs.RoundingLemmas.{floor_found, ceiling_found}
use Rattle.vx_interval.proofs.Ranges.{cast, fits_within}
use Rattle.vx_bounds.specs.Exponential.{low_end, high_end, IsTightValue, exp_ends, signed_ends}
use Rattle.vx_bounds.proofs.Roots.{floor_given, ceiling_given}
use Rattle.vx_bounds.proofs.Values.{exp_is_good, negative_is_good}

-- a bound of 25 units is one of 27
pub weaken : (P : ℕ) (x : Ends) → IsTightValue P 25 x → IsTightValue P 27 x
weaken P x t = let n = t.narrow in record { interval = t.interval; narrow = omega (arith, ints); height = t.height; quarter = t.quarter; nonneg = t.nonneg }

-- the ends of the exponential are ordered, narrow and in range for each sign of the exponent
pub signed_is_good : (P : ℕ) (p : ℤ) (q : ℕ) → IsScale P → 0 < q → 8 * nat_abs p ≤ q → IsTightValue P 27 (signed_ends P p q)
signed_is_good P (pos p) q s hq h = weaken P (exp_ends P p q) (exp_is_good P p q s hq h)
signed_is_good P (negsuc p) q s hq h = negative_is_good P p q s hq h

-- for an exponent that is not negative the ends are those of its absolute value
pub signed_of_nonneg : (P : ℕ) (p : ℤ) (q n : ℕ) → pos 0 ≤ℤ p → n ≡ nat_abs p → exp_ends P n q ≡ signed_ends P p q
signed_of_nonneg P (pos p) q n h e = ap (λ z. exp_ends P z q) e
signed_of_nonneg P (negsuc p) q n h e = absurd (omega (arith, ints))

-- the square of the unit
pub square_fits : (P : ℕ) (a : ℤ) → IsScale P → a ≡ unit P → FitsSigned w128 (a *ℤ a)
unfolding unit
square_fits P a s e =
    let m : 2 ^ P ≤ 2 ^ 62 = pow_mono s.1 in
    let k : 2 ^ P * 2 ^ P ≤ 2 ^ 62 * 2 ^ 62 = mul-le-mul m m in
    let Q : ℤ → Type 0 = λ z. FitsSigned w128 (z *ℤ z) in
    subst Q (sym e) (fits_within (pos (2 ^ P * 2 ^ P)) (le_trans k (lit≤ tt)))

-- the square of the unit keeps its value in 128 bits
pub square_is : (P : ℕ) (a : ℤ) → IsScale P → a ≡ unit P → cast (a *ℤ a) ≡ pos (2 ^ P * 2 ^ P)
unfolding unit
square_is P a s e = to_z-of_z {w = w128} (square_fits P a s e) ∙ ap (λ z. z *ℤ z) e

-- the two quotients of the code are the ends for a negative exponent
pub record IsNegativeFound (P : ℕ) (p : ℤ) (q : ℕ) (z w : ℤ) : Type 0 where
  pub low_is : z ≡ (signed_ends P p q).lo
  pub high_is : w ≡ (signed_ends P p q).hi

-- the reciprocals that are computed are the ends for a negative exponent
pub negative_found : (P : ℕ) (p : ℤ) (q n : ℕ) (square hi lo z w : ℤ) → p <ℤ pos 0 → n ≡ nat_abs p → square ≡ pos (2 ^ P * 2 ^ P)
    → hi ≡ pos (high_end (2 ^ P) n q) → lo ≡ pos (low_end (2 ^ P) n q) → pos 0 <ℤ hi → pos 0 <ℤ lo → IsFloor square hi z → IsCeiling square lo w → IsNegativeFound P p q z w
negative_found P (pos p) q n square hi lo z w h e s a b ph pl f c = absurd (omega (arith, ints))
negative_found P (negsuc p) q n square hi lo z w h e s a b ph pl f c =
    let a' : hi ≡ pos (high_end (2 ^ P) (suc p) q) = a ∙ ap (λ m. pos (high_end (2 ^ P) m q)) e in
    let b' : lo ≡ pos (low_end (2 ^ P) (suc p) q) = b ∙ ap (λ m. pos (low_end (2 ^ P) m q)) e in
    let Q : ℤ → Type 0 = λ x. pos 0 <ℤ x in
    record {
      low_is = floor_found (pos (2 ^ P * 2 ^ P)) (pos (high_end (2 ^ P) (suc p) q)) z (subst Q a' ph) (floor_given (pos (2 ^ P * 2 ^ P)) (pos (high_end (2 ^ P) (suc p) q)) square hi z s a' f);
      high_is = ceiling_found (pos (2 ^ P * 2 ^ P)) (pos (low_end (2 ^ P) (suc p) q)) w (subst Q b' pl) (ceiling_given (pos (2 ^ P * 2 ^ P)) (pos (low_end (2 ^ P) (suc p) q)) square lo w s b' c);
    }

-- the high end is positive
pub positive_high : (u : ℤ) (x : Ends) (h : ℤ) → pos 0 <ℤ u → u ≤ℤ x.lo → x.lo ≤ℤ x.hi → h ≡ x.hi → pos 0 <ℤ h
positive_high u x h p l o e = omega (arith, ints)

-- and so is the low end
pub positive_low : (u : ℤ) (x : Ends) (l : ℤ) → pos 0 <ℤ u → u ≤ℤ x.lo → l ≡ x.lo → pos 0 <ℤ l
positive_low u x l p h e = omega (arith, ints)

below_zero : (p : ℤ) → le_z (pos 0) p ≡ false → p <ℤ pos 0
below_zero p h = grind (arith, ints)

-- a number that fails the test of at least 0 is negative
pub negative_sign : (p p' : ℤ) → le_z (pos 0) p' ≡ false → p' ≡ p → p <ℤ pos 0
negative_sign p p' h e = let P : ℤ → Type 0 = λ x. le_z (pos 0) x ≡ false in below_zero p (subst P e h)
