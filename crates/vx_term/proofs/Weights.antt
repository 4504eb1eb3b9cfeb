-- The square of the index: its range and its members.
use Rattle.std.proofs.Common.{◌≡◌, ◌∙◌, ℕ, ◌+◌, ◌*◌, ◌-◌, ◌^◌, ◌<◌, ◌≤◌, ℤ, pos, negsuc, suc, ◌+ℤ◌, ◌-ℤ◌, ◌*ℤ◌, neg_ℤ, nat_abs, ◌≤ℤ◌, ◌<ℤ◌, sym, ap, ap₂, subst, arith, to_z, of_z, to_z-of_z}
use Rattle.std.proofs.lemmas.Int.{ints}
use mir.Syntax.{w64}
use lib.Signed.{mag}
use Rattle.vx_num.specs.Fraction.{Fraction, whole, ◌+ᶠ◌, ◌*ᶠ◌}
use Rattle.vx_num.proofs.Whole.{mul_neg, neg_mul, add_mul, mul_assoc, mul_comm, mul_mono, mul_mono_left, mul_left_comm, mul_anti_left, mul_nonneg, mul_positive}
use Rattle.vx_num.proofs.Quotients.{floor_within, ceiling_within}
use Rattle.vx_interval.specs.Ends.{Ends, IsScale, IsIntervalInRange, unit, add_ends, scale_ends, over_ends}
use Rattle.vx_interval.specs.Membership.{IsMember}
use Rattle.vx_interval.proofs.EndsLemmas.{unit_positive}
use Rattle.vx_interval.proofs.RoundingLemmas.{floor_of_is, ceiling_of_is}
use Rattle.vx_interval.proofs.Enclosures.{add_encloses, scale_encloses, over_encloses}
use Rattle.vx_interval.proofs.Ranges.{unit_at_most}
use Rattle.vx_formula.specs.Index.{index_square, single_square}
use Rattle.vx_term.specs.Index.{interpolated_ends, single_ends}
use Rattle.vx_term.specs.Ranges.{AreEndsWithin, IsVarianceInRange, IsSquareInRange}

-- ---- ends within a limit

pub scaled_within : (x : Ends) (k m : ℤ) → AreEndsWithin m x → AreEndsWithin (pos (nat_abs k) *ℤ m) (scale_ends x k)
scaled_within x (pos k) m h =
    let a = mul_mono_left (neg_ℤ m) x.lo (pos k) (omega (arith, ints)) h.low in
    let b = mul_mono_left x.hi m (pos k) (omega (arith, ints)) h.high in
    record { low = omega (arith, ints, mul_neg (pos k) m); high = b }
scaled_within x (negsuc k) m h =
    let a = mul_anti_left x.hi m (negsuc k) (omega (arith, ints)) h.high in
    let b = mul_anti_left (neg_ℤ m) x.lo (negsuc k) (omega (arith, ints)) h.low in
    let e : negsuc k *ℤ m ≡ neg_ℤ (pos (suc k) *ℤ m) = neg_mul (pos (suc k)) m in
    let f : negsuc k *ℤ neg_ℤ m ≡ neg_ℤ (negsuc k *ℤ m) = mul_neg (negsuc k) m in
    record { low = omega (arith, ints); high = omega (arith, ints) }

pub added_within : (x y : Ends) (m n : ℤ) → AreEndsWithin m x → AreEndsWithin n y → AreEndsWithin (m +ℤ n) (add_ends x y)
added_within x y m n h k =
    let a = h.low in let b = h.high in let c = k.low in let d = k.high in
    record { low = omega (arith, ints); high = omega (arith, ints) }

pub wider : (x : Ends) (m n : ℤ) → m ≤ℤ n → AreEndsWithin m x → AreEndsWithin n x
wider x m n h k =
    let a = k.low in let b = k.high in
    record { low = omega (arith, ints); high = omega (arith, ints) }

pub over_within : (x : Ends) (den m : ℤ) → pos 0 <ℤ den → x.lo ≤ℤ x.hi → AreEndsWithin (m *ℤ den) x → AreEndsWithin m (over_ends x den)
over_within x den m p o h =
    let a = h.low in let b = h.high in
    record {
      low = (floor_within x.lo den _ m p a (omega (arith, ints)) (floor_of_is x.lo den p)).0;
      high = (ceiling_within x.hi den _ m p (omega (arith, ints)) b (ceiling_of_is x.hi den p)).1;
    }

pub scaled_ordered : (x : Ends) (k : ℤ) → x.lo ≤ℤ x.hi → (scale_ends x k).lo ≤ℤ (scale_ends x k).hi
scaled_ordered x (pos k) h = mul_mono_left x.lo x.hi (pos k) (omega (arith, ints)) h
scaled_ordered x (negsuc k) h = mul_anti_left x.lo x.hi (negsuc k) (omega (arith, ints)) h

within_range : (m : ℤ) (x : Ends) → m ≤ℤ pos (2 ^ 110) → AreEndsWithin m x → IsIntervalInRange x
within_range m x h k =
    let a = k.low in let b = k.high in
    record { low = omega (arith, ints); high = omega (arith, ints) }

-- ---- one term

pub single_scaled : (P : ℕ) (w : Ends) → IsVarianceInRange P w → AreEndsWithin ((pos 1024 *ℤ unit P) *ℤ pos 43200) (scale_ends w (pos 525600))
single_scaled P w h =
    let u = unit_positive P in
    wider (scale_ends w (pos 525600)) _ _ (omega (arith, ints)) (scaled_within w (pos 525600) (pos 6 *ℤ unit P) h)

pub single_scaled_range : (P : ℕ) (w : Ends) → IsScale P → IsVarianceInRange P w → IsIntervalInRange (scale_ends w (pos 525600))
single_scaled_range P w s h = let u = unit_at_most P s in within_range _ (scale_ends w (pos 525600)) (omega (arith, ints)) (single_scaled P w h)

pub single_range : (P : ℕ) (w : Ends) → w.lo ≤ℤ w.hi → IsVarianceInRange P w → IsSquareInRange P (single_ends w)
single_range P w o h = over_within (scale_ends w (pos 525600)) (pos 43200) (pos 1024 *ℤ unit P) (omega (arith, ints)) (scaled_ordered w (pos 525600) o) (single_scaled P w h)

pub single_encloses : (P : ℕ) (w : Ends) (f : Fraction) → IsMember P w f → IsMember P (single_ends w) (single_square f)
single_encloses P w f m =
    over_encloses P (scale_ends w (pos 525600)) (pos 43200) (whole (pos 525600) *ᶠ f) (omega (arith, ints)) (scale_encloses P w (pos 525600) f m)

-- ---- two terms

module _ (P : ℕ) (w1 w2 : Ends) (n1 n2 target : ℕ) (rising : n1 < n2) (last : n2 ≤ 262800) (ahead : 10080 ≤ target) (weights : nat_abs (pos n2 -ℤ pos target) + nat_abs (pos target -ℤ pos n1) ≤ 3 * (n2 - n1)) where
  abbrev pub a : ℤ
  a = pos n2 -ℤ pos target

  abbrev pub b : ℤ
  b = pos target -ℤ pos n1

  -- how far the terms lie apart, in units of 2^-P
  abbrev pub apart : ℤ
  apart = pos (n2 - n1) *ℤ unit P

  apart_nonneg : pos 0 ≤ℤ apart
  apart_nonneg = let u = unit_positive P in mul_nonneg (pos (n2 - n1)) (unit P) (omega (arith, ints)) (omega (arith, ints))

  abbrev pub mixed : Ends
  mixed = add_ends (scale_ends w1 a) (scale_ends w2 b)

  abbrev pub year : Ends
  year = scale_ends mixed (pos 525600)

  abbrev pub den : ℤ
  den = pos (target * (n2 - n1))

  pub den_positive : pos 0 <ℤ den
  den_positive = mul_positive (pos target) (pos (n2 - n1)) (omega (arith, ints)) (omega (arith, ints))

  -- both weights times six units, in absolute value, are at most eighteen units times the distance
  weighted : (pos (nat_abs a) *ℤ (pos 6 *ℤ unit P) +ℤ pos (nat_abs b) *ℤ (pos 6 *ℤ unit P)) ≤ℤ (pos 18 *ℤ apart)
  weighted =
      let u = unit_positive P in
      let s = mul_mono (pos (nat_abs a + nat_abs b)) (pos (3 * (n2 - n1))) (pos 6 *ℤ unit P) (omega (arith, ints)) (omega (arith, ints)) in
      let d = add_mul (pos (nat_abs a)) (pos (nat_abs b)) (pos 6 *ℤ unit P) in
      let e : pos (3 * (n2 - n1)) *ℤ (pos 6 *ℤ unit P) ≡ pos 3 *ℤ (pos (n2 - n1) *ℤ (pos 6 *ℤ unit P)) = mul_assoc (pos 3) (pos (n2 - n1)) (pos 6 *ℤ unit P) in
      let f : pos (n2 - n1) *ℤ (pos 6 *ℤ unit P) ≡ pos 6 *ℤ apart = mul_left_comm (pos (n2 - n1)) (pos 6) (unit P) in
      omega (arith, ints)

  -- 1024 units times the divisor
  most : (pos 9460800 *ℤ apart) ≤ℤ ((pos 1024 *ℤ unit P) *ℤ den)
  most =
      let s = mul_mono (pos 9460800) (pos (1024 * target)) apart apart_nonneg (omega (arith, ints)) in
      let e : pos (1024 * target) *ℤ apart ≡ pos 1024 *ℤ (pos target *ℤ apart) = mul_assoc (pos 1024) (pos target) apart in
      let f : pos target *ℤ apart ≡ den *ℤ unit P = sym (mul_assoc (pos target) (pos (n2 - n1)) (unit P)) in
      let g : (pos 1024 *ℤ unit P) *ℤ den ≡ pos 1024 *ℤ (unit P *ℤ den) = mul_assoc (pos 1024) (unit P) den in
      let h : unit P *ℤ den ≡ den *ℤ unit P = mul_comm (unit P) den in
      omega (arith, ints)

  -- the distance of the terms is small
  small : IsScale P → apart ≤ℤ pos (262800 * 2 ^ 62)
  small s =
      let u = unit_at_most P s in
      let p = unit_positive P in
      let m = mul_mono (pos (n2 - n1)) (pos 262800) (unit P) (omega (arith, ints)) (omega (arith, ints)) in
      omega (arith, ints)

  module _ (h1 : IsVarianceInRange P w1) (h2 : IsVarianceInRange P w2) where
    pub mixed_within : AreEndsWithin (pos 18 *ℤ apart) mixed
    mixed_within =
        wider mixed _ _ weighted (added_within (scale_ends w1 a) (scale_ends w2 b) _ _ (scaled_within w1 a (pos 6 *ℤ unit P) h1) (scaled_within w2 b (pos 6 *ℤ unit P) h2))

    pub year_within : AreEndsWithin (pos 9460800 *ℤ apart) year
    year_within = wider year _ _ (omega (arith, ints)) (scaled_within mixed (pos 525600) (pos 18 *ℤ apart) mixed_within)

    pub near_scaled_range : IsScale P → IsIntervalInRange (scale_ends w1 a)
    near_scaled_range s =
        let u = unit_positive P in
        let n = mul_nonneg (pos (nat_abs b)) (pos 6 *ℤ unit P) (omega (arith, ints)) (omega (arith, ints)) in
        within_range _ (scale_ends w1 a) (omega (arith, ints, weighted, small s)) (scaled_within w1 a (pos 6 *ℤ unit P) h1)

    pub next_scaled_range : IsScale P → IsIntervalInRange (scale_ends w2 b)
    next_scaled_range s =
        let u = unit_positive P in
        let n = mul_nonneg (pos (nat_abs a)) (pos 6 *ℤ unit P) (omega (arith, ints)) (omega (arith, ints)) in
        within_range _ (scale_ends w2 b) (omega (arith, ints, weighted, small s)) (scaled_within w2 b (pos 6 *ℤ unit P) h2)

    pub mixed_range : IsScale P → IsIntervalInRange mixed
    mixed_range s = within_range _ mixed (omega (arith, ints, small s)) mixed_within

    pub year_range : IsScale P → IsIntervalInRange year
    year_range s = within_range _ year (omega (arith, ints, small s)) year_within

    pub square_range : w1.lo ≤ℤ w1.hi → w2.lo ≤ℤ w2.hi → IsSquareInRange P (interpolated_ends target w1 n1 w2 n2)
    square_range o1 o2 =
        let s1 = scaled_ordered w1 a o1 in
        let s2 = scaled_ordered w2 b o2 in
        let o = scaled_ordered mixed (pos 525600) (omega (arith, ints)) in
        over_within year den (pos 1024 *ℤ unit P) den_positive o (wider year _ _ most year_within)

  pub square_encloses : (f g : Fraction) → IsMember P w1 f → IsMember P w2 g → IsMember P (interpolated_ends target w1 n1 w2 n2) (index_square target f n1 g n2)
  square_encloses f g m n =
      let x : Fraction = whole a *ᶠ f in
      let y : Fraction = whole b *ᶠ g in
      let sum = add_encloses P (scale_ends w1 a) (scale_ends w2 b) x y (scale_encloses P w1 a f m) (scale_encloses P w2 b g n) in
      over_encloses P year den (whole (pos 525600) *ᶠ (x +ᶠ y)) den_positive (scale_encloses P mixed (pos 525600) (x +ᶠ y) sum)

-- ---- what the code's values are under their casts

pub given : (r z : ℤ) → mag r < 2 ^ 63 → r ≡ z → to_z w64 (of_z w64 r) ≡ z
given r z f e = to_z-of_z {w = w64} (record { sfits = f }) ∙ e

pub scaled_given_range : (x : Ends) (k k' : ℤ) → k' ≡ k → IsIntervalInRange (scale_ends x k) → IsIntervalInRange (scale_ends x k')
scaled_given_range x k k' e h = let Q : ℤ → Type 0 = λ z. IsIntervalInRange (scale_ends x z) in subst Q (sym e) h

pub single_given : (x w : Ends) (k d : ℤ) → x ≡ scale_ends w k → k ≡ pos 525600 → d ≡ pos 43200 → over_ends x d ≡ single_ends w
single_given x w k d p q r = ap₂ over_ends (p ∙ ap (scale_ends w) q) r

pub mixed_given : (x y w1 w2 : Ends) (j k a b : ℤ) → x ≡ scale_ends w1 j → j ≡ a → y ≡ scale_ends w2 k → k ≡ b → add_ends x y ≡ add_ends (scale_ends w1 a) (scale_ends w2 b)
mixed_given x y w1 w2 j k a b p q r s = ap₂ add_ends (p ∙ ap (scale_ends w1) q) (r ∙ ap (scale_ends w2) s)

pub year_given : (x m : Ends) (k : ℤ) → x ≡ m → k ≡ pos 525600 → scale_ends x k ≡ scale_ends m (pos 525600)
year_given x m k p q = ap₂ scale_ends p q

pub over_given : (x y : Ends) (d e : ℤ) → x ≡ y → d ≡ e → over_ends x d ≡ over_ends y e
over_given x y d e p q = ap₂ over_ends p q
