-- The excess of the forward and the variance: their ranges and their members.
use Rattle.std.proofs.Common.{◌≡◌, ◌∙◌, ℕ, ◌*◌, ◌-◌, ◌^◌, ◌≤◌, ℤ, pos, ◌*ℤ◌, neg_ℤ, ◌≤ℤ◌, ◌<ℤ◌, ap, ap₂, arith}
use Rattle.std.proofs.lemmas.Int.{ints}
use native.Mathlib.Nat.{mul-le-mul}
use Rattle.vx_num.specs.Fraction.{Fraction, whole, ◌-ᶠ◌, ◌*ᶠ◌, ◌/ᶠ◌}
use Rattle.vx_num.proofs.Whole.{mul_assoc, mul_comm, mul_both, mul_nonneg, square_mono}
use Rattle.vx_num.proofs.Quotients.{floor_greatest, ceiling_least}
use Rattle.vx_interval.specs.Ends.{Ends, IsScale, IsIntervalInRange, unit, magnitude, exact_ends, sub_ends, scale_ends, mul_ends, square_ends, over_ends}
use Rattle.vx_interval.specs.Membership.{IsMember}
use Rattle.vx_interval.proofs.EndsLemmas.{unit_positive}
use Rattle.vx_interval.proofs.RoundingLemmas.{floor_of_is, ceiling_of_is}
use Rattle.vx_interval.proofs.Enclosures.{exact_encloses, sub_encloses, scale_encloses, mul_encloses, over_encloses, least_above, greatest_below}
use Rattle.vx_interval.proofs.Squares.{square_encloses, least_nonneg, greatest_is_at_most}
use Rattle.vx_interval.proofs.Widths.{within}
use Rattle.vx_interval.proofs.Ranges.{unit_up, unit_at_most}
use Rattle.vx_forward.proofs.ForwardLemmas.{exact_strike_in_range}
use Rattle.vx_term.specs.Steps.{IsUpTo, IsExponentialInRange}
use Rattle.vx_term.specs.Variance.{excess_ends, variance_ends}

-- ---- the excess

module _ (P k : ℕ) (f : Ends) (at_least : (pos k *ℤ unit P) ≤ℤ f.lo) (ordered : f.lo ≤ℤ f.hi) (at_most : f.hi ≤ℤ (pos (2 * k) *ℤ unit P)) where
  abbrev pub above : Ends
  above = sub_ends f (exact_ends P (pos k))

  above_up_to : IsUpTo (pos k *ℤ unit P) above
  above_up_to =
      let e : pos (2 * k) *ℤ unit P ≡ pos 2 *ℤ (pos k *ℤ unit P) = mul_assoc (pos 2) (pos k) (unit P) in
      record { low = omega (arith, ints); high = omega (arith, ints) }

  pub above_range : IsScale P → k ≤ 50000000 → IsIntervalInRange above
  above_range s h =
      let r = exact_strike_in_range P k s h in
      let a = r.low in let b = r.high in
      let c = above_up_to.low in let d = above_up_to.high in
      record { low = omega (arith, ints); high = omega (arith, ints) }

  pub excess_range : 1 ≤ k → IsUpTo (unit P) (excess_ends P k f)
  excess_range h =
      let p : pos 0 <ℤ pos k = omega (arith, ints) in
      let c = above_up_to.low in let d = above_up_to.high in
      record {
        low = floor_greatest above.lo (pos k) _ (pos 0) p (floor_of_is above.lo (pos k) p) (omega (arith, ints));
        high = ceiling_least above.hi (pos k) _ (unit P) p (ceiling_of_is above.hi (pos k) p) (omega (arith, ints, mul_comm (pos k) (unit P)));
      }

pub excess_encloses : (P k : ℕ) (f : Ends) (x : Fraction) → 1 ≤ k → IsMember P f x → IsMember P (excess_ends P k f) ((x -ᶠ whole (pos k)) /ᶠ k)
excess_encloses P k f x h m =
    over_encloses P (sub_ends f (exact_ends P (pos k))) (pos k) (x -ᶠ whole (pos k)) (omega (arith, ints))
    (sub_encloses P f (exact_ends P (pos k)) x (whole (pos k)) m (exact_encloses P (pos k)))

pub excess_given : (P k : ℕ) (f l x : Ends) (j d : ℤ) → l ≡ exact_ends P j → j ≡ pos k → x ≡ sub_ends f l → d ≡ pos k → over_ends x d ≡ excess_ends P k f
excess_given P k f l x j d p q r s = ap₂ over_ends (r ∙ ap (sub_ends f) (p ∙ ap (exact_ends P) q)) s

-- ---- the variance

magnitude_up_to : (x : Ends) (m : ℕ) → pos 0 ≤ℤ x.lo → x.lo ≤ℤ x.hi → x.hi ≤ℤ pos m → magnitude x ≤ m
unfolding magnitude
magnitude_up_to x m a b c =
    let l = within x.lo m (omega (arith, ints)) (omega (arith, ints)) in
    let h = within x.hi m (omega (arith, ints)) (omega (arith, ints)) in
    omega arith

small_product : (x y : ℕ) → x ≤ 2 ^ 63 → y ≤ 2 ^ 63 → x * y ≤ 2 ^ 126
small_product x y h k = let m : x * y ≤ 2 ^ 63 * 2 ^ 63 = mul-le-mul h k in omega arith

-- the unit is even
unit_even : (P : ℕ) → IsScale P → unit P ≡ pos 2 *ℤ unit (P - 1)
unfolding unit
unit_even P s = let e = unit_up 1 P (omega (arith, s.0)) in omega (arith, ints, e)

module _ (P : ℕ) (scale : IsScale P) (e t g : Ends) (he : IsExponentialInRange P e) (oe : e.lo ≤ℤ e.hi) (ht : IsUpTo (pos 2 *ℤ unit P) t) (ot : t.lo ≤ℤ t.hi) (hg : IsUpTo (unit P) g) (og : g.lo ≤ℤ g.hi) where
  pub product_small : magnitude e * magnitude t ≤ 2 ^ 126
  product_small =
      let u = unit_at_most P scale in
      let p = unit_positive P in
      let a = he.low in let b = he.high in let c = ht.low in let d = ht.high in
      small_product (magnitude e) (magnitude t) (magnitude_up_to e (2 ^ 63) a oe (omega (arith, ints))) (magnitude_up_to t (2 ^ 63) c ot (omega (arith, ints)))

  pub square_small : magnitude g * magnitude g ≤ 2 ^ 126
  square_small =
      let u = unit_at_most P scale in
      let a = hg.low in let b = hg.high in
      let m = magnitude_up_to g (2 ^ 63) a og (omega (arith, ints)) in
      small_product (magnitude g) (magnitude g) m m

  abbrev half : ℤ
  half = unit (P - 1)

  abbrev pub product : Ends
  product = mul_ends P e t

  -- the greatest product of ends is at most two and a half
  corner : (x y : ℤ) → pos 0 ≤ℤ x → x ≤ℤ e.hi → pos 0 ≤ℤ y → y ≤ℤ t.hi → (x *ℤ y) ≤ℤ ((pos 5 *ℤ half) *ℤ unit P)
  corner x y a b c d =
      let m = mul_both x e.hi y t.hi a b c d in
      let p = unit_positive P in
      let q = he.high in let r = ht.high in
      let n = mul_both (pos 4 *ℤ e.hi) (pos 5 *ℤ unit P) t.hi (pos 2 *ℤ unit P) (omega (arith, ints)) q (omega (arith, ints)) r in
      let f : (pos 4 *ℤ e.hi) *ℤ t.hi ≡ pos 4 *ℤ (e.hi *ℤ t.hi) = mul_assoc (pos 4) e.hi t.hi in
      let h : (pos 5 *ℤ unit P) *ℤ (pos 2 *ℤ unit P) ≡ pos 5 *ℤ (unit P *ℤ (pos 2 *ℤ unit P)) = mul_assoc (pos 5) (unit P) (pos 2 *ℤ unit P) in
      let i : unit P *ℤ (pos 2 *ℤ unit P) ≡ (pos 2 *ℤ unit P) *ℤ unit P = mul_comm (unit P) (pos 2 *ℤ unit P) in
      let j : (pos 2 *ℤ unit P) *ℤ unit P ≡ pos 2 *ℤ (unit P *ℤ unit P) = mul_assoc (pos 2) (unit P) (unit P) in
      let k : unit P *ℤ unit P ≡ pos 2 *ℤ (half *ℤ unit P) = ap (λ (z : ℤ). z *ℤ unit P) (unit_even P scale) ∙ mul_assoc (pos 2) half (unit P) in
      let l : (pos 5 *ℤ half) *ℤ unit P ≡ pos 5 *ℤ (half *ℤ unit P) = mul_assoc (pos 5) half (unit P) in
      omega (arith, ints)

  product_range : (pos 0 ≤ℤ product.lo) × ((pos 2 *ℤ product.hi) ≤ℤ (pos 5 *ℤ unit P))
  product_range =
      let p = unit_positive P in
      let a = he.low in let c = ht.low in
      let low = least_above (e.lo *ℤ t.lo) (e.lo *ℤ t.hi) (e.hi *ℤ t.lo) (e.hi *ℤ t.hi) (pos 0)
      (mul_nonneg e.lo t.lo a c) (mul_nonneg e.lo t.hi a (omega (arith, ints))) (mul_nonneg e.hi t.lo (omega (arith, ints)) c) (mul_nonneg e.hi t.hi (omega (arith, ints)) (omega (arith, ints))) in
      let high = greatest_below (e.lo *ℤ t.lo) (e.lo *ℤ t.hi) (e.hi *ℤ t.lo) (e.hi *ℤ t.hi) ((pos 5 *ℤ half) *ℤ unit P)
      (corner e.lo t.lo a oe c ot) (corner e.lo t.hi a oe (omega (arith, ints)) (omega (arith, ints))) (corner e.hi t.lo (omega (arith, ints)) (omega (arith, ints)) c ot)
      (corner e.hi t.hi (omega (arith, ints)) (omega (arith, ints)) (omega (arith, ints)) (omega (arith, ints))) in
      let floor = floor_greatest _ (unit P) product.lo (pos 0) p (floor_of_is _ (unit P) p) (omega (arith, ints)) in
      let ceiling = ceiling_least _ (unit P) product.hi (pos 5 *ℤ half) p (ceiling_of_is _ (unit P) p) high in
      (floor, omega (arith, ints, unit_even P scale, ceiling))

  square_up_to : IsUpTo (unit P) (square_ends P g)
  square_up_to =
      let p = unit_positive P in
      let a = hg.low in let b = hg.high in
      let high = greatest_is_at_most g (unit P *ℤ unit P) (square_mono g.lo (unit P) a (omega (arith, ints))) (square_mono g.hi (unit P) (omega (arith, ints)) b) in
      record {
        low = floor_greatest _ (unit P) _ (pos 0) p (floor_of_is _ (unit P) p) (omega (arith, ints, least_nonneg g));
        high = ceiling_least _ (unit P) _ (unit P) p (ceiling_of_is _ (unit P) p) high;
      }

  abbrev pub twice : Ends
  twice = scale_ends product (pos 2)

  pub twice_range : product.lo ≤ℤ product.hi → IsIntervalInRange twice
  twice_range o =
      let u = unit_at_most P scale in
      record { low = omega (arith, ints, product_range); high = omega (arith, ints, product_range) }

  pub variance_low : neg_ℤ (unit P) ≤ℤ (variance_ends P e t g).lo
  variance_low = let a = square_up_to.high in omega (arith, ints, product_range)

  pub variance_high : (variance_ends P e t g).hi ≤ℤ (pos 5 *ℤ unit P)
  variance_high = let a = square_up_to.low in omega (arith, ints, product_range)

  pub variance_range : product.lo ≤ℤ product.hi → (square_ends P g).lo ≤ℤ (square_ends P g).hi → IsIntervalInRange (variance_ends P e t g)
  variance_range o q =
      let u = unit_at_most P scale in
      let p = unit_positive P in
      record { low = omega (arith, ints, variance_low); high = omega (arith, ints, variance_high) }

pub variance_encloses : (P : ℕ) (e t g : Ends) (x s y : Fraction) → IsMember P e x → IsMember P t s → IsMember P g y → IsMember P (variance_ends P e t g) (whole (pos 2) *ᶠ (x *ᶠ s) -ᶠ y *ᶠ y)
variance_encloses P e t g x s y m n o =
    sub_encloses P (scale_ends (mul_ends P e t) (pos 2)) (square_ends P g) (whole (pos 2) *ᶠ (x *ᶠ s)) (y *ᶠ y)
    (scale_encloses P (mul_ends P e t) (pos 2) (x *ᶠ s) (mul_encloses P e t x s m n)) (square_encloses P g y o)

pub variance_given : (P : ℕ) (e t g m d q : Ends) → m ≡ mul_ends P e t → d ≡ scale_ends m (pos 2) → q ≡ square_ends P g → sub_ends d q ≡ variance_ends P e t g
variance_given P e t g m d q i j k = ap₂ sub_ends (j ∙ ap (λ (x : Ends). scale_ends x (pos 2)) i) k
