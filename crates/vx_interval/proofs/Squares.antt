-- The square of an interval: its least and greatest square of ends, and that they enclose the square of every member.
use Rattle.std.proofs.Common.{◌≡◌, ◌∙◌, ℕ, ℤ, pos, ◌*ℤ◌, neg_ℤ, ◌≤ℤ◌, ◌<ℤ◌, arith, mul-pos}
use Rattle.std.specs.Int.{int_min}
use Rattle.std.proofs.lemmas.Int.{ints, clamps, by_lt_z}
use Rattle.vx_num.specs.Fraction.{Fraction, ◌*ᶠ◌}
use Rattle.vx_num.proofs.Whole.{mul_swap, neg_mul, mul_neg, mul_mono, square_nonneg, square_mono}
use Rattle.vx_interval.specs.Rounding.{floor_of, ceiling_of}
use Rattle.vx_interval.specs.Ends.{Ends, unit, least_square, greatest_square, square_ends}
use Rattle.vx_interval.specs.Membership.{IsMember}
use Rattle.vx_interval.proofs.EndsLemmas.{unit_positive}
use Rattle.vx_interval.proofs.RoundingLemmas.{floor_of_is, ceiling_of_is}
use Rattle.vx_interval.proofs.Enclosures.{member_at_least, member_at_most, member, product_low, product_high}

-- an interval with 0 in it has the least square 0
pub least_across_zero : (x : Ends) → x.lo ≤ℤ pos 0 → pos 0 ≤ℤ x.hi → least_square x ≡ pos 0
unfolding least_square
least_across_zero x low high = grind (arith, ints)

-- the least square is at most the square of each end
pub least_is_least : (x : Ends) → (least_square x ≤ℤ (x.lo *ℤ x.lo)) × (least_square x ≤ℤ (x.hi *ℤ x.hi))
unfolding least_square
least_is_least x =
    let a = square_nonneg x.lo in
    let b = square_nonneg x.hi in
    (grind (arith, ints, clamps), grind (arith, ints, clamps))

-- the greatest square is at least the square of each end
pub greatest_is_greatest : (x : Ends) → ((x.lo *ℤ x.lo) ≤ℤ greatest_square x) × ((x.hi *ℤ x.hi) ≤ℤ greatest_square x)
unfolding greatest_square
greatest_is_greatest x = (omega (arith, ints, clamps), omega (arith, ints, clamps))

-- above 0 what is at most both squares is at most the least one
pub least_if_positive : (x : Ends) (l : ℤ) → pos 0 <ℤ x.lo → l ≤ℤ (x.lo *ℤ x.lo) → l ≤ℤ (x.hi *ℤ x.hi) → l ≤ℤ least_square x
unfolding least_square
least_if_positive x l h a b = grind (arith, ints, clamps)

-- and below 0
pub least_if_negative : (x : Ends) (l : ℤ) → x.hi <ℤ pos 0 → l ≤ℤ (x.lo *ℤ x.lo) → l ≤ℤ (x.hi *ℤ x.hi) → l ≤ℤ least_square x
unfolding least_square
least_if_negative x l h a b = grind (arith, ints, clamps)

-- what is at least both squares is at least the greatest one
pub greatest_is_at_most : (x : Ends) (h : ℤ) → (x.lo *ℤ x.lo) ≤ℤ h → (x.hi *ℤ x.hi) ≤ℤ h → greatest_square x ≤ℤ h
unfolding greatest_square
greatest_is_at_most x h a b = omega (arith, ints, clamps)

neg_square : (z : ℤ) → neg_ℤ z *ℤ neg_ℤ z ≡ z *ℤ z
neg_square z = neg_mul z (neg_ℤ z) ∙ omega (arith, ints, mul_neg z z)

-- a square is the greater the farther its number is from 0
square_anti : (a b : ℤ) → b ≤ℤ pos 0 → a ≤ℤ b → (b *ℤ b) ≤ℤ (a *ℤ a)
square_anti a b h l = omega (arith, ints, square_mono (neg_ℤ b) (neg_ℤ a) (omega (arith, ints)) (omega (arith, ints)), neg_square a, neg_square b)

scaled_square : (a n : ℤ) → (a *ℤ n) *ℤ (a *ℤ n) ≡ (a *ℤ a) *ℤ (n *ℤ n)
scaled_square a n = mul_swap a n a n

-- lo * n ≤ X ≤ hi * n: the square of X is between the least and the greatest square, times n * n
pub square_above : (x : Ends) (n X : ℤ) → pos 0 ≤ℤ n → (x.lo *ℤ n) ≤ℤ X → X ≤ℤ (x.hi *ℤ n) → (least_square x *ℤ (n *ℤ n)) ≤ℤ (X *ℤ X)
square_above x n X hn low high =
    let nn = square_nonneg n in
    let least = least_is_least x in
    let at_lo = mul_mono (least_square x) (x.lo *ℤ x.lo) (n *ℤ n) nn least.0 in
    let at_hi = mul_mono (least_square x) (x.hi *ℤ x.hi) (n *ℤ n) nn least.1 in
    by_lt_z (pos 0) x.lo
    (λ p. let q : pos 0 ≤ℤ (x.lo *ℤ n) = omega (arith, ints, mul_mono (pos 0) x.lo n hn (omega (arith, ints))) in
    omega (arith, ints, at_lo, square_mono (x.lo *ℤ n) X q low, scaled_square x.lo n))
    (λ p. by_lt_z x.hi (pos 0)
    (λ q. let r : (x.hi *ℤ n) ≤ℤ pos 0 = omega (arith, ints, mul_mono x.hi (pos 0) n hn (omega (arith, ints))) in
    omega (arith, ints, at_hi, square_anti X (x.hi *ℤ n) r high, scaled_square x.hi n))
    (λ q. let zero : least_square x ≡ pos 0 = least_across_zero x p q in
    let none : pos 0 *ℤ (n *ℤ n) ≡ pos 0 = omega (arith, ints) in
    rw zero (omega (arith, ints, square_nonneg X, none))))

-- the square of a member is at most the greatest square
pub square_below : (x : Ends) (n X : ℤ) → (x.lo *ℤ n) ≤ℤ X → X ≤ℤ (x.hi *ℤ n) → (X *ℤ X) ≤ℤ (greatest_square x *ℤ (n *ℤ n))
square_below x n X low high =
    let nn = square_nonneg n in
    let greatest = greatest_is_greatest x in
    let at_lo = mul_mono (x.lo *ℤ x.lo) (greatest_square x) (n *ℤ n) nn greatest.0 in
    let at_hi = mul_mono (x.hi *ℤ x.hi) (greatest_square x) (n *ℤ n) nn greatest.1 in
    by_lt_z X (pos 0)
    (λ p. omega (arith, ints, at_lo, square_anti (x.lo *ℤ n) X (omega (arith, ints)) low, scaled_square x.lo n))
    (λ p. omega (arith, ints, at_hi, square_mono X (x.hi *ℤ n) p high, scaled_square x.hi n))

-- the square of an interval has the squares of its members
pub square_encloses : (P : ℕ) (x : Ends) (f : Fraction) → IsMember P x f → IsMember P (square_ends P x) (f *ᶠ f)
square_encloses P x f m =
    let n : ℤ = pos f.bottom in
    let hn : pos 0 ≤ℤ n = omega (arith, ints) in
    let u : ℤ = unit P in
    let hu : pos 0 <ℤ u = unit_positive P in
    let p : pos 0 ≤ℤ (n *ℤ n) = square_nonneg n in
    let floor = floor_of_is (least_square x) u hu in
    let ceiling = ceiling_of_is (greatest_square x) u hu in
    member P (square_ends P x) (f *ᶠ f) (mul-pos m.proper m.proper)
    (product_low (floor_of (least_square x) u) (least_square x) f.top f.top u (n *ℤ n) hu p floor.at_most (square_above x n (f.top *ℤ u) hn (member_at_least P x f m) (member_at_most P x f m)))
    (product_high (ceiling_of (greatest_square x) u) (greatest_square x) f.top f.top u (n *ℤ n) hu p ceiling.at_least (square_below x n (f.top *ℤ u) (member_at_least P x f m) (member_at_most P x f m)))

-- the least square is not negative
pub least_nonneg : (x : Ends) → pos 0 ≤ℤ least_square x
unfolding least_square
least_nonneg x =
    let a = square_nonneg x.lo in
    let b = square_nonneg x.hi in
    grind (arith, ints, clamps)

minimum_if_positive : (x : Ends) → pos 0 <ℤ x.lo → least_square x ≡ int_min (x.lo *ℤ x.lo) (x.hi *ℤ x.hi)
unfolding least_square
minimum_if_positive x p = grind (arith, ints)

minimum_if_negative : (x : Ends) → x.hi <ℤ pos 0 → least_square x ≡ int_min (x.lo *ℤ x.lo) (x.hi *ℤ x.hi)
unfolding least_square
minimum_if_negative x p = grind (arith, ints)

-- without 0 in the interval it is the lesser square of the two ends
pub least_not_across : (x : Ends) → (x.lo ≤ℤ pos 0 → pos 0 ≤ℤ x.hi → ⊥) → least_square x ≡ int_min (x.lo *ℤ x.lo) (x.hi *ℤ x.hi)
least_not_across x h =
    by_lt_z (pos 0) x.lo (minimum_if_positive x) (λ p. by_lt_z x.hi (pos 0) (minimum_if_negative x) (λ q. absurd (h p q)))
