-- Intervals of which one lies inside the other: members, and what each operation makes of them.
use Rattle.std.proofs.Common.{◌≡◌, ℕ, ℤ, pos, negsuc, ◌*ℤ◌, ◌≤ℤ◌, ◌<ℤ◌, sym, arith}
use Rattle.std.proofs.lemmas.Int.{ints, by_lt_z}
use Rattle.vx_num.proofs.Fractions.{≤ᶠ_trans, ≃ᶠ-≤ᶠ}
use Rattle.vx_num.proofs.Quotients.{floor_mono, ceiling_mono}
use Rattle.vx_num.proofs.Whole.{mul_mono, mul_mono_left, mul_anti_left, corners_lower, corners_upper}
use Rattle.vx_interval.specs.Ends.{Ends, unit, rounded_ends, least_product, greatest_product, least_square, greatest_square}
use Rattle.vx_interval.specs.Membership.{units}
use Rattle.vx_interval.specs.Laws.{IsInside, IsOrdered, MembersStayInWider, EqualValuesAreMembers, SumsLieInside, DifferencesLieInside, MultiplesLieInside, QuotientsLieInside, RescaledLieInside, ProductsLieInside, SquaresLieInside}
use Rattle.vx_interval.proofs.EndsLemmas.{unit_positive}
use Rattle.vx_interval.proofs.RoundingLemmas.{floor_of_is, ceiling_of_is}
use Rattle.vx_interval.proofs.Enclosures.{member_at_least, member_at_most, member, least_at_most, greatest_at_least, least_above, greatest_below}
use Rattle.vx_interval.proofs.Squares.{square_above, square_below, least_if_positive, least_if_negative, least_across_zero, least_nonneg, greatest_is_at_most}

-- ---- members

-- a member of an interval is one of each wider interval
pub members_stay : MembersStayInWider
members_stay P x y f i m =
    let n : ℤ = pos f.bottom in
    let p : pos 0 ≤ℤ n = omega (arith, ints) in
    let low = member_at_least P x f m in
    let high = member_at_most P x f m in
    member P y f m.proper
    (omega (arith, ints, low, mul_mono y.lo x.lo n p i.low))
    (omega (arith, ints, high, mul_mono x.hi y.hi n p i.high))

-- a fraction of equal value is a member too
pub equal_values : EqualValuesAreMembers
equal_values P x f g p e m =
    record { proper = p; above = ≤ᶠ_trans (units P x.lo) f g m.proper m.above (≃ᶠ-≤ᶠ f g e); below = ≤ᶠ_trans g f (units P x.hi) m.proper (≃ᶠ-≤ᶠ g f (sym e)) m.below }

-- ---- sums, differences, multiples

-- sums of narrower intervals lie inside the sums of wider ones
pub sums : SumsLieInside
sums x x' y y' i j =
    let a = i.low in let b = i.high in let c = j.low in let d = j.high in
    record { low = omega (arith, ints, a, c); high = omega (arith, ints, b, d) }

-- so do differences
pub differences : DifferencesLieInside
differences x x' y y' i j =
    let a = i.low in let b = i.high in let c = j.low in let d = j.high in
    record { low = omega (arith, ints, a, d); high = omega (arith, ints, b, c) }

-- and multiples
pub multiples : MultiplesLieInside
multiples x x' (pos k) i =
    let p : pos 0 ≤ℤ pos k = omega (arith, ints) in
    record { low = mul_mono_left x'.lo x.lo (pos k) p i.low; high = mul_mono_left x.hi x'.hi (pos k) p i.high }
multiples x x' (negsuc k) i =
    let p : negsuc k ≤ℤ pos 0 = omega (arith, ints) in
    record { low = mul_anti_left x.hi x'.hi (negsuc k) p i.high; high = mul_anti_left x'.lo x.lo (negsuc k) p i.low }

-- ---- quotients that are rounded outwards

rounded : (a b c d den : ℤ) → pos 0 <ℤ den → c ≤ℤ a → b ≤ℤ d → IsInside (rounded_ends a b den) (rounded_ends c d den)
rounded a b c d den p h k =
    record { low = floor_mono c a den _ _ p h (floor_of_is c den p) (floor_of_is a den p); high = ceiling_mono b d den _ _ p k (ceiling_of_is b den p) (ceiling_of_is d den p) }

-- and quotients
pub quotients : QuotientsLieInside
quotients x x' den p i = rounded x.lo x.hi x'.lo x'.hi den p i.low i.high

unit_nonneg : (R : ℕ) → pos 0 ≤ℤ unit R
unit_nonneg R = omega (arith, ints, unit_positive R)

-- and intervals at another scale
pub rescaled : RescaledLieInside
rescaled P R x x' i =
    rounded (x.lo *ℤ unit R) (x.hi *ℤ unit R) (x'.lo *ℤ unit R) (x'.hi *ℤ unit R) (unit P) (unit_positive P)
    (mul_mono x'.lo x.lo (unit R) (unit_nonneg R) i.low) (mul_mono x.hi x'.hi (unit R) (unit_nonneg R) i.high)

-- ---- products

least_below : (x y : Ends) (a b : ℤ) → x.lo ≤ℤ a → a ≤ℤ x.hi → y.lo ≤ℤ b → b ≤ℤ y.hi → least_product x y ≤ℤ (a *ℤ b)
least_below x y a b p q r s =
    let l = least_at_most (x.lo *ℤ y.lo) (x.lo *ℤ y.hi) (x.hi *ℤ y.lo) (x.hi *ℤ y.hi) in
    corners_lower (least_product x y) x.lo x.hi y.lo y.hi a b p q r s l.0 l.1 l.2 l.3

greatest_above : (x y : Ends) (a b : ℤ) → x.lo ≤ℤ a → a ≤ℤ x.hi → y.lo ≤ℤ b → b ≤ℤ y.hi → (a *ℤ b) ≤ℤ greatest_product x y
greatest_above x y a b p q r s =
    let l = greatest_at_least (x.lo *ℤ y.lo) (x.lo *ℤ y.hi) (x.hi *ℤ y.lo) (x.hi *ℤ y.hi) in
    corners_upper (greatest_product x y) x.lo x.hi y.lo y.hi a b p q r s l.0 l.1 l.2 l.3

low_reaches : (x x' : Ends) → IsOrdered x → IsInside x x' → x.lo ≤ℤ x'.hi
low_reaches x x' o i = let b = i.high in omega (arith, ints, o, b)

high_reaches : (x x' : Ends) → IsOrdered x → IsInside x x' → x'.lo ≤ℤ x.hi
high_reaches x x' o i = let b = i.low in omega (arith, ints, o, b)

-- and products
pub products : ProductsLieInside
products P x x' y y' o q i j =
    let a = low_reaches x x' o i in
    let b = high_reaches x x' o i in
    let c = low_reaches y y' q j in
    let d = high_reaches y y' q j in
    rounded (least_product x y) (greatest_product x y) (least_product x' y') (greatest_product x' y') (unit P) (unit_positive P)
    (least_above (x.lo *ℤ y.lo) (x.lo *ℤ y.hi) (x.hi *ℤ y.lo) (x.hi *ℤ y.hi) (least_product x' y')
    (least_below x' y' x.lo y.lo i.low a j.low c) (least_below x' y' x.lo y.hi i.low a d j.high)
    (least_below x' y' x.hi y.lo b i.high j.low c) (least_below x' y' x.hi y.hi b i.high d j.high))
    (greatest_below (x.lo *ℤ y.lo) (x.lo *ℤ y.hi) (x.hi *ℤ y.lo) (x.hi *ℤ y.hi) (greatest_product x' y')
    (greatest_above x' y' x.lo y.lo i.low a j.low c) (greatest_above x' y' x.lo y.hi i.low a d j.high)
    (greatest_above x' y' x.hi y.lo b i.high j.low c) (greatest_above x' y' x.hi y.hi b i.high d j.high))

-- ---- squares

one_time : (z : ℤ) → z *ℤ pos 1 ≡ z
one_time z = omega (arith, ints)

least_of_member : (x : Ends) (a : ℤ) → x.lo ≤ℤ a → a ≤ℤ x.hi → least_square x ≤ℤ (a *ℤ a)
least_of_member x a p q =
    let s = square_above x (pos 1) a (omega (arith, ints)) (omega (arith, ints, one_time x.lo)) (omega (arith, ints, one_time x.hi)) in
    omega (arith, ints, s, one_time (least_square x))

greatest_of_member : (x : Ends) (a : ℤ) → x.lo ≤ℤ a → a ≤ℤ x.hi → (a *ℤ a) ≤ℤ greatest_square x
greatest_of_member x a p q =
    let s = square_below x (pos 1) a (omega (arith, ints, one_time x.lo)) (omega (arith, ints, one_time x.hi)) in
    omega (arith, ints, s, one_time (greatest_square x))

least_squares : (x x' : Ends) → IsOrdered x → IsInside x x' → least_square x' ≤ℤ least_square x
least_squares x x' o i =
    let a = i.low in
    let b = i.high in
    let low = least_of_member x' x.lo a (low_reaches x x' o i) in
    let high = least_of_member x' x.hi (high_reaches x x' o i) b in
    by_lt_z (pos 0) x.lo
    (λ p. least_if_positive x (least_square x') p low high)
    (λ p. by_lt_z x.hi (pos 0)
    (λ q. least_if_negative x (least_square x') q low high)
    (λ q. let zero = least_across_zero x' (omega (arith, ints, a, p)) (omega (arith, ints, b, q)) in omega (arith, ints, zero, least_nonneg x)))

-- and squares
pub squares : SquaresLieInside
squares P x x' o i =
    rounded (least_square x) (greatest_square x) (least_square x') (greatest_square x') (unit P) (unit_positive P)
    (least_squares x x' o i)
    (greatest_is_at_most x (greatest_square x')
    (greatest_of_member x' x.lo i.low (low_reaches x x' o i))
    (greatest_of_member x' x.hi (high_reaches x x' o i) i.high))
