-- How wide each operation's result is.
use Rattle.std.proofs.Common.{◌≡◌, ℕ, suc, ◌+◌, ◌*◌, ◌≤◌, ℤ, pos, negsuc, ◌+ℤ◌, ◌-ℤ◌, ◌*ℤ◌, neg_ℤ, nat_abs, ◌≤ℤ◌, ◌<ℤ◌, refl, sym, arith}
use Rattle.std.proofs.lemmas.Int.{ints, by_lt_z}
use Rattle.vx_num.proofs.Whole.{neg_mul, mul_sub, sub_mul}
use Rattle.vx_num.proofs.Squares.{product_gap, square_gap, abs_product}
use Rattle.vx_num.proofs.Quotients.{quotient_gap, quotient_one}
use Rattle.vx_interval.specs.Rounding.{floor_of, ceiling_of}
use Rattle.vx_interval.specs.Ends.{Ends, unit, width, magnitude, least_of_four, least_product, greatest_product, least_square, greatest_square, ratio_ends, add_ends, sub_ends, scale_ends, mul_ends, square_ends, over_ends, rescale_ends}
use Rattle.vx_interval.proofs.EndsLemmas.{unit_positive}
use Rattle.vx_interval.proofs.RoundingLemmas.{floor_of_is, ceiling_of_is}
use Rattle.vx_interval.proofs.Enclosures.{least_above, greatest_below}
use Rattle.vx_interval.proofs.Squares.{least_across_zero, least_if_positive, least_if_negative, greatest_is_at_most}

-- a number between -m and m is at most m in absolute value
pub within : (z : ℤ) (m : ℕ) → z ≤ℤ pos m → neg_ℤ z ≤ℤ pos m → nat_abs z ≤ m
within (pos n) m h k = omega (arith, ints)
within (negsuc n) m h k = omega (arith, ints)

-- and the other way round
pub from_within : (z : ℤ) (m : ℕ) → nat_abs z ≤ m → (z ≤ℤ pos m) × (neg_ℤ (pos m) ≤ℤ z)
from_within (pos n) m h = (omega (arith, ints), omega (arith, ints))
from_within (negsuc n) m h = (omega (arith, ints), omega (arith, ints))

-- both ends are within the interval's greatest absolute value
pub magnitude_above : (x : Ends) → (nat_abs x.lo ≤ magnitude x) × (nat_abs x.hi ≤ magnitude x)
unfolding magnitude
magnitude_above x = (omega arith, omega arith)

-- the width of ordered ends is not negative
pub width_is : (x : Ends) → x.lo ≤ℤ x.hi → pos (nat_abs (width x)) ≡ width x
width_is x h = positive (width x) (omega (arith, ints))
  where
    positive : (z : ℤ) → pos 0 ≤ℤ z → pos (nat_abs z) ≡ z
    positive (pos n) h = refl
    positive (negsuc n) h = absurd (omega (arith, ints))

-- ---- sums, differences and whole factors

-- the width of a sum is the sum of the widths
pub add_width : (x y : Ends) → width (add_ends x y) ≡ width x +ℤ width y
add_width x y = omega (arith, ints)

-- and so is the width of a difference
pub sub_width : (x y : Ends) → width (sub_ends x y) ≡ width x +ℤ width y
sub_width x y = omega (arith, ints)

-- the width of a multiple is that multiple of the width
pub scale_width : (x : Ends) (k : ℤ) → width (scale_ends x k) ≡ pos (nat_abs k) *ℤ width x
scale_width x (pos k) = sym (mul_sub (pos k) x.hi x.lo)
scale_width x (negsuc k) = omega (arith, ints, neg_mul (pos (suc k)) x.hi, neg_mul (pos (suc k)) x.lo, mul_sub (pos (suc k)) x.hi x.lo)

-- ---- quotients

-- the interval of a quotient is at most one unit wide
pub ratio_width : (P : ℕ) (num den : ℤ) → pos 0 <ℤ den → width (ratio_ends P num den) ≤ℤ pos 1
ratio_width P num den h =
    let a : ℤ = num *ℤ unit P in
    omega (arith, ints, quotient_one a den (floor_of a den) (ceiling_of a den) h (floor_of_is a den h) (ceiling_of_is a den h))

-- an interval over a number is less than two units wider than its width over that number
pub over_width : (x : Ends) (den : ℤ) → pos 0 <ℤ den → (width (over_ends x den) *ℤ den) <ℤ (width x +ℤ (den +ℤ den))
over_width x den h =
    quotient_gap x.lo x.hi den (width x) (floor_of x.lo den) (ceiling_of x.hi den) (omega (arith, ints)) (floor_of_is x.lo den h) (ceiling_of_is x.hi den h)

-- so is an interval at another scale
pub rescale_width : (P R : ℕ) (x : Ends) → (width (rescale_ends P R x) *ℤ unit P) <ℤ (width x *ℤ unit R +ℤ (unit P +ℤ unit P))
rescale_width P R x =
    let h = unit_positive P in
    let a : ℤ = x.lo *ℤ unit R in
    let b : ℤ = x.hi *ℤ unit R in
    quotient_gap a b (unit P) (width x *ℤ unit R) (floor_of a (unit P)) (ceiling_of b (unit P)) (omega (arith, ints, sub_mul x.hi x.lo (unit R))) (floor_of_is a (unit P) h) (ceiling_of_is b (unit P) h)

-- ---- products

corner_gap : (a b c d : ℤ) (m n v w : ℕ) → nat_abs a ≤ m → nat_abs d ≤ n → nat_abs (a -ℤ c) ≤ v → nat_abs (b -ℤ d) ≤ w → (a *ℤ b -ℤ pos (m * w + n * v)) ≤ℤ (c *ℤ d)
corner_gap a b c d m n v w ha hd hac hbd = omega (arith, ints, product_gap a b c d m n v w ha hd hac hbd)

-- two ends are at most the width apart
record Apart (lo hi : ℤ) (w : ℕ) : Type 0 where
  ll : nat_abs (lo -ℤ lo) ≤ w
  lh : nat_abs (lo -ℤ hi) ≤ w
  hl : nat_abs (hi -ℤ lo) ≤ w
  hh : nat_abs (hi -ℤ hi) ≤ w

apart : (x : Ends) → x.lo ≤ℤ x.hi → Apart x.lo x.hi (nat_abs (width x))
apart x h =
    let e = width_is x h in
    let w : ℕ = nat_abs (width x) in
    record {
      ll = within (x.lo -ℤ x.lo) w (omega (arith, ints)) (omega (arith, ints));
      lh = within (x.lo -ℤ x.hi) w (omega (arith, ints)) (omega (arith, ints));
      hl = within (x.hi -ℤ x.lo) w (omega (arith, ints)) (omega (arith, ints));
      hh = within (x.hi -ℤ x.hi) w (omega (arith, ints)) (omega (arith, ints));
    }

product_spread : (x y : Ends) → x.lo ≤ℤ x.hi → y.lo ≤ℤ y.hi → (greatest_product x y -ℤ least_product x y) ≤ℤ pos (magnitude x * nat_abs (width y) + magnitude y * nat_abs (width x))
product_spread x y hx hy =
    let m : ℕ = magnitude x in
    let n : ℕ = magnitude y in
    let v : ℕ = nat_abs (width x) in
    let w : ℕ = nat_abs (width y) in
    let a = magnitude_above x in
    let b = magnitude_above y in
    let p = apart x hx in
    let q = apart y hy in
    let g : ℤ = pos (m * w + n * v) in
    let ll : ℤ = x.lo *ℤ y.lo in
    let lh : ℤ = x.lo *ℤ y.hi in
    let hl : ℤ = x.hi *ℤ y.lo in
    let hh : ℤ = x.hi *ℤ y.hi in
    let from_ll : (ll -ℤ g) ≤ℤ least_of_four ll lh hl hh = least_above ll lh hl hh (ll -ℤ g)
    (corner_gap x.lo y.lo x.lo y.lo m n v w a.0 b.0 p.ll q.ll)
    (corner_gap x.lo y.lo x.lo y.hi m n v w a.0 b.1 p.ll q.lh)
    (corner_gap x.lo y.lo x.hi y.lo m n v w a.0 b.0 p.lh q.ll)
    (corner_gap x.lo y.lo x.hi y.hi m n v w a.0 b.1 p.lh q.lh) in
    let from_lh : (lh -ℤ g) ≤ℤ least_of_four ll lh hl hh = least_above ll lh hl hh (lh -ℤ g)
    (corner_gap x.lo y.hi x.lo y.lo m n v w a.0 b.0 p.ll q.hl)
    (corner_gap x.lo y.hi x.lo y.hi m n v w a.0 b.1 p.ll q.hh)
    (corner_gap x.lo y.hi x.hi y.lo m n v w a.0 b.0 p.lh q.hl)
    (corner_gap x.lo y.hi x.hi y.hi m n v w a.0 b.1 p.lh q.hh) in
    let from_hl : (hl -ℤ g) ≤ℤ least_of_four ll lh hl hh = least_above ll lh hl hh (hl -ℤ g)
    (corner_gap x.hi y.lo x.lo y.lo m n v w a.1 b.0 p.hl q.ll)
    (corner_gap x.hi y.lo x.lo y.hi m n v w a.1 b.1 p.hl q.lh)
    (corner_gap x.hi y.lo x.hi y.lo m n v w a.1 b.0 p.hh q.ll)
    (corner_gap x.hi y.lo x.hi y.hi m n v w a.1 b.1 p.hh q.lh) in
    let from_hh : (hh -ℤ g) ≤ℤ least_of_four ll lh hl hh = least_above ll lh hl hh (hh -ℤ g)
    (corner_gap x.hi y.hi x.lo y.lo m n v w a.1 b.0 p.hl q.hl)
    (corner_gap x.hi y.hi x.lo y.hi m n v w a.1 b.1 p.hl q.hh)
    (corner_gap x.hi y.hi x.hi y.lo m n v w a.1 b.0 p.hh q.hl)
    (corner_gap x.hi y.hi x.hi y.hi m n v w a.1 b.1 p.hh q.hh) in
    let top = greatest_below ll lh hl hh (least_of_four ll lh hl hh +ℤ g) (omega (arith, ints)) (omega (arith, ints)) (omega (arith, ints)) (omega (arith, ints)) in
    omega (arith, ints)

spread_is : (m n v w : ℕ) (x y : ℤ) → pos v ≡ x → pos w ≡ y → pos (m * w + n * v) ≡ pos m *ℤ y +ℤ pos n *ℤ x
spread_is m n v w x y p q = rw (← p, ← q) (omega (arith, ints))

-- how wide a product is at most, by the widths of its factors
pub mul_width : (P : ℕ) (x y : Ends) → x.lo ≤ℤ x.hi → y.lo ≤ℤ y.hi
    → (width (mul_ends P x y) *ℤ unit P) <ℤ ((pos (magnitude x) *ℤ width y +ℤ pos (magnitude y) *ℤ width x) +ℤ (unit P +ℤ unit P))
mul_width P x y hx hy =
    let h = unit_positive P in
    let least : ℤ = least_product x y in
    let greatest : ℤ = greatest_product x y in
    let e = spread_is (magnitude x) (magnitude y) (nat_abs (width x)) (nat_abs (width y)) (width x) (width y) (width_is x hx) (width_is y hy) in
    quotient_gap least greatest (unit P) (pos (magnitude x) *ℤ width y +ℤ pos (magnitude y) *ℤ width x) (floor_of least (unit P)) (ceiling_of greatest (unit P))
    (omega (arith, ints, product_spread x y hx hy, e)) (floor_of_is least (unit P) h) (ceiling_of_is greatest (unit P) h)

square_spread : (x : Ends) → x.lo ≤ℤ x.hi → (greatest_square x -ℤ least_square x) ≤ℤ pos (2 * magnitude x * nat_abs (width x))
square_spread x hx =
    let m : ℕ = magnitude x in
    let w : ℕ = nat_abs (width x) in
    let g : ℤ = pos (2 * m * w) in
    let a = magnitude_above x in
    let p = apart x hx in
    let e = width_is x hx in
    let lo_lo : (x.lo *ℤ x.lo -ℤ g) ≤ℤ (x.lo *ℤ x.lo) = omega (arith, ints) in
    let lo_hi : (x.lo *ℤ x.lo -ℤ g) ≤ℤ (x.hi *ℤ x.hi) = omega (arith, ints, square_gap x.lo x.hi m w a.0 a.1 p.lh) in
    let hi_lo : (x.hi *ℤ x.hi -ℤ g) ≤ℤ (x.lo *ℤ x.lo) = omega (arith, ints, square_gap x.hi x.lo m w a.1 a.0 p.hl) in
    let hi_hi : (x.hi *ℤ x.hi -ℤ g) ≤ℤ (x.hi *ℤ x.hi) = omega (arith, ints) in
    by_lt_z (pos 0) x.lo
    (λ q.
    let low = least_if_positive x (x.lo *ℤ x.lo -ℤ g) q lo_lo lo_hi in
    let high = least_if_positive x (x.hi *ℤ x.hi -ℤ g) q hi_lo hi_hi in
    let top = greatest_is_at_most x (least_square x +ℤ g) (omega (arith, ints)) (omega (arith, ints)) in
    omega (arith, ints))
    (λ q. by_lt_z x.hi (pos 0)
    (λ r.
    let low = least_if_negative x (x.lo *ℤ x.lo -ℤ g) r lo_lo lo_hi in
    let high = least_if_negative x (x.hi *ℤ x.hi -ℤ g) r hi_lo hi_hi in
    let top = greatest_is_at_most x (least_square x +ℤ g) (omega (arith, ints)) (omega (arith, ints)) in
    omega (arith, ints))
    (λ r.
    let zero : least_square x ≡ pos 0 = least_across_zero x q r in
    let low_near : nat_abs x.lo ≤ w = within x.lo w (omega (arith, ints)) (omega (arith, ints)) in
    let high_near : nat_abs x.hi ≤ w = within x.hi w (omega (arith, ints)) (omega (arith, ints)) in
    let low_product = from_within (x.lo *ℤ x.lo) (m * w) (abs_product x.lo x.lo m w a.0 low_near) in
    let high_product = from_within (x.hi *ℤ x.hi) (m * w) (abs_product x.hi x.hi m w a.1 high_near) in
    let top = greatest_is_at_most x (pos (m * w)) low_product.0 high_product.0 in
    omega (arith, ints)))

twice_is : (m w : ℕ) (y : ℤ) → pos w ≡ y → pos (2 * m * w) ≡ pos 2 *ℤ (pos m *ℤ y)
twice_is m w y p = rw (← p) (omega (arith, ints))

-- how wide a square is at most
pub square_width : (P : ℕ) (x : Ends) → x.lo ≤ℤ x.hi → (width (square_ends P x) *ℤ unit P) <ℤ (pos 2 *ℤ (pos (magnitude x) *ℤ width x) +ℤ (unit P +ℤ unit P))
square_width P x hx =
    let h = unit_positive P in
    let e = twice_is (magnitude x) (nat_abs (width x)) (width x) (width_is x hx) in
    quotient_gap (least_square x) (greatest_square x) (unit P) (pos 2 *ℤ (pos (magnitude x) *ℤ width x)) (floor_of (least_square x) (unit P)) (ceiling_of (greatest_square x) (unit P))
    (omega (arith, ints, square_spread x hx, e)) (floor_of_is (least_square x) (unit P) h) (ceiling_of_is (greatest_square x) (unit P) h)
