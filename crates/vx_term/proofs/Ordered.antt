-- The ends of a variance, and of the square of the index, are in order.
use Rattle.std.proofs.Common.{ℕ, zero, suc, ◌-◌, ◌*◌, ℤ, pos, negsuc, ◌*ℤ◌, ◌-ℤ◌, ◌≤ℤ◌, ◌<ℤ◌, arith}
use Rattle.std.proofs.lemmas.Int.{ints}
use Rattle.vx_num.proofs.Quotients.{floor_at_most_ceiling, floor_mono}
use Rattle.vx_num.proofs.Whole.{mul_mono_left, mul_anti_left}
use Rattle.vx_interval.specs.Rounding.{floor_of, ceiling_of}
use Rattle.vx_interval.specs.Ends.{Ends, unit, least_product, greatest_product, least_square, greatest_square, add_ends, sub_ends, scale_ends, over_ends, mul_ends, square_ends}
use Rattle.vx_interval.proofs.EndsLemmas.{unit_positive}
use Rattle.vx_interval.proofs.RoundingLemmas.{floor_of_is, ceiling_of_is}
use Rattle.vx_interval.proofs.Enclosures.{least_at_most, greatest_at_least}
use Rattle.vx_interval.proofs.Squares.{least_is_least, greatest_is_greatest}
use Rattle.vx_formula.specs.declared.limits.TheConstants.{YEAR_MINUTES, THIRTY_DAYS}
use Rattle.vx_term.specs.Variance.{variance_ends}
use Rattle.vx_term.specs.Index.{interpolated_ends, single_ends}
use Rattle.vx_term.specs.Laws.{AreInOrder}

-- ---- quotients

by_positive : (low high d : ℤ) → pos 0 <ℤ d → low ≤ℤ high → floor_of low d ≤ℤ ceiling_of high d
by_positive low high d h less =
    let grows = floor_mono low high d (floor_of low d) (floor_of high d) h less (floor_of_is low d h) (floor_of_is high d h) in
    let below = floor_at_most_ceiling high d (floor_of high d) (ceiling_of high d) h (floor_of_is high d h) (ceiling_of_is high d h) in
    omega (arith, ints)

-- where nothing divides
by_zero : (low high : ℤ) → low ≤ℤ high → floor_of low (pos 0) ≤ℤ ceiling_of high (pos 0)
unfolding floor_of ceiling_of
by_zero (pos a) (pos zero) less = omega (arith, ints)
by_zero (pos a) (pos (suc b)) less = omega (arith, ints)
by_zero (pos a) (negsuc b) less = absurd (omega (arith, ints))
by_zero (negsuc a) (pos zero) less = omega (arith, ints)
by_zero (negsuc a) (pos (suc b)) less = omega (arith, ints)
by_zero (negsuc a) (negsuc b) less = omega (arith, ints)

pub over_ordered : (x : Ends) (d : ℕ) → AreInOrder x → AreInOrder (over_ends x (pos d))
over_ordered x zero h = by_zero x.lo x.hi h
over_ordered x (suc d) h = by_positive x.lo x.hi (pos (suc d)) (omega (arith, ints)) h

-- ---- the other operations

scale_ordered : (x : Ends) (k : ℤ) → AreInOrder x → AreInOrder (scale_ends x k)
scale_ordered x (pos k) h = mul_mono_left x.lo x.hi (pos k) (omega (arith, ints)) h
scale_ordered x (negsuc k) h = mul_anti_left x.lo x.hi (negsuc k) (omega (arith, ints)) h

add_ordered : (x y : Ends) → AreInOrder x → AreInOrder y → AreInOrder (add_ends x y)
add_ordered x y h k = omega (arith, ints)

pub sub_ordered : (x y : Ends) → AreInOrder x → AreInOrder y → AreInOrder (sub_ends x y)
sub_ordered x y h k = omega (arith, ints)

mul_ordered : (P : ℕ) (x y : Ends) → AreInOrder (mul_ends P x y)
mul_ordered P x y =
    let ll = x.lo *ℤ y.lo in
    let lh = x.lo *ℤ y.hi in
    let hl = x.hi *ℤ y.lo in
    let hh = x.hi *ℤ y.hi in
    let low = (least_at_most ll lh hl hh).0 in
    let high = (greatest_at_least ll lh hl hh).0 in
    by_positive (least_product x y) (greatest_product x y) (unit P) (unit_positive P) (omega (arith, ints))

-- the ends of a square are in order
square_ends_ordered : (P : ℕ) (x : Ends) → AreInOrder (square_ends P x)
square_ends_ordered P x =
    let low = (least_is_least x).0 in
    let high = (greatest_is_greatest x).0 in
    by_positive (least_square x) (greatest_square x) (unit P) (unit_positive P) (omega (arith, ints))

-- ---- variances and squares

pub variance_is_ordered : (P : ℕ) (e total excess : Ends) → AreInOrder (variance_ends P e total excess)
variance_is_ordered P e total excess =
    sub_ordered (scale_ends (mul_ends P e total) (pos 2)) (square_ends P excess)
    (scale_ordered (mul_ends P e total) (pos 2) (mul_ordered P e total)) (square_ends_ordered P excess)

interpolated_ordered : (target n1 n2 : ℕ) (w1 w2 : Ends) → AreInOrder w1 → AreInOrder w2 → AreInOrder (interpolated_ends target w1 n1 w2 n2)
interpolated_ordered target n1 n2 w1 w2 h k =
    let first = scale_ends w1 (pos n2 -ℤ pos target) in
    let second = scale_ends w2 (pos target -ℤ pos n1) in
    let sum = add_ends first second in
    let both : AreInOrder sum = add_ordered first second (scale_ordered w1 (pos n2 -ℤ pos target) h) (scale_ordered w2 (pos target -ℤ pos n1) k) in
    over_ordered (scale_ends sum (pos YEAR_MINUTES)) (target * (n2 - n1)) (scale_ordered sum (pos YEAR_MINUTES) both)

pub square_is_ordered : (target n1 n2 : ℕ) (w1 w2 : Ends) → AreInOrder w1 → AreInOrder w2 → AreInOrder (interpolated_ends target w1 n1 w2 n2) × AreInOrder (single_ends w1)
square_is_ordered target n1 n2 w1 w2 h k = (
  interpolated_ordered target n1 n2 w1 w2 h k,
  over_ordered (scale_ends w1 (pos YEAR_MINUTES)) THIRTY_DAYS (scale_ordered w1 (pos YEAR_MINUTES) h),
)
