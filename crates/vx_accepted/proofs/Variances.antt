-- A run's variance passes the test of a certificate's.
use Rattle.std.proofs.Common.{◌≡◌, ℕ, ℤ, pos, neg_ℤ, ◌-ℤ◌, ◌*ℤ◌, ◌≤ℤ◌, arith}
use Rattle.std.proofs.lemmas.Int.{ints}
use Rattle.vx_num.proofs.Whole.{mul_assoc, sub_mul}
use Rattle.vx_interval.specs.Ends.{Ends, unit, least_product, greatest_product, least_square, greatest_square}
use Rattle.vx_interval.specs.Rounding.{floor_of, ceiling_of}
use Rattle.vx_interval.proofs.EndsLemmas.{unit_positive}
use Rattle.vx_interval.proofs.RoundingLemmas.{floor_of_is, ceiling_of_is}
use Rattle.vx_interval.proofs.Enclosures.{least_at_most, greatest_at_least}
use Rattle.vx_interval.proofs.Squares.{least_is_least, greatest_is_greatest}
use Rattle.vx_claims.specs.TermTests.{EnclosesVariance}
use Rattle.vx_term.specs.Variance.{variance_ends}
use Rattle.vx_certify.specs.Certified.{certified_ends}

-- twice a quotient less another, multiplied back
taken_apart : (f c u : ℤ) → (pos 2 *ℤ f -ℤ c) *ℤ u ≡ pos 2 *ℤ (f *ℤ u) -ℤ c *ℤ u
taken_apart f c u = let a = sub_mul (pos 2 *ℤ f) c u in let b = mul_assoc (pos 2) f u in omega (arith, ints, a, b)

-- the variance's ends, from -1 to 5, are the formula's of the ends that it comes from
pub variance_is_enclosed : (P : ℕ) (e s g : Ends) → (variance_ends P e s g).lo ≤ℤ (variance_ends P e s g).hi → neg_ℤ (unit P) ≤ℤ (variance_ends P e s g).lo
    → (variance_ends P e s g).hi ≤ℤ (pos 5 *ℤ unit P) → EnclosesVariance P (certified_ends e) (certified_ends g) (certified_ends s) (certified_ends (variance_ends P e s g))
unfolding unit
variance_is_enclosed P e s g ordered low high =
    let u : ℤ = unit P in
    let p = unit_positive P in
    let down = floor_of_is (least_product e s) u p in
    let up = ceiling_of_is (greatest_product e s) u p in
    let square_down = floor_of_is (least_square g) u p in
    let square_up = ceiling_of_is (greatest_square g) u p in
    let least = least_at_most (e.lo *ℤ s.lo) (e.lo *ℤ s.hi) (e.hi *ℤ s.lo) (e.hi *ℤ s.hi) in
    let greatest = greatest_at_least (e.lo *ℤ s.lo) (e.lo *ℤ s.hi) (e.hi *ℤ s.lo) (e.hi *ℤ s.hi) in
    let a = down.at_most in
    let b = square_up.at_least in
    let c = up.at_least in
    let d = square_down.at_most in
    let l = least.0 in
    let m = greatest.3 in
    let n = (greatest_is_greatest g).1 in
    let o = (least_is_least g).0 in
    let low_apart = taken_apart (floor_of (least_product e s) u) (ceiling_of (greatest_square g) u) u in
    let high_apart = taken_apart (ceiling_of (greatest_product e s) u) (floor_of (least_square g) u) u in
    record {
      low = omega (arith, ints, low_apart, a, b, l, n);
      high = omega (arith, ints, high_apart, c, d, m, o);
      low_range = (omega (arith, ints, low, p), omega (arith, ints, ordered, high, p));
      high_range = (omega (arith, ints, low, ordered, p), omega (arith, ints, high, p));
    }
