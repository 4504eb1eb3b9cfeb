-- A figure's square and its printed ends pass the tests of a certificate's.
use Rattle.std.proofs.Common.{◌≡◌, sym, subst, refl, ℕ, zero, suc, ◌+◌, ◌-◌, ◌*◌, ◌%◌, ◌^◌, ◌<◌, ◌≤◌, inr, ℤ, pos, negsuc, ◌+ℤ◌, ◌-ℤ◌, ◌*ℤ◌, ◌≤ℤ◌, ◌<ℤ◌, arith}
use Rattle.std.proofs.lemmas.Int.{ints, by_lt_z}
use Rattle.std.proofs.lemmas.Nat.{div-add-mod'}
use Rattle.std.proofs.Math.Nat.{mod-lt}
use Rattle.vx_num.specs.SignedSquare.{signed_square}
use Rattle.vx_num.proofs.Whole.{mul_mono_left, mul_anti_left, mul_positive, mul_cancel_strict, square_mono}
use Rattle.vx_interval.specs.Ends.{Ends, unit, add_ends, scale_ends}
use Rattle.vx_interval.proofs.EndsLemmas.{unit_positive}
use Rattle.vx_interval.proofs.RoundingLemmas.{floor_of_is, ceiling_of_is}
use Rattle.vx_bounds.specs.Root.{IsLeastRoot}
use Rattle.vx_bounds.specs.Cents.{Decides, cents_of}
use Rattle.vx_bounds.specs.declared.cents.Decision.TheVariants as decision
use Rattle.vx_bounds.proofs.RootsAreOne.{roots_are_ordered}
use Rattle.vx_formula.specs.declared.limits.TheConstants.{YEAR_MINUTES, THIRTY_DAYS, INDEX_WIDTH_MAX}
use Rattle.vx_claims.specs.FigureTests.{weighted, span, EnclosesSquare, EnclosesSingleSquare, EnclosesIndex}
use Rattle.vx_claims.specs.declared.limits.TheConstants.{INDEX_END_MAX}
use Rattle.vx_soundness.proofs.FigureLemmas.{span_is}
use Rattle.vx_term.specs.Index.{interpolated_ends, single_ends}
use Rattle.vx_term.specs.Ranges.{IsSquareInRange}
use Rattle.vx_certify.specs.Certified.{AreIndexEnds, certified_ends, certified_figure}

-- ---- the square of two terms

-- a multiple of any number between the ends lies between the ends of the multiple
multiple_low : (x : Ends) (k y : ℤ) → x.lo ≤ℤ y → y ≤ℤ x.hi → (scale_ends x k).lo ≤ℤ (k *ℤ y)
multiple_low x (pos k) y low high = mul_mono_left x.lo y (pos k) (omega (arith, ints)) low
multiple_low x (negsuc k) y low high = mul_anti_left y x.hi (negsuc k) (omega (arith, ints)) high

multiple_high : (x : Ends) (k y : ℤ) → x.lo ≤ℤ y → y ≤ℤ x.hi → (k *ℤ y) ≤ℤ (scale_ends x k).hi
multiple_high x (pos k) y low high = mul_mono_left y x.hi (pos k) (omega (arith, ints)) high
multiple_high x (negsuc k) y low high = mul_anti_left x.lo y (negsuc k) (omega (arith, ints)) low

-- the sum of two such multiples, taken for a year
year_low : (w1 w2 : Ends) (a b y z : ℤ) → w1.lo ≤ℤ y → y ≤ℤ w1.hi → w2.lo ≤ℤ z → z ≤ℤ w2.hi
    → (pos YEAR_MINUTES *ℤ ((scale_ends w1 a).lo +ℤ (scale_ends w2 b).lo)) ≤ℤ (pos YEAR_MINUTES *ℤ (a *ℤ y +ℤ b *ℤ z))
year_low w1 w2 a b y z l1 h1 l2 h2 = let m = multiple_low w1 a y l1 h1 in let n = multiple_low w2 b z l2 h2 in omega (arith, ints, m, n)

year_high : (w1 w2 : Ends) (a b y z : ℤ) → w1.lo ≤ℤ y → y ≤ℤ w1.hi → w2.lo ≤ℤ z → z ≤ℤ w2.hi
    → (pos YEAR_MINUTES *ℤ (a *ℤ y +ℤ b *ℤ z)) ≤ℤ (pos YEAR_MINUTES *ℤ ((scale_ends w1 a).hi +ℤ (scale_ends w2 b).hi))
year_high w1 w2 a b y z l1 h1 l2 h2 = let m = multiple_high w1 a y l1 h1 in let n = multiple_high w2 b z l2 h2 in omega (arith, ints, m, n)

-- the square of the index from two variances
pub square_is_enclosed : (P target n1 n2 : ℕ) (w1 w2 : Ends) → 1 ≤ target → n1 < n2 → w1.lo ≤ℤ w1.hi → w2.lo ≤ℤ w2.hi
    → (interpolated_ends target w1 n1 w2 n2).lo ≤ℤ (interpolated_ends target w1 n1 w2 n2).hi → IsSquareInRange P (interpolated_ends target w1 n1 w2 n2)
    → EnclosesSquare P target n1 n2 (certified_ends w1) (certified_ends w2) (certified_ends (interpolated_ends target w1 n1 w2 n2))
unfolding unit
square_is_enclosed P target n1 n2 w1 w2 some rising o1 o2 ordered range =
    let a : ℤ = pos n2 -ℤ pos target in
    let b : ℤ = pos target -ℤ pos n1 in
    let den : ℤ = pos (target * (n2 - n1)) in
    let positive : pos 0 <ℤ den = mul_positive (pos target) (pos (n2 - n1)) (omega (arith, ints, some)) (omega (arith, ints, rising)) in
    let year : Ends = scale_ends (add_ends (scale_ends w1 a) (scale_ends w2 b)) (pos YEAR_MINUTES) in
    let floor = (floor_of_is year.lo den positive).at_most in
    let ceiling = (ceiling_of_is year.hi den positive).at_least in
    let spanned = span_is target n1 n2 rising in
    let x : Ends = interpolated_ends target w1 n1 w2 n2 in
    let at_low : (y z : ℤ) → w1.lo ≤ℤ y → y ≤ℤ w1.hi → w2.lo ≤ℤ z → z ≤ℤ w2.hi → (x.lo *ℤ span target n1 n2) ≤ℤ weighted target n1 n2 y z =
    λ y z l1 h1 l2 h2. let m = year_low w1 w2 a b y z l1 h1 l2 h2 in subst (λ (s : ℤ). (x.lo *ℤ s) ≤ℤ weighted target n1 n2 y z) (sym spanned) (omega (arith, ints, m, floor)) in
    let at_high : (y z : ℤ) → w1.lo ≤ℤ y → y ≤ℤ w1.hi → w2.lo ≤ℤ z → z ≤ℤ w2.hi → weighted target n1 n2 y z ≤ℤ (x.hi *ℤ span target n1 n2) =
    λ y z l1 h1 l2 h2. let m = year_high w1 w2 a b y z l1 h1 l2 h2 in subst (λ (s : ℤ). weighted target n1 n2 y z ≤ℤ (x.hi *ℤ s)) (sym spanned) (omega (arith, ints, m, ceiling)) in
    let here : (z : ℤ) → z ≤ℤ z = λ z. omega (arith, ints) in
    let low = range.low in
    let high = range.high in
    record {
      low_range = (omega (arith, ints, low), omega (arith, ints, ordered, high));
      high_range = (omega (arith, ints, low, ordered), omega (arith, ints, high));
      low = (
        (at_low w1.lo w2.lo (here w1.lo) o1 (here w2.lo) o2, at_low w1.lo w2.hi (here w1.lo) o1 o2 (here w2.hi)),
        (at_low w1.hi w2.lo o1 (here w1.hi) (here w2.lo) o2, at_low w1.hi w2.hi o1 (here w1.hi) o2 (here w2.hi)),
      );
      high = (
        (at_high w1.lo w2.lo (here w1.lo) o1 (here w2.lo) o2, at_high w1.lo w2.hi (here w1.lo) o1 o2 (here w2.hi)),
        (at_high w1.hi w2.lo o1 (here w1.hi) (here w2.lo) o2, at_high w1.hi w2.hi o1 (here w1.hi) o2 (here w2.hi)),
      );
    }

-- and from one
pub single_is_enclosed : (P : ℕ) (w : Ends) → w.lo ≤ℤ w.hi → (single_ends w).lo ≤ℤ (single_ends w).hi → IsSquareInRange P (single_ends w)
    → EnclosesSingleSquare P (certified_ends w) (certified_ends (single_ends w))
unfolding unit
single_is_enclosed P w o ordered range =
    let den : ℤ = pos THIRTY_DAYS in
    let positive : pos 0 <ℤ den = omega (arith, ints) in
    let floor = (floor_of_is (pos YEAR_MINUTES *ℤ w.lo) den positive).at_most in
    let ceiling = (ceiling_of_is (pos YEAR_MINUTES *ℤ w.hi) den positive).at_least in
    let low = range.low in
    let high = range.high in
    record {
      low_range = (omega (arith, ints, low), omega (arith, ints, ordered, high));
      high_range = (omega (arith, ints, low, ordered), omega (arith, ints, high));
      low = (omega (arith, ints, floor), omega (arith, ints, floor, o));
      high = (omega (arith, ints, ceiling, o), omega (arith, ints, ceiling));
    }

-- ---- the printed ends

-- the signed square of a number that is not negative
plain_square : (z : ℤ) → pos 0 ≤ℤ z → signed_square z ≡ z *ℤ z
plain_square (pos z) h = refl
plain_square (negsuc z) h = absurd (omega (arith, ints))

-- a number with a square below 1024 * 10^16 is below 3,200,000,000
root_small : (z : ℤ) → pos 0 ≤ℤ z → (z *ℤ z) <ℤ pos 10240000000000000000 → z <ℤ pos INDEX_END_MAX
root_small z h small =
    by_lt_z z (pos INDEX_END_MAX) (λ less. less)
    (λ more. let squares = square_mono (pos INDEX_END_MAX) z (omega (arith, ints)) more in absurd (omega (arith, ints, squares)))

-- the high end is at most 3,200,000,000 where the square is at most 1024
pub high_end_small : (P : ℕ) (x : Ends) (hi : ℤ) → x.hi ≤ℤ (pos 1024 *ℤ unit P) → IsLeastRoot (unit P) x.hi hi → pos 0 ≤ℤ hi → hi ≤ℤ pos INDEX_END_MAX
high_end_small P x (negsuc h) range root not_negative = omega (arith, ints)
high_end_small P x (pos zero) range root not_negative = omega (arith, ints)
high_end_small P x (pos (suc h)) range root not_negative =
    let u = unit_positive P in
    let below = root.last_below in
    let before : pos (suc h) -ℤ pos 1 ≡ pos h = omega (arith, ints) in
    let F : ℤ → Type 0 = λ z. (signed_square z *ℤ unit P) <ℤ (pos (10 ^ 16) *ℤ x.hi) in
    let at = subst F before below in
    let small : (pos h *ℤ pos h) <ℤ pos 10240000000000000000 = mul_cancel_strict (pos h *ℤ pos h) (pos 10240000000000000000) (unit P) u (omega (arith, ints, at, range)) in
    let less = root_small (pos h) (omega (arith, ints)) small in
    omega (arith, ints, less)

-- the figure of v millionths lies within half a cent of it
pub cents_low : (v : ℕ) → 10000 * cents_of v ≤ v + 5000
cents_low v = let parts = div-add-mod' (v + 5000) 10000 in omega (arith, parts)

cents_high : (v : ℕ) → v < 10000 * cents_of v + 5000
cents_high v =
    let parts = div-add-mod' (v + 5000) 10000 in
    let less : (v + 5000) % 10000 < 10000 = mod-lt (v + 5000) (omega arith) in
    omega (arith, parts, less)

-- the printed ends enclose the index, lie close, and round to the cents
pub index_is_enclosed : (P : ℕ) (x : Ends) (lo hi : ℤ) (cents : ℕ) → x.lo ≤ℤ x.hi → IsSquareInRange P x → AreIndexEnds P x lo hi → Decides lo hi (decision.Cents cents)
    → hi ≤ℤ (lo +ℤ pos INDEX_WIDTH_MAX) → EnclosesIndex P (certified_figure x lo hi cents)
unfolding unit
index_is_enclosed P x lo hi cents ordered range ends (apart, not_negative, v, lo_is, cents_are) near =
    let u = unit_positive P in
    let in_order = roots_are_ordered (unit P) x.lo x.hi lo hi u ordered ends.low ends.high in
    let hi_not_negative : pos 0 ≤ℤ hi = omega (arith, ints, not_negative, in_order) in
    let low_square = plain_square lo not_negative in
    let high_square = plain_square hi hi_not_negative in
    let at_most = (ends.low).at_most in
    let at_least = (ends.high).at_least in
    let below = cents_low v in
    let above = cents_high v in
    let F : ℤ → Type 0 = λ s. (s *ℤ unit P) ≤ℤ (pos (10 ^ 16) *ℤ x.lo) in
    let G : ℤ → Type 0 = λ s. (pos (10 ^ 16) *ℤ x.hi) ≤ℤ (s *ℤ unit P) in
    let boundary : ℤ = pos (10000 * cents + 5000) in
    record {
      not_negative = not_negative;
      in_order = in_order;
      in_range = high_end_small P x hi range.high ends.high hi_not_negative;
      narrow = omega (arith, ints, near);
      low = subst F low_square at_most;
      high = subst G high_square at_least;
      rounds_low = omega (arith, ints, lo_is, cents_are, below);
      rounds_high = by_lt_z hi boundary (λ less. less)
          (λ most. absurd (apart (boundary, inr (cents, refl), omega (arith, ints, lo_is, cents_are, above), most)));
    }
