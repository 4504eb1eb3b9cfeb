-- How wide a term's variance is, and the square of the index.
use Rattle.std.proofs.Common.{◌≡◌, ℕ, ◌+◌, ◌*◌, ◌-◌, ◌<◌, ◌≤◌, ℤ, pos, ◌-ℤ◌, ◌*ℤ◌, nat_abs, ◌≤ℤ◌, ◌<ℤ◌, arith}
use Rattle.std.proofs.lemmas.Int.{ints}
use Rattle.vx_num.proofs.Whole.{mul_assoc, mul_mono, mul_mono_left, mul_both, mul_positive, mul_cancel_strict}
use Rattle.vx_interval.specs.Ends.{Ends, unit, width, magnitude, exact_ends, add_ends, sub_ends, scale_ends, mul_ends, square_ends, over_ends}
use Rattle.vx_interval.proofs.EndsLemmas.{unit_positive}
use Rattle.vx_interval.proofs.Widths.{within, add_width, sub_width, scale_width, over_width, mul_width, square_width}
use Rattle.vx_formula.specs.Pair.{Pair}
use Rattle.vx_forward.specs.Forward.{forward_interval}
use Rattle.vx_forward.proofs.ForwardLemmas.{forward_width}
use Rattle.vx_term.specs.Variance.{excess_ends, variance_ends}
use Rattle.vx_term.specs.Index.{interpolated_ends, single_ends}

-- ---- a term's variance

-- at most 5 * 10,000,000 * 32 units, and two of the level
pub excess_narrow : (P k : ℕ) (pair : Pair) (e : Ends) → 100000 ≤ k → nat_abs pair.d ≤ 10000000 → e.lo ≤ℤ e.hi → width e ≤ℤ pos 32
    → width (excess_ends P k (forward_interval P pair e)) ≤ℤ pos 16001
excess_narrow P k pair e least difference ordered narrow =
    let f : Ends = forward_interval P pair e in
    let level : Ends = exact_ends P (pos k) in
    let above : Ends = sub_ends f level in
    let p : pos 0 <ℤ pos k = omega (arith, ints) in
    let spread = mul_both (pos (5 * nat_abs pair.d)) (pos 50000000) (width e) (pos 32) (omega (arith, ints)) (omega (arith, ints)) (omega (arith, ints)) narrow in
    let wide : width above ≤ℤ pos 1600000000 = omega (arith, ints, spread, forward_width P pair e, sub_width f level) in
    let quotient = over_width above (pos k) p in
    let below : width (over_ends above (pos k)) <ℤ pos 16002 = mul_cancel_strict (width (over_ends above (pos k))) (pos 16002) (pos k) p (omega (arith, ints, quotient, wide)) in
    omega (arith, ints, below)

-- the greater end in absolute value is the high one, where none is negative
magnitude_is_high : (x : Ends) → pos 0 ≤ℤ x.lo → x.lo ≤ℤ x.hi → pos (magnitude x) ≤ℤ x.hi
unfolding magnitude
magnitude_is_high x low ordered =
    let a = within x.lo (nat_abs x.hi) (omega (arith, ints)) (omega (arith, ints)) in
    omega (arith, ints, a)

module _ (P : ℕ) (e t g : Ends)
    (e_low : pos 0 ≤ℤ e.lo) (e_ordered : e.lo ≤ℤ e.hi) (e_narrow : width e ≤ℤ pos 32) (e_height : (pos 1000 *ℤ e.hi) ≤ℤ (pos 1134 *ℤ unit P))
    (t_low : pos 0 ≤ℤ t.lo) (t_ordered : t.lo ≤ℤ t.hi) (t_narrow : width t ≤ℤ pos 2000) (t_height : t.hi ≤ℤ (pos 2 *ℤ unit P))
    (g_low : pos 0 ≤ℤ g.lo) (g_ordered : g.lo ≤ℤ g.hi) (g_narrow : width g ≤ℤ pos 16001) (g_height : g.hi ≤ℤ unit P) where
  product_narrow : width (mul_ends P e t) ≤ℤ pos 2333
  product_narrow =
      let u = unit P in
      let p = unit_positive P in
      let em = magnitude_is_high e e_low e_ordered in
      let tm = magnitude_is_high t t_low t_ordered in
      let first = mul_both (pos (magnitude e)) e.hi (width t) (pos 2000) (omega (arith, ints)) em (omega (arith, ints)) t_narrow in
      let second = mul_both (pos (magnitude t)) (pos 2 *ℤ u) (width e) (pos 32) (omega (arith, ints)) (omega (arith, ints)) (omega (arith, ints)) e_narrow in
      let wide = mul_width P e t e_ordered t_ordered in
      let below = mul_cancel_strict (width (mul_ends P e t)) (pos 2334) u p (omega (arith, ints, first, second, wide)) in
      omega (arith, ints, below)

  square_narrow : width (square_ends P g) ≤ℤ pos 32003
  square_narrow =
      let u = unit P in
      let p = unit_positive P in
      let gm = magnitude_is_high g g_low g_ordered in
      let only = mul_both (pos (magnitude g)) u (width g) (pos 16001) (omega (arith, ints)) (omega (arith, ints)) (omega (arith, ints)) g_narrow in
      let wide = square_width P g g_ordered in
      let below = mul_cancel_strict (width (square_ends P g)) (pos 32004) u p (omega (arith, ints, only, wide)) in
      omega (arith, ints, below)

  pub variance_narrow : width (variance_ends P e t g) ≤ℤ pos 37000
  variance_narrow =
      let product : Ends = mul_ends P e t in
      let twice : Ends = scale_ends product (pos 2) in
      omega (arith, ints, product_narrow, square_narrow, scale_width product (pos 2), sub_width twice (square_ends P g))

-- ---- the square of the index

-- a variance taken for a year, over 30 days
pub single_narrow : (w : Ends) → width w ≤ℤ pos 37000 → width (single_ends w) ≤ℤ pos 5788000
single_narrow w narrow =
    let year : Ends = scale_ends w (pos 525600) in
    let p : pos 0 <ℤ pos 43200 = omega (arith, ints) in
    let quotient = over_width year (pos 43200) p in
    let below = mul_cancel_strict (width (single_ends w)) (pos 450169) (pos 43200) p (omega (arith, ints, narrow, quotient, scale_width w (pos 525600))) in
    omega (arith, ints, below)

module _ (w1 w2 : Ends) (n1 n2 target : ℕ) (rising : n1 < n2) (ahead : 10080 ≤ target)
    (weights : nat_abs (pos n2 -ℤ pos target) + nat_abs (pos target -ℤ pos n1) ≤ 3 * (n2 - n1))
    (near_narrow : width w1 ≤ℤ pos 37000) (next_narrow : width w2 ≤ℤ pos 37000) where
  abbrev a : ℤ
  a = pos n2 -ℤ pos target

  abbrev b : ℤ
  b = pos target -ℤ pos n1

  abbrev mixed : Ends
  mixed = add_ends (scale_ends w1 a) (scale_ends w2 b)

  -- both weights, in absolute value, are at most three times the distance
  mixed_narrow : width mixed ≤ℤ (pos 111000 *ℤ pos (n2 - n1))
  mixed_narrow =
      let first = mul_mono_left (width w1) (pos 37000) (pos (nat_abs a)) (omega (arith, ints)) near_narrow in
      let second = mul_mono_left (width w2) (pos 37000) (pos (nat_abs b)) (omega (arith, ints)) next_narrow in
      omega (arith, ints, first, second, weights, add_width (scale_ends w1 a) (scale_ends w2 b), scale_width w1 a, scale_width w2 b)

  pub interpolated_narrow : width (interpolated_ends target w1 n1 w2 n2) ≤ℤ pos 5788000
  interpolated_narrow =
      let distance : ℤ = pos (n2 - n1) in
      let den : ℤ = pos (target * (n2 - n1)) in
      let year : Ends = scale_ends mixed (pos 525600) in
      let d : pos 0 <ℤ distance = omega (arith, ints) in
      let p : pos 0 <ℤ den = mul_positive (pos target) distance (omega (arith, ints)) d in
      let quotient = over_width year den p in
      let few = mul_mono (pos 58341600000) (pos (5787859 * target)) distance (omega (arith, ints)) (omega (arith, ints)) in
      let same : pos (5787859 * target) *ℤ distance ≡ pos 5787859 *ℤ den = mul_assoc (pos 5787859) (pos target) distance in
      let below = mul_cancel_strict (width (over_ends year den)) (pos 5787861) den p (omega (arith, ints, few, same, quotient, mixed_narrow, scale_width mixed (pos 525600))) in
      omega (arith, ints, below)
