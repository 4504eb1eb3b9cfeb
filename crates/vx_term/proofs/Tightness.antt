-- How tight the bounded arithmetic's answers are.
use Rattle.std.proofs.Common.{◌≡◌, ◌∙◌, ℕ, zero, suc, ◌*◌, ◌^◌, ◌<◌, ◌≤◌, ◌⊎◌, ℤ, pos, ◌+ℤ◌, ◌-ℤ◌, ◌*ℤ◌, nat_abs, ◌≤ℤ◌, List, sym, ap, subst, inl, inr, refl, arith}
use Rattle.std.specs.Int.{div_ceil}
use Rattle.std.proofs.lemmas.Int.{ints}
use Rattle.vx_num.proofs.Whole.{mul_nonneg, mul_sub}
use Rattle.vx_symbol.specs.declared.rows.StrikeRow.{StrikeRow}
use Rattle.vx_symbol.specs.Rows.{AreLawfulRows}
use Rattle.vx_interval.specs.Ends.{Ends, unit, width, exact_ends, sub_ends}
use Rattle.vx_interval.proofs.EndsLemmas.{same_ends}
use Rattle.vx_bounds.specs.Exponential.{low_term, high_term, low_sum_to, high_sum_to, low_end, high_end, exp_ends, signed_ends}
use Rattle.vx_bounds.proofs.TermLemmas.{ceil_below}
use Rattle.vx_formula.specs.declared.limits.TheConstants.{FORWARD_WIDTH_MAX}
use Rattle.vx_formula.specs.Pair.{Pair, IsClosestPair}
use Rattle.vx_formula.specs.Level.{StrikesRise}
use Rattle.vx_formula.proofs.PairLemmas.{closest_pair_is_one}
use Rattle.vx_forward.specs.Pairs.{formula_pair}
use Rattle.vx_forward.specs.Forward.{forward_interval, printed_forward}
use Rattle.vx_formula.specs.StrikesByEnds.{IsLowestBetween}
use Rattle.vx_forward.specs.declared.level.K0Answer.TheVariants as level
use Rattle.vx_forward.proofs.ForwardLemmas.{forward_width}
use Rattle.vx_forward.proofs.Widths.{ends_are_near, ends_are_equal}
use Rattle.vx_strip.specs.Entries.{entries_of}
use Rattle.vx_sum.specs.Sums.{total_ends}
use Rattle.vx_sum.proofs.RowByRow.{totals_ordered}
use Rattle.vx_sum.proofs.Enclosure.{total_narrow}
use Rattle.vx_term.specs.declared.answer.TermRun.{TermRun}
use Rattle.vx_term.specs.Ranges.{IsVarianceNarrow}
use Rattle.vx_term.specs.Runs.{SaysOfLevel, IsRunOfRows}
use Rattle.vx_term.specs.Steps.{IsUpTo, IsExponentialInRange}
use Rattle.vx_term.specs.Variance.{excess_ends, variance_ends}
use Rattle.vx_term.specs.Tight.{IsExponentialTight}
use Rattle.vx_term.proofs.Holding.{run_strip_in_range, level_least}
use Rattle.vx_term.proofs.Ordered.{over_ordered, sub_ordered}
use Rattle.vx_term.proofs.ToldLevels.{IsLevelOfForward, placed_is_level, total_up_to, pair_in_range}
use Rattle.vx_term.proofs.Variances.{excess_range}
use Rattle.vx_term.proofs.Widths.{excess_narrow, variance_narrow}

-- ---- a run's variance is narrow

forward_ordered : (P : ℕ) (pair : Pair) (e : Ends) → e.lo ≤ℤ e.hi → (forward_interval P pair e).lo ≤ℤ (forward_interval P pair e).hi
forward_ordered P pair e ordered =
    let nonneg : pos 0 ≤ℤ width e = omega (arith, ints) in
    let spread : pos 0 ≤ℤ (pos (5 * nat_abs pair.d) *ℤ width e) = mul_nonneg (pos (5 * nat_abs pair.d)) (width e) (omega (arith, ints)) nonneg in
    omega (arith, ints, spread, forward_width P pair e)

module _ (P : ℕ) (rows : List StrikeRow) (e : Ends) (run : TermRun P) (lawful : AreLawfulRows rows) (h : IsRunOfRows P rows e run)
    (in_range : IsExponentialInRange P e) (ordered : e.lo ≤ℤ e.hi) (tight : IsExponentialTight P e) where
  abbrev pair : Pair
  pair = formula_pair run.pair

  level_of_forward : IsLevelOfForward P run.k0 run.f
  level_of_forward = subst (λ (k : ℕ). IsLevelOfForward P k run.f) (sym h.level_is) (placed_is_level P rows run.f h.place lawful h.tells)

  run_forward_ordered : (run.f).lo ≤ℤ (run.f).hi
  run_forward_ordered = subst (λ (f : Ends). f.lo ≤ℤ f.hi) (sym h.forward_is) (forward_ordered P pair e ordered)

  abbrev excess : Ends
  excess = excess_ends P run.k0 run.f

  excess_up_to : IsUpTo (unit P) excess
  excess_up_to =
      let l = level_of_forward in
      excess_range P run.k0 run.f l.at_least run_forward_ordered l.at_most_twice (omega (arith, level_least P rows e run lawful h))

  excess_ordered : excess.lo ≤ℤ excess.hi
  excess_ordered =
      let level : Ends = exact_ends P (pos run.k0) in
      over_ordered (sub_ends run.f level) run.k0 (sub_ordered run.f level run_forward_ordered (omega (arith, ints)))

  excess_is_narrow : width excess ≤ℤ pos 16001
  excess_is_narrow =
      let known = pair_in_range rows pair lawful h.pair_is in
      subst (λ (f : Ends). width (excess_ends P run.k0 f) ≤ℤ pos 16001) (sym h.forward_is)
      (excess_narrow P run.k0 pair e (level_least P rows e run lawful h) known.difference ordered tight.narrow)

  abbrev total : Ends
  total = total_ends P (entries_of run.strip)

  total_ordered : total.lo ≤ℤ total.hi
  total_ordered =
      let strip = run_strip_in_range P rows e run lawful h in
      omega (arith, ints, totals_ordered P run.strip.rows strip.each)

  total_is_narrow : width total ≤ℤ pos 2000
  total_is_narrow =
      let strip = run_strip_in_range P rows e run lawful h in
      let count = strip.count in
      omega (arith, ints, count, total_narrow P run.strip.rows strip.each)

  total_is_up_to : IsUpTo (pos 2 *ℤ unit P) total
  total_is_up_to =
      let s = h.sum_is in
      subst (IsUpTo (pos 2 *ℤ unit P)) s.total (total_up_to P (entries_of run.strip) run.sum s)

  pub run_is_narrow : IsVarianceNarrow run.w
  run_is_narrow =
      let s = h.sum_is in
      let g = excess_up_to in
      let t = total_is_up_to in
      let narrow : width (variance_ends P e total excess) ≤ℤ pos 37000 =
      variance_narrow P e total excess in_range.low ordered tight.narrow tight.height t.low total_ordered total_is_narrow t.high g.low excess_ordered excess_is_narrow g.high in
      let at_total = subst (λ (x : Ends). width (variance_ends P e x excess) ≤ℤ pos 37000) (sym s.total) narrow in
      let at_excess = subst (λ (x : Ends). width (variance_ends P e run.sum.total x) ≤ℤ pos 37000) (sym h.excess_is) at_total in
      subst (λ (x : Ends). width x ≤ℤ pos 37000) (sym h.variance_is) at_excess

-- ---- the ends of an undecided forward

pub undecided_is_near : (P : ℕ) (rows : List StrikeRow) (e : Ends) (strike : ℕ) (lo hi : ℤ) → AreLawfulRows rows → e.lo ≤ℤ e.hi → IsExponentialTight P e
    → SaysOfLevel P rows e (level.Straddle strike lo hi) → 60 ≤ P → hi ≤ℤ (lo +ℤ pos FORWARD_WIDTH_MAX)
undecided_is_near P rows e strike lo hi lawful ordered tight (f, has, (lowest, low, high)) scale =
    let known = pair_in_range rows has.pair lawful has.is_closest in
    let near = ends_are_near P has.pair e scale known.difference ordered tight.narrow in
    rw (low, high, has.forward_is) near

-- they are not equal, so a forward with one value is not undecided
pub undecided_has_two : (P : ℕ) (rows : List StrikeRow) (e : Ends) (strike : ℕ) (lo hi : ℤ) → StrikesRise rows → SaysOfLevel P rows e (level.Straddle strike lo hi)
    → (pair : Pair) → IsClosestPair rows pair → (pair.d ≡ pos 0) ⊎ (e ≡ exact_ends P (pos 1)) → ⊥
undecided_has_two P rows e strike lo hi rise (f, has, (lowest, low, high)) pair closest one =
    let pairs : has.pair ≡ pair = closest_pair_is_one rows has.pair pair rise has.is_closest closest in
    let forwards : f ≡ forward_interval P pair e = has.forward_is ∙ ap (λ (p : Pair). forward_interval P p e) pairs in
    let equal = ends_are_equal P pair e (two_ends one) in
    let lows : lo ≡ (printed_forward P (forward_interval P pair e)).0 = low ∙ ap (λ (g : Ends). (printed_forward P g).0) forwards in
    let highs : hi ≡ (printed_forward P (forward_interval P pair e)).1 = high ∙ ap (λ (g : Ends). (printed_forward P g).1) forwards in
    let same : lo ≡ hi = lows ∙ equal ∙ sym highs in
    let s = (subst (λ (z : ℤ). IsLowestBetween rows z (printed_forward P f).1 strike) (sym low) lowest).straddles in
    let above = s.above in
    let most = s.at_most in
    omega (arith, ints, above, most, same, high)
  where
    two_ends : (pair.d ≡ pos 0) ⊎ (e ≡ exact_ends P (pos 1)) → (pair.d ≡ pos 0) ⊎ ((e.lo ≡ unit P) × (e.hi ≡ unit P))
    two_ends (inl none) = inl none
    two_ends (inr is) = inr (ap (λ (x : Ends). x.lo) is ∙ omega (arith, ints), ap (λ (x : Ends). x.hi) is ∙ omega (arith, ints))

times_none : (k z : ℤ) → k *ℤ (z -ℤ z) ≡ pos 0
times_none k z = mul_sub k z z ∙ omega (arith, ints)

-- where the forward has one value, its ends are equal
pub equal_forward : (P : ℕ) (pair : Pair) (e : Ends) → (pair.d ≡ pos 0) ⊎ (e ≡ exact_ends P (pos 1)) → (forward_interval P pair e).lo ≡ (forward_interval P pair e).hi
equal_forward P pair e one = omega (arith, ints, forward_width P pair e, no_width one)
  where
    no_width : (pair.d ≡ pos 0) ⊎ (e ≡ exact_ends P (pos 1)) → pos (5 * nat_abs pair.d) *ℤ width e ≡ pos 0
    no_width (inl none) = ap (λ (d : ℤ). pos (5 * nat_abs d) *ℤ width e) none ∙ omega (arith, ints)
    no_width (inr is) = ap (λ (x : Ends). pos (5 * nat_abs pair.d) *ℤ width x) is ∙ times_none (pos (5 * nat_abs pair.d)) (pos 1 *ℤ unit P)

-- ---- at exponent 0 the exponential is exactly 1

low_vanishes : (u q k : ℕ) → low_term u 0 q (suc k) ≡ 0
unfolding low_term
low_vanishes u q k = omega arith

none_below : (n y : ℕ) → n * y < y → n ≡ 0
none_below zero y less = refl
none_below (suc n) y less = absurd (omega (arith, less))

high_vanishes : (u q k : ℕ) → 0 < q → high_term u 0 q (suc k) ≡ 0
unfolding high_term
high_vanishes u q k p =
    let positive : 0 < q * suc k = omega (arith, p) in
    none_below (div_ceil (high_term u 0 q k * 0) (q * suc k)) (q * suc k) (omega (arith, ceil_below (high_term u 0 q k * 0) (q * suc k) positive))

low_stays : (u q n : ℕ) → low_sum_to u 0 q n ≡ u
unfolding low_sum_to low_term
low_stays u q zero = refl
low_stays u q (suc n) = omega (arith, low_stays u q n, low_vanishes u q n)

high_stays : (u q n : ℕ) → 0 < q → high_sum_to u 0 q n ≡ u
unfolding high_sum_to high_term
high_stays u q zero p = refl
high_stays u q (suc n) p = omega (arith, high_stays u q n p, high_vanishes u q n p)

pub exponential_is_one : (P q : ℕ) → 0 < q → signed_ends P (pos 0) q ≡ exact_ends P (pos 1)
unfolding low_end high_end unit
exponential_is_one P q p =
    same_ends (exp_ends P 0 q) (exact_ends P (pos 1))
    (omega (arith, ints, low_stays (2 ^ P) q 12)) (omega (arith, ints, high_stays (2 ^ P) q 12 p, high_vanishes (2 ^ P) q 12 p))
