-- What a certificate states of a run over lawful facts meets each test of one term.
use Rattle.std.proofs.Common.{◌≡◌, ◌∙◌, sym, ap, subst, refl, ℕ, suc, ◌*◌, ◌^◌, ◌<◌, ◌≤◌, ℤ, pos, negsuc, nat_abs, ◌*ℤ◌, ◌≤ℤ◌, ◌<ℤ◌, List, [], ◌∷◌, map, Option, Some, inl, inr, mul-pos, arith}
use Rattle.std.specs.Option.{IfSome}
use Rattle.std.specs.List.{All}
use Rattle.std.proofs.lemmas.Int.{ints, unsigned_abs-mul}
use Rattle.std.proofs.Math.Nat.{mul-le-mul_right}
use Rattle.std.proofs.lemmas.List.Sums.{sum_by-cons}
use Rattle.vx_clock.specs.declared.terms.Expiry.{Expiry}
use Rattle.vx_symbol.specs.declared.rows.StrikeRow.{StrikeRow}
use Rattle.vx_symbol.specs.Rows.{IsLawfulRow, IsRateInRange}
use Rattle.vx_symbol.specs.Symbol.{IsStrikeInRange}
use Rattle.vx_interval.specs.Ends.{Ends, IsScale, unit}
use Rattle.vx_bounds.specs.Exponential.{IsTightValue}
use Rattle.vx_bounds.proofs.Signed.{signed_is_good}
use Rattle.vx_formula.specs.declared.limits.TheConstants.{STRIP_TOTAL_MAX, YEAR_MINUTES, RATE_UNITS}
use Rattle.vx_formula.specs.Term.{TermFacts, Term}
use Rattle.vx_formula.specs.Level.{strikes, IsListed}
use Rattle.vx_formula.specs.Strip.{StripEntry, strip, upper_end, upper_total}
use Rattle.vx_formula.proofs.Lists.{In, in_from_contains, in_map, all_in}
use Rattle.vx_formula.proofs.RangeLemmas.{exponent_is_small}
use Rattle.vx_forward.specs.Pairs.{formula_pair}
use Rattle.vx_forward.proofs.ForwardLemmas.{forward_in_range}
use Rattle.vx_strip.specs.Entries.{entries_of}
use Rattle.vx_sum.specs.Sums.{lower_end, lower_total, total_ends}
use Rattle.vx_cert.specs.declared.rows.CertRow.{CertRow}
use Rattle.vx_claims.specs.Exponential.{AreTaylorTerms, EncloseExponential}
use Rattle.vx_claims.specs.declared.acceptance.Test.{Test}
use Rattle.vx_claims.specs.declared.acceptance.Test.TheVariants.{Place, Terms, Minutes, Rate, TaylorTerms, Exponential, ClosestPair, Forward, Level, Excess, Strip, Contributions, Total, Variance, Square, IndexEnds}
use Rattle.vx_claims.specs.TermTests.{TermMeets, EnclosesForward, IsLevelOfEnds, HasStrikeAbove, EnclosesExcess, IsStatedStrip, EnclosesContribution, EnclosesTotal, EnclosesVariance}
use Rattle.vx_term.specs.declared.answer.TermRun.{TermRun}
use Rattle.vx_term.specs.Answer.{IsRun}
use Rattle.vx_term.specs.Ranges.{AreFactsLawful}
use Rattle.vx_term.specs.Steps.{IsUpTo, IsExponentialInRange}
use Rattle.vx_term.specs.Variance.{excess_ends}
use Rattle.vx_term.proofs.Ordered.{variance_is_ordered}
use Rattle.vx_term.proofs.ToldLevels.{IsPairInRange, pair_in_range, total_up_to}
use Rattle.vx_term.proofs.Variances.{excess_range, variance_low, variance_high}
use Rattle.vx_certify.specs.Certified.{certified_ends, certified_pair, certified_rows, certified_term}
use Rattle.vx_accepted.specs.Certified.{CertifiedTermIsTrue}
use Rattle.vx_accepted.proofs.Exponentials.{terms_are_taylor, exponential_is_enclosed}
use Rattle.vx_accepted.proofs.Forwards.{forward_is_enclosed, level_is_of_ends, excess_is_enclosed}
use Rattle.vx_accepted.proofs.Strips.{certified_entry, certified_is, strip_is_stated, contributions_are_enclosed, total_is_enclosed, entry_strike, rounded_in_order}
use Rattle.vx_accepted.proofs.Variances.{variance_is_enclosed}

-- ---- an exponent and its rate

-- the exponent has the rate's sign, and its size is the rate's times the minutes
rate_not_negative : (rate : ℤ) (minutes : ℕ) → 1 ≤ minutes → pos 0 ≤ℤ (rate *ℤ pos minutes) → pos 0 ≤ℤ rate
rate_not_negative (pos n) minutes some h = omega (arith, ints)
rate_not_negative (negsuc n) minutes some h = let more : 0 < suc n * minutes = mul-pos (omega arith) (omega arith) in absurd (omega (arith, ints, more, h))

rate_negative : (rate : ℤ) (minutes : ℕ) → (rate *ℤ pos minutes) <ℤ pos 0 → rate <ℤ pos 0
rate_negative (pos n) minutes h = absurd (omega (arith, ints, h))
rate_negative (negsuc n) minutes h = omega (arith, ints)

size_is : (rate : ℤ) (minutes : ℕ) → nat_abs (rate *ℤ pos minutes) ≡ nat_abs rate * minutes
size_is rate minutes = unsigned_abs-mul rate (pos minutes)

-- a rate that stands is in range where each that stands is
some_rate_in_range : (o : Option ℤ) (rate : ℤ) → o ≡ Some rate → IfSome o IsRateInRange → IsRateInRange rate
some_rate_in_range o rate is h = let P : Option ℤ → Type 0 = λ x. IfSome x IsRateInRange in subst P is h

-- ---- sums

totals_in_order : (P : ℕ) (entries : List StripEntry) → ((entry : StripEntry) → In entries entry → 1 ≤ entry.strike) → lower_total P entries ≤ upper_total P entries
totals_in_order P [] some = omega arith
totals_in_order P (entry ∷ entries) some =
    let low = sum_by-cons (lower_end P) entry entries in
    let high = sum_by-cons (upper_end P) entry entries in
    let square : 0 < entry.strike * entry.strike = let one = some entry (inl refl) in mul-pos (omega (arith, one)) (omega (arith, one)) in
    let here : lower_end P entry ≤ upper_end P entry = rounded_in_order (5 * (entry.d * entry.q4) * 2 ^ P) (4 * (entry.strike * entry.strike)) (omega (arith, square)) in
    let rest = totals_in_order P entries (λ other at. some other (inr at)) in
    omega (arith, low, high, here, rest)

-- ---- a run over lawful facts

module _ (P : ℕ) (x : Expiry) (facts : TermFacts) (run : TermRun P) (scale : IsScale P) (lawful : AreFactsLawful facts) (is : IsRun P x facts run) where
  minutes_some : 1 ≤ run.minutes
  minutes_some = let least = (lawful.minutes).0 in let same = is.minutes_are in omega (arith, least, same)

  small : 8 * nat_abs (run.rate *ℤ pos run.minutes) ≤ YEAR_MINUTES * RATE_UNITS
  small =
      let term : Term = record { rows = facts.rows; rate = run.rate; minutes = run.minutes; pair = formula_pair run.pair } in
      let most = (lawful.minutes).1 in
      let same = is.minutes_are in
      (exponent_is_small term (some_rate_in_range facts.rate run.rate is.rate_stands lawful.rate) (omega (arith, most, same))).0

  -- the exponential
  taylor : AreTaylorTerms P (nat_abs run.rate * run.minutes) (YEAR_MINUTES * RATE_UNITS) run.exp.t_lo run.exp.t_hi
  taylor =
      subst (λ (p : ℕ). AreTaylorTerms P p (YEAR_MINUTES * RATE_UNITS) run.exp.t_lo run.exp.t_hi) (size_is run.rate run.minutes)
      (terms_are_taylor P (nat_abs (run.rate *ℤ pos run.minutes)) (YEAR_MINUTES * RATE_UNITS) run.exp.t_lo run.exp.t_hi (omega arith) (is.exp_is).low_terms (is.exp_is).high_terms)

  exponential : EncloseExponential P run.rate run.exp.t_lo run.exp.t_hi (certified_ends run.exp.value)
  exponential =
      subst (λ (e : Ends). EncloseExponential P run.rate run.exp.t_lo run.exp.t_hi (certified_ends e)) (sym (is.exp_is).value)
      (exponential_is_enclosed P (run.rate *ℤ pos run.minutes) (YEAR_MINUTES * RATE_UNITS) run.rate run.exp.t_lo run.exp.t_hi scale (omega arith) small
      (rate_not_negative run.rate run.minutes minutes_some) (rate_negative run.rate run.minutes) (is.exp_is).low_terms (is.exp_is).high_terms)

  good : IsTightValue P 27 run.exp.value
  good =
      subst (λ (e : Ends). IsTightValue P 27 e) (sym (is.exp_is).value)
      (signed_is_good P (run.rate *ℤ pos run.minutes) (YEAR_MINUTES * RATE_UNITS) scale (omega arith) small)

  -- the forward
  pair_range : IsPairInRange (formula_pair run.pair)
  pair_range = pair_in_range facts.rows (formula_pair run.pair) lawful.rows (is.numbers_are).pair_is

  forward : EnclosesForward P (certified_pair run.pair) (certified_ends run.exp.value) (certified_ends run.f)
  forward =
      let strike = (pair_range.strike).1 in
      let difference = pair_range.difference in
      let ordered = (good.interval).ordered in
      subst (λ (f : Ends). EnclosesForward P (certified_pair run.pair) (certified_ends run.exp.value) (certified_ends f)) (sym (is.numbers_are).forward_is)
      (forward_is_enclosed P (formula_pair run.pair) run.exp.value ordered
      (forward_in_range P (formula_pair run.pair) run.exp.value (omega (arith, strike)) (omega (arith, difference)) good.nonneg ordered good.quarter))

  forward_ordered : run.f.lo ≤ℤ run.f.hi
  forward_ordered = let low = forward.low_at_low in let high = forward.high_at_low in omega (arith, ints, low, high)

  -- the level
  level : IsLevelOfEnds P facts.rows (certified_ends run.f) run.k0 × HasStrikeAbove facts.rows run.k0
  level = level_is_of_ends P facts.rows run.f (is.numbers_are).place run.k0 (is.numbers_are).tells (is.numbers_are).level_is

  listed_in_range : (k : ℕ) → IsListed facts.rows k → IsStrikeInRange k
  listed_in_range k listed =
      let found = in_map (λ (r : StrikeRow). r.strike) facts.rows k (in_from_contains (strikes facts.rows) k listed) in
      let row = all_in IsLawfulRow facts.rows found.0 (lawful.rows).each found.1 in
      subst IsStrikeInRange found.2 (row.strike_min, row.strike_max)

  level_range : IsStrikeInRange run.k0
  level_range = listed_in_range run.k0 (level.0).is_listed

  at_most_twice : run.f.hi ≤ℤ (pos (2 * run.k0) *ℤ unit P)
  unfolding unit
  at_most_twice =
      let above = level.1 in
      let past = (level.0).others_above above.0 above.1 above.2 in
      let within : above.0 * 2 ^ P ≤ 2 * run.k0 * 2 ^ P = mul-le-mul_right (2 ^ P) above.3 in
      omega (arith, ints, past, within)

  at_least : (pos run.k0 *ℤ unit P) ≤ℤ run.f.lo
  unfolding unit
  at_least = let below = (level.0).at_most in omega (arith, ints, below)

  -- the excess
  excess_up : IsUpTo (unit P) (excess_ends P run.k0 run.f)
  excess_up = let low = level_range.0 in excess_range P run.k0 run.f at_least forward_ordered at_most_twice (omega (arith, low))

  excess : EnclosesExcess P (certified_ends run.f) run.k0 (certified_ends run.g)
  excess =
      let low = level_range.0 in
      subst (λ (g : Ends). EnclosesExcess P (certified_ends run.f) run.k0 (certified_ends g)) (sym (is.numbers_are).excess_is)
      (excess_is_enclosed P run.k0 run.f (omega (arith, low)) forward_ordered excess_up)

  -- the strip
  rows_are : certified_rows run.strip.rows run.sum.rows ≡ map (certified_entry P) (strip facts.rows run.k0)
  rows_are = certified_is P run.strip.rows run.sum.rows (strip facts.rows run.k0) (is.numbers_are).strip_is ((is.numbers_are).sum_is).rows

  accepted : upper_total P (strip facts.rows run.k0) ≤ STRIP_TOTAL_MAX * 2 ^ P
  accepted = subst (λ (entries : List StripEntry). upper_total P entries ≤ STRIP_TOTAL_MAX * 2 ^ P) (is.numbers_are).strip_is ((is.numbers_are).sum_is).accepted

  stated : IsStatedStrip facts.rows run.k0 (certified_rows run.strip.rows run.sum.rows)
  stated = subst (IsStatedStrip facts.rows run.k0) (sym rows_are) (strip_is_stated P facts.rows run.k0 (level.0).is_listed (is.numbers_are).has_strip)

  contributions : All (EnclosesContribution P) (certified_rows run.strip.rows run.sum.rows)
  contributions = subst (All (EnclosesContribution P)) (sym rows_are) (contributions_are_enclosed P facts.rows run.k0 lawful.rows accepted)

  total_is : run.sum.total ≡ total_ends P (strip facts.rows run.k0)
  total_is = ((is.numbers_are).sum_is).total ∙ ap (total_ends P) (is.numbers_are).strip_is

  total : EnclosesTotal P (certified_rows run.strip.rows run.sum.rows) (certified_ends run.sum.total)
  total =
      subst (λ (stated_rows : List CertRow). EnclosesTotal P stated_rows (certified_ends run.sum.total)) (sym rows_are)
      (subst (λ (s : Ends). EnclosesTotal P (map (certified_entry P) (strip facts.rows run.k0)) (certified_ends s)) (sym total_is) (total_is_enclosed P (strip facts.rows run.k0) accepted))

  total_ordered : run.sum.total.lo ≤ℤ run.sum.total.hi
  total_ordered =
      let inside = totals_in_order P (strip facts.rows run.k0) (λ entry at. entry_strike facts.rows run.k0 entry lawful.rows at) in
      subst (λ (s : Ends). s.lo ≤ℤ s.hi) (sym total_is) (omega (arith, ints, inside))

  -- the variance
  variance : EnclosesVariance P (certified_ends run.exp.value) (certified_ends run.g) (certified_ends run.sum.total) (certified_ends run.w)
  variance =
      let e : Ends = run.exp.value in
      let s : Ends = run.sum.total in
      let g : Ends = run.g in
      let exponential_range : IsExponentialInRange P e = record { interval = good.interval; low = good.nonneg; high = good.quarter } in
      let total_range = total_up_to P (entries_of run.strip) run.sum (is.numbers_are).sum_is in
      let excess_range : IsUpTo (unit P) g = subst (IsUpTo (unit P)) (sym (is.numbers_are).excess_is) excess_up in
      subst (λ (w : Ends). EnclosesVariance P (certified_ends e) (certified_ends g) (certified_ends s) (certified_ends w)) (sym (is.numbers_are).variance_is)
      (variance_is_enclosed P e s g (variance_is_ordered P e s g)
      (variance_low P scale e s g exponential_range (good.interval).ordered total_range total_ordered excess_range excess.in_order)
      (variance_high P scale e s g exponential_range (good.interval).ordered total_range total_ordered excess_range excess.in_order))

  meets : (test : Test) → TermMeets P facts (certified_term run) test
  meets Place = tt
  meets Terms = tt
  meets Minutes = is.minutes_are
  meets Rate = is.rate_stands
  meets TaylorTerms = taylor
  meets Exponential = exponential
  meets ClosestPair = (is.numbers_are).pair_is
  meets Forward = forward
  meets Level = level
  meets Excess = excess
  meets Strip = stated
  meets Contributions = contributions
  meets Total = total
  meets Variance = variance
  meets Square = tt
  meets IndexEnds = tt

-- what a certificate states of a run over lawful facts meets every test of one term
pub certified_term_is_true : CertifiedTermIsTrue
certified_term_is_true P x facts run scale lawful is test = meets P x facts run scale lawful is test
