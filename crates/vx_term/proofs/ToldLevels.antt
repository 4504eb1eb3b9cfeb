-- From a told level to a term's answer.
use Rattle.std.proofs.Common.{◌≡◌, ◌∙◌, ℕ, ◌*◌, ◌^◌, ◌<◌, ◌≤◌, ℤ, pos, ◌-ℤ◌, ◌*ℤ◌, ◌≤ℤ◌, ◌<ℤ◌, nat_abs, List, Some, refl, sym, ap, ap₂, subst, arith, lit<, lt_of_le_of_lt, to_z, of_z, to_z-of_z}
use Rattle.std.specs.Prelude.{slice_get, length, Option, Result, Ok, Err, IfOk, IfSome, FitsSigned}
use Rattle.std.proofs.lemmas.Int.{ints, by_lt_z, fits_signed_from_abs}
use mir.Syntax.{w32}
use Rattle.std.proofs.lemmas.Option.{slice_get_within, get_or_from_slice_get}
use Rattle.vx_num.proofs.Whole.{mul_cancel_strict}
use Rattle.vx_symbol.specs.declared.rows.StrikeRow.{StrikeRow}
use Rattle.vx_symbol.specs.Rows.{IsLawfulRow, AreLawfulRows, IsRateInRange}
use Rattle.vx_symbol.specs.Symbol.{IsStrikeInRange}
use Rattle.vx_interval.specs.Ends.{Ends, IsScale, IsInterval, unit}
use Rattle.vx_interval.proofs.EndsLemmas.{unit_positive}
use Rattle.vx_formula.specs.Refusal.{HasNoneAbove}
use Rattle.vx_symbol.specs.declared.limits.TheConstants.{HALF_MAX}
use Rattle.vx_interval.proofs.Widths.{within}
use Rattle.vx_formula.specs.Pair.{Pair, pair_of, IsClosestPair, live_pairs}
use Rattle.vx_formula.proofs.Lists.{in_from_contains, all_in}
use Rattle.vx_formula.proofs.PairLemmas.{row_of_pair}
use Rattle.vx_forward.specs.Pairs.{formula_pair}
use Rattle.vx_forward.specs.Forward.{printed_forward}
use Rattle.vx_forward.specs.Level.{IsLevelRow}
use Rattle.vx_forward.specs.declared.level.K0Answer.TheVariants as level
use Rattle.vx_forward.proofs.Printed.{level_lies_below}
use Rattle.vx_strip.specs.Entries.{strike_at, entries_of, IsStripOf, IsStripInRange}
use Rattle.vx_formula.proofs.Walks.{no_row, strike_at_is}
use Rattle.vx_sum.specs.declared.sum.StripSum.{StripSum}
use Rattle.vx_sum.specs.Sums.{total_ends, IsSumOf, IsSumRefusal}
use Rattle.vx_sum.proofs.RowByRow.{totals_ordered}
use Rattle.vx_sum.proofs.Enclosure.{accepted_fits}
use Rattle.vx_formula.specs.Strip.{StripEntry}
use Rattle.vx_num.specs.Fraction.{Fraction}
use Rattle.vx_clock.specs.declared.terms.Expiry.{Expiry}
use Rattle.vx_bounds.specs.Exponential.{IsTerms, low_term, high_term, signed_ends}
use Rattle.vx_bounds.specs.declared.exponential.ExpRun.{ExpRun}
use Rattle.vx_formula.specs.Term.{TermFacts, exponent}
use Rattle.vx_term.specs.declared.answer.TermRefusal.{TermRefusal}
use Rattle.vx_term.specs.declared.answer.TermRefusal.TheVariants.{NoRate, NoPair, NoStrikeBelow, NoStrikeAbove, NoMoney, NoPut, NoCall, StripTooLarge}
use Rattle.vx_term.specs.declared.answer.TermAnswer.{TermAnswer}
use Rattle.vx_term.specs.declared.answer.TermAnswer.TheVariants.{Run, Refused, UndecidedForward}
use Rattle.vx_formula.specs.Strip.{upper_total}
use Rattle.vx_strip.specs.declared.fault.StripRefusal.{StripRefusal}
use Rattle.vx_strip.specs.declared.fault.StripRefusal.TheVariants as strip_refusal
use Rattle.vx_strip.specs.declared.strip.Strip.{Strip}
use Rattle.vx_strip.specs.Refusals.{IsStripRefusal, HasNoStripRefusal}
use Rattle.vx_sum.specs.declared.fault.SumRefusal.{SumRefusal}
use Rattle.vx_sum.specs.declared.fault.SumRefusal.TheVariants as sum_refusal
use Rattle.vx_term.proofs.Results.{same_ok}
use Rattle.vx_term.specs.declared.level.ToldLevel.{ToldLevel}
use Rattle.vx_term.specs.Runs.{HasForward, ForwardSays, SaysOfLevel, TellsLevel, RefusesRows, IsRunOfRows}
use Rattle.vx_term.specs.Answer.{AtStandingRate, IsAnswerOfRows, IsTermAnswer}
use Rattle.vx_term.specs.Exponential.{IsExpRun}
use Rattle.vx_term.specs.Steps.{IsUpTo, IsExponentialInRange, IsTold, IsAnswerWithoutLevel, refusal_of_strip, refusal_of_sum}

-- the strike of a row at a place is in range
row_strike_in_range : (rows : List StrikeRow) (place : ℕ) (row : StrikeRow) → AreLawfulRows rows → slice_get rows place ≡ Some row → IsStrikeInRange row.strike
row_strike_in_range rows place row lawful at =
    let one = subst IsLawfulRow (get_or_from_slice_get rows place row no_row at) (lawful.each place no_row (slice_get_within rows place row at)) in
    (one.strike_min, one.strike_max)

-- what the level is to the forward
pub record IsLevelOfForward (P k : ℕ) (f : Ends) : Type 0 where
  pub strike : IsStrikeInRange k
  pub at_least : (pos k *ℤ unit P) ≤ℤ f.lo
  pub at_most_twice : f.hi ≤ℤ (pos (2 * k) *ℤ unit P)

row_is_level : (P : ℕ) (rows : List StrikeRow) (f : Ends) (place : ℕ) → AreLawfulRows rows → (row : StrikeRow)
    → IsLevelRow rows (printed_forward P f).0 (printed_forward P f).1 place row → ¬ HasNoneAbove rows row.strike → IsLevelOfForward P row.strike f
row_is_level P rows f place lawful row h some =
    let below = level_lies_below P rows f place row h in
    let g = h.greatest in
    let p = unit_positive P in
    let none : (pos (2 * row.strike) *ℤ unit P) ≤ℤ f.hi → HasNoneAbove rows row.strike =
    λ most other listed above.
    let past = below.1 other listed above in
    let more : pos (2 * row.strike) <ℤ pos other = mul_cancel_strict (pos (2 * row.strike)) (pos other) (unit P) p (omega (arith, ints)) in
    omega (arith, ints) in
    record {
      strike = row_strike_in_range rows place row lawful g.is_at;
      at_least = below.0;
      at_most_twice = by_lt_z f.hi (pos (2 * row.strike) *ℤ unit P) (λ q. omega (arith, ints)) (λ most. absurd (some (none most)));
    }

-- the strike of a level's place
pub placed_is_level : (P : ℕ) (rows : List StrikeRow) (f : Ends) (place : ℕ) → AreLawfulRows rows → ForwardSays P rows f (level.At place) → IsLevelOfForward P (strike_at rows place) f
placed_is_level P rows f place lawful (row, is, one) =
    subst (λ (k : ℕ). IsLevelOfForward P k f) (sym (strike_at_is rows place row (is.greatest).is_at)) (row_is_level P rows f place lawful row is one)

-- an accepted sum is at most 2
pub total_up_to : (P : ℕ) (entries : List StripEntry) (s : StripSum P) → IsSumOf P entries s → IsUpTo (pos 2 *ℤ unit P) s.total
unfolding unit
total_up_to P entries s h =
    let e = h.total in
    let a = h.accepted in
    let lo = ap (λ (x : Ends). x.lo) e in
    let hi = ap (λ (x : Ends). x.hi) e in
    record { low = omega (arith, ints, lo); high = omega (arith, ints, hi, a) }

-- ---- the closest pair is one of the rows'

pub record IsPairInRange (p : Pair) : Type 0 where
  pub strike : IsStrikeInRange p.strike
  pub difference : nat_abs p.d ≤ HALF_MAX

difference_small : (a b : ℕ) → a ≤ 10000000 → b ≤ 10000000 → nat_abs (pos a -ℤ pos b) ≤ 10000000
difference_small a b h k = within (pos a -ℤ pos b) 10000000 (omega (arith, ints)) (omega (arith, ints))

pub pair_in_range : (rows : List StrikeRow) (p : Pair) → AreLawfulRows rows → IsClosestPair rows p → IsPairInRange p
pair_in_range rows p lawful h =
    let found = row_of_pair rows p (in_from_contains (live_pairs rows) p h.among) in
    let row = found.0 in
    let one = all_in IsLawfulRow rows row lawful.each found.1 in
    let put = one.put in
    let call = one.call in
    let at_row : IsPairInRange (pair_of row) = record { strike = (one.strike_min, one.strike_max); difference = difference_small row.call.half row.put.half call.in_range put.in_range } in
    subst IsPairInRange found.2 at_row

pub at_most_two : (P : ℕ) (e : Ends) → IsExponentialInRange P e → e.hi ≤ℤ (pos 2 *ℤ unit P)
at_most_two P e h = let p = unit_positive P in let a = h.high in omega (arith, ints)

-- the place of a level is a row's
pub level_place_within : (P : ℕ) (rows : List StrikeRow) (f : Ends) (place : ℕ) → ForwardSays P rows f (level.At place) → place < length rows
level_place_within P rows f place said = let row = said.0 in let is = said.1 in let g = is.greatest in slice_get_within rows place row g.is_at

-- ---- the answer of a term is that of its rows at the rate that stands

module _ (P : ℕ) (x : Expiry) (facts : TermFacts) (rate : ℤ) (exp : ExpRun P) (stands : facts.rate ≡ Some rate) (run : IsExpRun P (exponent rate facts.minutes) exp) where
  refused : (refusal : TermRefusal) → RefusesRows P facts.rows exp.value refusal → AtStandingRate P facts (λ e. RefusesRows P facts.rows e refusal)
  refused refusal h = (rate, stands, subst (λ (e : Ends). RefusesRows P facts.rows e refusal) run.value h)

  of_rows : (a : TermAnswer P) → IsAnswerOfRows P x facts.minutes rate exp facts.rows a → IsTermAnswer P x facts a
  of_rows (Run r) h =
      let rates = sym h.rate_is in
      let times = sym h.minutes_are in
      let exps = sym h.exp_is in
      let at_rate : IsExpRun P (exponent r.rate facts.minutes) exp = subst (λ (z : ℤ). IsExpRun P (exponent z facts.minutes) exp) rates run in
      let at_time : IsExpRun P (exponent r.rate r.minutes) exp = subst (λ (m : ℕ). IsExpRun P (exponent r.rate m) exp) times at_rate in
      record {
        expiry_is = h.expiry_is;
        minutes_are = h.minutes_are;
        rate_stands = stands ∙ ap (λ (z : ℤ). Some z) rates;
        exp_is = subst (λ (e : ExpRun P). IsExpRun P (exponent r.rate r.minutes) e) exps at_time;
        numbers_are = subst (λ (e : ExpRun P). IsRunOfRows P facts.rows e.value r) exps h.numbers_are;
      }
  of_rows (Refused NoRate) h = absurd h
  of_rows (Refused NoPair) h = refused NoPair h
  of_rows (Refused NoStrikeBelow) h = refused NoStrikeBelow h
  of_rows (Refused NoStrikeAbove) h = refused NoStrikeAbove h
  of_rows (Refused NoMoney) h = refused NoMoney h
  of_rows (Refused NoPut) h = refused NoPut h
  of_rows (Refused NoCall) h = refused NoCall h
  of_rows (Refused (StripTooLarge upper)) h = refused (StripTooLarge upper) h
  of_rows (UndecidedForward strike lo hi) h = (rate, stands, subst (λ (e : Ends). SaysOfLevel P facts.rows e (level.Straddle strike lo hi)) run.value h)

  pub term_from_rows : {E : Type 0} (result : Result (TermAnswer P) E) → IfOk result (IsAnswerOfRows P x facts.minutes rate exp facts.rows) → IfOk result (IsTermAnswer P x facts)
  term_from_rows (Ok a) h = of_rows a h
  term_from_rows (Err e) h = h

-- ---- the exponential's run, at an exponent that the code has under casts

pub exp_run_given : (P : ℕ) (p p' : ℤ) (q q' : ℕ) (run : ExpRun P) → p ≡ p' → q ≡ q' → IsTerms (low_term (2 ^ P) (nat_abs p) q) run.t_lo
    → IsTerms (high_term (2 ^ P) (nat_abs p) q) run.t_hi → run.value ≡ signed_ends P p q → IsExpRun P (record { top = p'; bottom = q' }) run
exp_run_given P p p' q q' run top bottom low high value =
    let fraction : ℤ → ℕ → Fraction = λ t b. record { top = t; bottom = b } in
    let at : IsExpRun P (fraction p q) run = record { low_terms = low; high_terms = high; value = value } in
    subst (λ (f : Fraction). IsExpRun P f run) (ap₂ fraction top bottom) at

-- a rate that stands fits the code's type
pub rate_given : (stood : Option ℤ) (rate : ℤ) → stood ≡ Some rate → IfSome stood IsRateInRange → to_z w32 (of_z w32 rate) ≡ rate
rate_given stood rate is h =
    let in_range : IsRateInRange rate = subst (λ (r : Option ℤ). IfSome r IsRateInRange) is h in
    let small : nat_abs rate ≤ 25000000 = within rate 25000000 (omega (arith, ints, in_range.1)) (omega (arith, ints, in_range.0)) in
    let fits : FitsSigned w32 rate = fits_signed_from_abs w32 rate (lt_of_le_of_lt small (lit< tt)) in
    to_z-of_z fits

-- ---- the answers of rows without a run

module _ (P : ℕ) (x : Expiry) (minutes : ℕ) (rate : ℤ) (exp : ExpRun P) (rows : List StrikeRow) where
  pub answer_without_level : (a : TermAnswer P) → IsAnswerWithoutLevel P rows exp.value a → IsAnswerOfRows P x minutes rate exp rows a
  answer_without_level (Run run) h = absurd h
  answer_without_level (Refused refusal) h = h
  answer_without_level (UndecidedForward strike lo hi) h = h

  -- a told level's strip is refused
  pub answer_without_strip : (k : ℕ) (reason : StripRefusal) (refusal : TermRefusal) → TellsLevel P rows exp.value k → IsStripRefusal rows k reason → refusal_of_strip reason ≡ Ok refusal
      → RefusesRows P rows exp.value refusal
  answer_without_strip k strip_refusal.NoMemory refusal tells h is = absurd cc
  answer_without_strip k strip_refusal.NoMoney refusal tells h is = subst (RefusesRows P rows exp.value) (same_ok (refusal_of_strip strip_refusal.NoMoney) NoMoney refusal refl is) (k, tells, h)
  answer_without_strip k strip_refusal.NoPut refusal tells h is = subst (RefusesRows P rows exp.value) (same_ok (refusal_of_strip strip_refusal.NoPut) NoPut refusal refl is) (k, tells, h)
  answer_without_strip k strip_refusal.NoCall refusal tells h is = subst (RefusesRows P rows exp.value) (same_ok (refusal_of_strip strip_refusal.NoCall) NoCall refusal refl is) (k, tells, h)

  -- and the sum of its strip
  pub answer_without_sum : (k : ℕ) (s : Strip) (reason : SumRefusal) (refusal : TermRefusal) → TellsLevel P rows exp.value k → HasNoStripRefusal rows k → IsStripOf rows k s
      → IsSumRefusal P (entries_of s) reason → refusal_of_sum reason ≡ Ok refusal → RefusesRows P rows exp.value refusal
  answer_without_sum k s sum_refusal.NoMemory refusal tells has strip_is h is = absurd cc
  answer_without_sum k s (sum_refusal.StripTooLarge upper) refusal tells has strip_is h is =
      let large : RefusesRows P rows exp.value (StripTooLarge upper) = record {
        k = k;
        tells = tells;
        has_strip = has;
        upper_is = h.upper_is ∙ ap (upper_total P) strip_is;
        too_large = h.too_large;
      } in
      subst (RefusesRows P rows exp.value) (same_ok (refusal_of_sum (sum_refusal.StripTooLarge upper)) (StripTooLarge upper) refusal refl is) large

-- a told level, as the rows tell it
pub told_tells : (P : ℕ) (rows : List StrikeRow) (e : Ends) (told : ToldLevel P) → IsTold P rows e told → TellsLevel P rows e (strike_at rows told.place)
told_tells P rows e told h =
    let has : HasForward P rows e told.f = record { pair = formula_pair told.pair; is_closest = h.pair_is; forward_is = h.forward_is } in
    (told.place, (told.f, has, h.tells), refl)

-- the level of a told one
pub told_is_level : (P : ℕ) (rows : List StrikeRow) (e : Ends) (told : ToldLevel P) (k : ℕ) → AreLawfulRows rows → IsTold P rows e told → k ≡ strike_at rows told.place → IsLevelOfForward P k told.f
told_is_level P rows e told k lawful h is = subst (λ (j : ℕ). IsLevelOfForward P j told.f) (sym is) (placed_is_level P rows told.f told.place lawful h.tells)

-- the sum of a strip is an interval
pub total_interval : (P : ℕ) (s : Strip) (sum : StripSum P) → IsScale P → IsStripInRange s → IsSumOf P (entries_of s) sum → IsInterval P sum.total
total_interval P s sum scale in_range h =
    let fits = accepted_fits P (entries_of s) scale.1 h.accepted in
    let ordered = totals_ordered P s.rows in_range.each in
    let interval : IsInterval P (total_ends P (entries_of s)) = record {
      scale = scale;
      ordered = omega (arith, ints, ordered);
      in_range = record { low = omega (arith, ints); high = omega (arith, ints, fits) };
    } in
    subst (IsInterval P) (sym h.total) interval

-- the answer of a term, where what is given has the term's minutes and the rate that stands
pub term_from_given : (P : ℕ) (x : Expiry) (facts : TermFacts) (standing : ℤ) (minutes : ℕ) (rate : ℤ) (exp : ExpRun P) {E : Type 0} (result : Result (TermAnswer P) E)
    → facts.rate ≡ Some standing → rate ≡ standing → minutes ≡ facts.minutes → IsExpRun P (exponent standing facts.minutes) exp
    → IfOk result (IsAnswerOfRows P x minutes rate exp facts.rows) → IfOk result (IsTermAnswer P x facts)
term_from_given P x facts standing minutes rate exp result stands rates times run h =
    let at_rate = subst (λ (z : ℤ). IfOk result (IsAnswerOfRows P x minutes z exp facts.rows)) rates h in
    let at_time = subst (λ (n : ℕ). IfOk result (IsAnswerOfRows P x n standing exp facts.rows)) times at_rate in
    term_from_rows P x facts standing exp stands run result at_time
