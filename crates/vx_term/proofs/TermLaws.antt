-- What the answers for one term mean, and how tight they are.
use Rattle.std.proofs.Common.{◌≡◌, ◌∙◌, ℕ, ◌*◌, ◌≤◌, ◌⊎◌, ℤ, pos, nat_abs, ◌≤ℤ◌, List, [], Option, Some, refl, sym, ap, subst, inl, inr, arith}
use Rattle.std.specs.Prelude.{IfSome}
use Rattle.std.proofs.lemmas.Int.{ints}
use Rattle.std.proofs.lemmas.Option.{same_Some}
use Rattle.vx_num.specs.Fraction.{Fraction}
use Rattle.vx_bracket.specs.Bracket.{Bracket, IsWithinOne}
use Rattle.vx_clock.specs.declared.terms.Expiry.{Expiry}
use Rattle.vx_symbol.specs.declared.rows.StrikeRow.{StrikeRow}
use Rattle.vx_symbol.specs.Rows.{AreLawfulRows, IsRateInRange}
use Rattle.vx_interval.specs.Ends.{Ends, IsScale, exact_ends}
use Rattle.vx_interval.specs.Membership.{IsMember}
use Rattle.vx_bounds.specs.Exponential.{signed_ends, IsTightValue}
use Rattle.vx_bounds.specs.declared.exponential.ExpRun.{ExpRun}
use Rattle.vx_bounds.proofs.Values.{signed_encloses}
use Rattle.vx_bounds.proofs.Signed.{signed_is_good}
use Rattle.vx_formula.specs.Pair.{Pair, IsClosestPair}
use Rattle.vx_formula.specs.Term.{TermFacts, Term, IsTermOf, exponent}
use Rattle.vx_formula.specs.Clear.{IsClearForward}
use Rattle.vx_formula.specs.Refusal.{FirstTermRefusal}
use Rattle.vx_formula.specs.Undecided.{UndecidedForward as IsUndecidedForward}
use Rattle.vx_formula.proofs.TermOutcomes.{term_of_facts_is_one}
use Rattle.vx_formula.proofs.RangeLemmas.{exponent_is_small}
use Rattle.vx_formula.proofs.FigureLemmas.{far_forward_is_decided}
use Rattle.vx_forward.specs.Pairs.{formula_pair}
use Rattle.vx_term.specs.declared.answer.TermRefusal.{TermRefusal}
use Rattle.vx_term.specs.declared.answer.TermRefusal.TheVariants.{NoRate, NoPair, NoStrikeBelow, NoStrikeAbove, NoMoney, NoPut, NoCall, StripTooLarge}
use Rattle.vx_term.specs.declared.answer.TermRun.{TermRun}
use Rattle.vx_term.specs.declared.answer.TermAnswer.{TermAnswer}
use Rattle.vx_term.specs.declared.answer.TermAnswer.TheVariants.{Run, Refused, UndecidedForward}
use Rattle.vx_term.specs.Runs.{RefusesRows, IsRunOfRows}
use Rattle.vx_term.specs.Answer.{exponential_ends, AtStandingRate, IsRun, IsTermAnswer, IsAnswerOfRows, OnRun}
use Rattle.vx_term.specs.Ranges.{AreFactsLawful}
use Rattle.vx_term.specs.Steps.{IsExponentialInRange}
use Rattle.vx_term.specs.Meaning.{exponential_depth, reason_of, UndecidedMeans, TermAnswerMeans}
use Rattle.vx_term.specs.Holds.{AnswerHolds}
use Rattle.vx_term.specs.Tight.{IsExponentialTight, IsTightAnswer, IsForwardDecided, HasOneForward, IsExactRun}
use Rattle.vx_term.proofs.Holding.{refusal_holds, undecided_holds, run_holds}
use Rattle.vx_term.proofs.Meanings.{no_rate_refuses, refusal_means, undecided_means, run_means}
use Rattle.vx_term.proofs.Tightness.{run_is_narrow, undecided_is_near, undecided_has_two, equal_forward, exponential_is_one}

-- ---- where an exponential is given

module _ (P : ℕ) (x : Expiry) (minutes : ℕ) (rate : ℤ) (exp : ExpRun P) (rows : List StrikeRow) (lawful : AreLawfulRows rows) where
  pub rows_answer_holds : (a : TermAnswer P) → IsAnswerOfRows P x minutes rate exp rows a → AnswerHolds P rows (IsMember P exp.value) a
  rows_answer_holds (Run run) h =
      run_holds P rows exp.value run lawful h.numbers_are
  rows_answer_holds (Refused refusal) h = refusal_holds P rows exp.value refusal h
  rows_answer_holds (UndecidedForward strike lo hi) h = undecided_holds P rows exp.value strike lo hi h

  -- over every bracket that it encloses
  abbrev given : TermFacts
  given = record { rows = rows; rate = Some rate; minutes = minutes }

  pub rows_answer_means : (depth : ℕ) → IsWithinOne (exponent rate minutes) → ((e : Fraction) → Bracket depth (exponent rate minutes) e → IsMember P exp.value e)
      → (a : TermAnswer P) → IsAnswerOfRows P x minutes rate exp rows a → TermAnswerMeans P depth given a
  rows_answer_means depth small covers (Run run) h =
      run_means P given rate depth (IsMember P exp.value) refl lawful.rising small covers run h.rate_is h.minutes_are (rows_answer_holds (Run run) h)
  rows_answer_means depth small covers (Refused refusal) h =
      refusal_means P given rate depth (IsMember P exp.value) refl lawful.rising small covers refusal (rows_answer_holds (Refused refusal) h)
  rows_answer_means depth small covers (UndecidedForward strike lo hi) h =
      undecided_means P given rate depth (IsMember P exp.value) refl lawful.rising small covers strike lo hi (rows_answer_holds (UndecidedForward strike lo hi) h)

  pub rows_answer_is_tight : IsExponentialInRange P exp.value → (exp.value).lo ≤ℤ (exp.value).hi → IsExponentialTight P exp.value
      → (a : TermAnswer P) → IsAnswerOfRows P x minutes rate exp rows a → IsTightAnswer P a
  rows_answer_is_tight in_range ordered tight (Run run) h =
      run_is_narrow P rows exp.value run lawful h.numbers_are in_range ordered tight
  rows_answer_is_tight in_range ordered tight (Refused refusal) h = tt
  rows_answer_is_tight in_range ordered tight (UndecidedForward strike lo hi) h = undecided_is_near P rows exp.value strike lo hi lawful ordered tight h

  pub rows_answer_is_decided : (pair : Pair) → IsClosestPair rows pair → (pair.d ≡ pos 0) ⊎ (exp.value ≡ exact_ends P (pos 1))
      → (a : TermAnswer P) → IsAnswerOfRows P x minutes rate exp rows a → IsForwardDecided P a
  rows_answer_is_decided pair closest one (Run run) h = tt
  rows_answer_is_decided pair closest one (Refused refusal) h = tt
  rows_answer_is_decided pair closest one (UndecidedForward strike lo hi) h = undecided_has_two P rows exp.value strike lo hi lawful.rising h pair closest one

-- ---- at exponent 0

pub exponential_at_zero : (P : ℕ) (rate : ℤ) (minutes : ℕ) → (exponent rate minutes).top ≡ pos 0 → exponential_ends P rate minutes ≡ exact_ends P (pos 1)
exponential_at_zero P rate minutes zero =
    ap (λ (p : ℤ). signed_ends P p (exponent rate minutes).bottom) zero ∙ exponential_is_one P (exponent rate minutes).bottom (omega arith)

-- ---- where the rate stands

module _ (P : ℕ) (x : Expiry) (facts : TermFacts) (lawful : AreFactsLawful facts) where
  rate_in_range : (rate : ℤ) → facts.rate ≡ Some rate → IsRateInRange rate
  rate_in_range rate stands = subst (λ (r : Option ℤ). IfSome r IsRateInRange) stands lawful.rate

  exponent_small : (rate : ℤ) → facts.rate ≡ Some rate → (8 * nat_abs (exponent rate facts.minutes).top ≤ (exponent rate facts.minutes).bottom) × IsWithinOne (exponent rate facts.minutes)
  exponent_small rate stands =
      let minutes = lawful.minutes in
      exponent_is_small (record { rows = []; rate = rate; minutes = facts.minutes; pair = record { strike = 0; d = pos 0 } }) (rate_in_range rate stands) minutes.1

  covers : (rate : ℤ) (e : Fraction) → Bracket 12 (exponent rate facts.minutes) e → IsMember P (exponential_ends P rate facts.minutes) e
  covers rate e m = signed_encloses P (exponent rate facts.minutes).top (exponent rate facts.minutes).bottom e (omega arith) m

  refused : (refusal : TermRefusal) → AtStandingRate P facts (λ e. RefusesRows P facts.rows e refusal) → FirstTermRefusal P facts (reason_of refusal)
  refused refusal (rate, stands, h) =
      refusal_means P facts rate 12 (IsMember P (exponential_ends P rate facts.minutes)) stands lawful.rows.rising (exponent_small rate stands).1 (covers rate) refusal
      (refusal_holds P facts.rows (exponential_ends P rate facts.minutes) refusal h)

  run_value : (run : TermRun P) → IsRun P x facts run → run.exp.value ≡ exponential_ends P run.rate facts.minutes
  run_value run h = (h.exp_is).value ∙ ap (λ (m : ℕ). exponential_ends P run.rate m) h.minutes_are

  run_at_rate : (run : TermRun P) → IsRun P x facts run → IsRunOfRows P facts.rows (exponential_ends P run.rate facts.minutes) run
  run_at_rate run h = subst (λ (e : Ends). IsRunOfRows P facts.rows e run) (run_value run h) h.numbers_are

  pub term_answer_means : (a : TermAnswer P) → IsTermAnswer P x facts a → TermAnswerMeans P exponential_depth facts a
  term_answer_means (Run run) h =
      run_means P facts run.rate 12 (IsMember P (exponential_ends P run.rate facts.minutes)) h.rate_stands lawful.rows.rising (exponent_small run.rate h.rate_stands).1 (covers run.rate) run refl h.minutes_are
      (run_holds P facts.rows (exponential_ends P run.rate facts.minutes) run lawful.rows (run_at_rate run h))
  term_answer_means (Refused NoRate) h = no_rate_refuses P facts h
  term_answer_means (Refused NoPair) h = refused NoPair h
  term_answer_means (Refused NoStrikeBelow) h = refused NoStrikeBelow h
  term_answer_means (Refused NoStrikeAbove) h = refused NoStrikeAbove h
  term_answer_means (Refused NoMoney) h = refused NoMoney h
  term_answer_means (Refused NoPut) h = refused NoPut h
  term_answer_means (Refused NoCall) h = refused NoCall h
  term_answer_means (Refused (StripTooLarge upper)) h = refused (StripTooLarge upper) h
  term_answer_means (UndecidedForward strike lo hi) (rate, stands, h) =
      undecided_means P facts rate 12 (IsMember P (exponential_ends P rate facts.minutes)) stands lawful.rows.rising (exponent_small rate stands).1 (covers rate) strike lo hi
      (undecided_holds P facts.rows (exponential_ends P rate facts.minutes) strike lo hi h)

  -- ---- at exponent 0, and at equal prices

  pub run_is_exact : (run : TermRun P) → IsRun P x facts run → IsExactRun P run
  run_is_exact run h =
      let n = h.numbers_are in
      let one : (exponent run.rate run.minutes).top ≡ pos 0 → run.exp.value ≡ exact_ends P (pos 1) =
      λ zero. (h.exp_is).value ∙ ap (λ (p : ℤ). signed_ends P p (exponent run.rate run.minutes).bottom) zero ∙ exponential_is_one P (exponent run.rate run.minutes).bottom (omega arith) in
      record {
        exponential = one;
        forward = λ only. ap (λ (f : Ends). f.lo) n.forward_is ∙ equal_forward P (formula_pair run.pair) run.exp.value (by_ends only one) ∙ sym (ap (λ (f : Ends). f.hi) n.forward_is);
      }
    where
      by_ends : ((exponent run.rate run.minutes).top ≡ pos 0) ⊎ (run.pair.d ≡ pos 0) → ((exponent run.rate run.minutes).top ≡ pos 0 → run.exp.value ≡ exact_ends P (pos 1))
          → (run.pair.d ≡ pos 0) ⊎ (run.exp.value ≡ exact_ends P (pos 1))
      by_ends (inl zero) one = inr (one zero)
      by_ends (inr none) one = inl none

  pub term_run_is_exact : (a : TermAnswer P) → IsTermAnswer P x facts a → OnRun P (IsExactRun P) a
  term_run_is_exact (Run run) h = run_is_exact run h
  term_run_is_exact (Refused refusal) h = tt
  term_run_is_exact (UndecidedForward strike lo hi) h = tt

  -- ---- widths

  module _ (scale : IsScale P) where
    value_good : (rate : ℤ) → facts.rate ≡ Some rate → IsTightValue P 27 (exponential_ends P rate facts.minutes)
    value_good rate stands = signed_is_good P (exponent rate facts.minutes).top (exponent rate facts.minutes).bottom scale (omega arith) (exponent_small rate stands).0

    value_in_range : (rate : ℤ) → facts.rate ≡ Some rate → IsExponentialInRange P (exponential_ends P rate facts.minutes)
    value_in_range rate stands = let good = value_good rate stands in record { interval = good.interval; low = good.nonneg; high = good.quarter }

    value_tight : (rate : ℤ) → facts.rate ≡ Some rate → IsExponentialTight P (exponential_ends P rate facts.minutes)
    value_tight rate stands =
        let good = value_good rate stands in
        let narrow = good.narrow in
        record { narrow = omega (arith, ints, narrow); height = good.height }

    value_ordered : (rate : ℤ) → facts.rate ≡ Some rate → (exponential_ends P rate facts.minutes).lo ≤ℤ (exponential_ends P rate facts.minutes).hi
    value_ordered rate stands = let good = value_good rate stands in (good.interval).ordered

    pub term_answer_is_tight : (a : TermAnswer P) → IsTermAnswer P x facts a → IsTightAnswer P a
    term_answer_is_tight (Run run) h =
        run_is_narrow P facts.rows (exponential_ends P run.rate facts.minutes) run lawful.rows (run_at_rate run h)
        (value_in_range run.rate h.rate_stands) (value_ordered run.rate h.rate_stands) (value_tight run.rate h.rate_stands)
    term_answer_is_tight (Refused refusal) h = tt
    term_answer_is_tight (UndecidedForward strike lo hi) (rate, stands, h) =
        undecided_is_near P facts.rows (exponential_ends P rate facts.minutes) strike lo hi lawful.rows (value_ordered rate stands) (value_tight rate stands) h

  -- ---- where the forward has one value, and where it is clear

  module _ (term : Term) (of : IsTermOf facts term) where
    closest : IsClosestPair facts.rows term.pair
    closest = subst (λ (rows : List StrikeRow). IsClosestPair rows term.pair) of.rows_are of.pair_is_closest

    has_two : (strike : ℕ) (lo hi : ℤ) → IsTermAnswer P x facts (UndecidedForward strike lo hi) → HasOneForward term → ⊥
    has_two strike lo hi (rate, stands, h) one =
        undecided_has_two P facts.rows (exponential_ends P rate facts.minutes) strike lo hi lawful.rows.rising h term.pair closest (by_exponent one)
      where
        by_exponent : HasOneForward term → (term.pair.d ≡ pos 0) ⊎ (exponential_ends P rate facts.minutes ≡ exact_ends P (pos 1))
        by_exponent (inr none) = inl none
        by_exponent (inl zero) =
            let rates : rate ≡ term.rate = same_Some rate term.rate (sym stands ∙ of.rate_stands) in
            let top : (exponent rate facts.minutes).top ≡ pos 0 =
            ap (λ (z : ℤ). (exponent z facts.minutes).top) rates ∙ ap (λ (m : ℕ). (exponent term.rate m).top) (sym of.minutes_are) ∙ zero in
            inr (ap (λ (p : ℤ). signed_ends P p (exponent rate facts.minutes).bottom) top ∙ exponential_is_one P (exponent rate facts.minutes).bottom (omega arith))

    pub term_answer_is_decided : HasOneForward term → (a : TermAnswer P) → IsTermAnswer P x facts a → IsForwardDecided P a
    term_answer_is_decided one (Run run) h = tt
    term_answer_is_decided one (Refused refusal) h = tt
    term_answer_is_decided one (UndecidedForward strike lo hi) h = has_two strike lo hi h one

    pub clear_answer_is_decided : IsScale P → 60 ≤ P → IsClearForward term → (a : TermAnswer P) → IsTermAnswer P x facts a → IsForwardDecided P a
    clear_answer_is_decided scale fine clear (Run run) h = tt
    clear_answer_is_decided scale fine clear (Refused refusal) h = tt
    clear_answer_is_decided scale fine (inl zero) (UndecidedForward strike lo hi) h = has_two strike lo hi h (inl zero)
    clear_answer_is_decided scale fine (inr (inl none)) (UndecidedForward strike lo hi) h = has_two strike lo hi h (inr none)
    clear_answer_is_decided scale fine (inr (inr far)) (UndecidedForward strike lo hi) h =
        let m : UndecidedMeans P facts strike lo hi = term_answer_means (UndecidedForward strike lo hi) h in
        let near = term_answer_is_tight scale (UndecidedForward strike lo hi) h fine in
        let lowest = m.lowest in
        let undecided : IsUndecidedForward m.term strike lo hi = record { between = m.between; narrow = near; listed = lowest.listed; straddles = lowest.straddles; lowest = lowest.lowest } in
        let same : m.term ≡ term = term_of_facts_is_one facts m.term term lawful.rows.rising m.is_of_facts of in
        let rates : facts.rate ≡ Some term.rate = of.rate_stands in
        let small : IsWithinOne (exponent term.rate term.minutes) =
        subst (λ (n : ℕ). IsWithinOne (exponent term.rate n)) (sym of.minutes_are) (exponent_small term.rate rates).1 in
        far_forward_is_decided term strike lo hi small far (subst (λ (t : Term). IsUndecidedForward t strike lo hi) same undecided)
