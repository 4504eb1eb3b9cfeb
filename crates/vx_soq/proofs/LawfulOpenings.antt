-- The answer to the opening of lawful events is lawful.
use Rattle.std.proofs.Common.{◌≡◌, ◌∙◌, sym, ap, subst, refl, ℕ, ◌+◌, ◌<◌, ◌≤◌, inl, inr, Bool, true, ℤ, pos, ◌+ℤ◌, ◌≤ℤ◌, List, Some, None, arith}
use Rattle.std.specs.Prelude.{is_some}
use Rattle.std.specs.Option.{option_and_then}
use Rattle.std.proofs.lemmas.Int.{ints}
use Rattle.std.proofs.lemmas.Bool.{cases_Bool, cond-true, cond-false}
use Rattle.std.proofs.lemmas.Option.{same_Some}
use Rattle.vx_num.specs.Fraction.{Fraction}
use Rattle.vx_clock.specs.declared.days.DayNo.{DayNo}
use Rattle.vx_clock.specs.declared.terms.Expiry.{Expiry}
use Rattle.vx_feed.specs.declared.events.Event.{Event}
use Rattle.vx_feed.specs.declared.events.Event.TheVariants as event
use Rattle.vx_feed.specs.Standing.{before_opening}
use Rattle.vx_feed.specs.Listed.{trade_date, is_declared}
use Rattle.vx_feed.specs.Opening.{opening_time, opening_line}
use Rattle.vx_feed.specs.Order.{AreLawful}
use Rattle.vx_interval.specs.Ends.{Ends, IsScale, unit}
use Rattle.vx_interval.specs.Membership.{IsMember}
use Rattle.vx_bounds.specs.Cents.{Decides}
use Rattle.vx_bounds.specs.declared.cents.Decision.TheVariants as decision
use Rattle.vx_formula.specs.declared.limits.TheConstants.{INDEX_WIDTH_MAX}
use Rattle.vx_formula.specs.Term.{TermFacts, Term as FormulaTerm}
use Rattle.vx_formula.specs.Variance.{variance_at}
use Rattle.vx_formula.specs.Index.{OneTermMeets, IsNegative}
use Rattle.vx_formula.specs.Between.{BetweenAt}
use Rattle.vx_formula.specs.Refusal.{TermReason, TermRefuses, term_place, FirstTermRefusal, SomeTermRefuses}
use Rattle.vx_formula.specs.Refusal.{OpeningFacts, IsOpeningBasis, OpeningReason, no_opening, no_term, of_term, negative_opening, OpeningRefuses, opening_place, FirstOpeningRefusal, opening_cents_undecided_place}
use Rattle.vx_formula.proofs.RefusalPlaces.{place_range}
use Rattle.vx_claims.specs.declared.acceptance.Test.{Test}
use Rattle.vx_claims.specs.declared.acceptance.Test.TheVariants.{Place, Terms, Minutes, Rate, TaylorTerms, Exponential, ClosestPair, Forward, Level, Excess, Strip, Contributions, Total, Variance, Square, IndexEnds}
use Rattle.vx_claims.specs.declared.limits.TheConstants.{SCALE}
use Rattle.vx_claims.specs.Seen.{opening_expiry, opening_term_facts, opening_term_of, opening_facts}
use Rattle.vx_claims.specs.TermTests.{EnclosesVariance}
use Rattle.vx_claims.specs.Accepts.{OpeningTermMeets, IsOpeningExpiry, SoqMeets, Accepts}
use Rattle.vx_claims.proofs.OpeningPlaces.{opening_stands}
use Rattle.vx_claims.specs.Answers.{PublishesOpening, RefusesOpening, LeavesOpeningForward, LeavesOpeningCents}
use Rattle.vx_facts.proofs.ShownProofs.{opening_is_lawful}
use Rattle.vx_soundness.proofs.Meaning.{accepted_means}
use Rattle.vx_term.specs.declared.answer.TermAnswer.{TermAnswer}
use Rattle.vx_term.specs.declared.answer.TermAnswer.TheVariants as term
use Rattle.vx_term.specs.declared.answer.TermRun.{TermRun}
use Rattle.vx_term.specs.Answer.{IsRun, IsTermAnswer}
use Rattle.vx_term.specs.Index.{single_ends}
use Rattle.vx_term.specs.Meaning.{reason_of, term_of_run, RunMeans}
use Rattle.vx_term.specs.Ranges.{AreFactsLawful, IsVarianceInRange, IsSquareInRange}
use Rattle.vx_term.proofs.TermLaws.{term_answer_means, term_answer_is_tight}
use Rattle.vx_term.proofs.Ordered.{variance_is_ordered, square_is_ordered}
use Rattle.vx_term.proofs.Weights.{single_range, single_encloses}
use Rattle.vx_certify.specs.Certified.{AreIndexEnds, certified_ends, certified_term, certified_figure}
use Rattle.vx_certify.proofs.IndexIsTight.{single_is_tight}
use Rattle.vx_accepted.proofs.Terms.{certified_term_is_true}
use Rattle.vx_accepted.proofs.Figures.{single_is_enclosed, index_is_enclosed}
use Rattle.vx_accepted.proofs.IndexEnds.{member_is_between, member_is_negative, ends_straddle}
use Rattle.vx_soq.specs.declared.answer.OpeningAnswer.{OpeningAnswer}
use Rattle.vx_soq.specs.declared.answer.OpeningAnswer.TheVariants.{Published, Refused, UndecidedForward, UndecidedCents}
use Rattle.vx_soq.specs.declared.answer.SoqReason.TheVariants.{NoOpening, NoTerm, Term, NegativeVariance}
use Rattle.vx_soq.specs.Figures.{opening_certificate, IsOpeningFigure, IsAnswerByTerm}
use Rattle.vx_soq.specs.Openings.{HasNoTerm, IsAnswerOfTerm}
use Rattle.vx_soq.specs.Lawful.{IsLawfulOpening, OpeningAnswerIsLawful}

fine : IsScale SCALE
fine = (omega arith, omega arith)

-- ---- the places of a term's refusals

module _ (seen : OpeningFacts) (facts : TermFacts) (taken : seen.is_taken ≡ true) (term_is : seen.term ≡ Some facts) where
  refuses : (reason : TermReason) → SomeTermRefuses SCALE seen.term reason → TermRefuses SCALE facts reason
  refuses reason h =
      let same : facts ≡ h.facts = same_Some facts h.facts (sym term_is ∙ h.is_chosen) in
      subst (λ (f : TermFacts). TermRefuses SCALE f reason) (sym same) h.refuses

  -- no refusal at an earlier place holds where none of the term's does
  none_before : (place : ℕ) → place ≤ 13 → ((reason : TermReason) → 2 + term_place reason < place → ¬ TermRefuses SCALE facts reason)
      → (other : OpeningReason) → opening_place other < place → ¬ OpeningRefuses SCALE seen other
  none_before place most none no_opening less h = absurd cc
  none_before place most none no_term less h = absurd cc
  none_before place most none (of_term reason) less h = none reason less (refuses reason h)
  none_before place most none negative_opening less h = omega (arith, most, less)

  term_refusal_is_first : (reason : TermReason) → FirstTermRefusal SCALE facts reason → FirstOpeningRefusal SCALE seen (of_term reason)
  term_refusal_is_first reason first = record {
    holds = record { facts = facts; is_chosen = term_is; refuses = first.holds };
    none_earlier = let r = place_range reason in none_before (2 + term_place reason) (omega (arith, r.1)) (λ other less. first.none_earlier other (omega (arith, less)));
  }

-- ---- one term

module _ (events : List Event) (day : DayNo) (time : ℕ) (lawful : AreLawful events) (day_is : trade_date events ≡ Some day) (time_is : opening_time events ≡ Some time) where
  abbrev facts : TermFacts
  facts = opening_term_facts events day

  taken : (opening_facts events).is_taken ≡ true
  taken = ap is_some time_is

  term_of_day : (opening_facts events).term ≡ opening_term_of events day
  term_of_day = ap (option_and_then (opening_term_of events)) day_is

  -- what is known of the opening's term is lawful
  pub facts_lawful : AreFactsLawful facts
  facts_lawful = let shown = opening_is_lawful (opening_expiry day) events lawful in record { rows = shown.rows_are; rate = shown.rate_is; minutes = (omega arith, omega arith) }

  module _ (declared : is_declared (opening_expiry day) (before_opening events) ≡ true) where
    facts_of_day : opening_term_of events day ≡ Some facts
    facts_of_day = cond-true (is_declared (opening_expiry day) (before_opening events)) (Some facts) None declared

    -- and is what the opening shows
    pub term_is : (opening_facts events).term ≡ Some facts
    term_is = term_of_day ∙ facts_of_day

    forward_is_left : (strike : ℕ) (lo hi : ℤ) → IsTermAnswer SCALE (opening_expiry day) facts (term.UndecidedForward strike lo hi) → LeavesOpeningForward events strike lo hi
    forward_is_left strike lo hi h =
        let means = term_answer_means SCALE (opening_expiry day) facts facts_lawful (term.UndecidedForward strike lo hi) h in
        let near = term_answer_is_tight SCALE (opening_expiry day) facts facts_lawful fine (term.UndecidedForward strike lo hi) h (omega arith) in
        record {
          term = means.term;
          is_basis = record { term_facts = facts; term_is = term_is; term_of = means.is_of_facts };
          undecided = record { between = means.between; narrow = near; listed = (means.lowest).listed; straddles = (means.lowest).straddles; lowest = (means.lowest).lowest };
          none_earlier = none_before (opening_facts events) facts taken term_is 5 (omega arith) (λ other less. means.none_earlier other (omega (arith, less)));
        }

    refusal : (reason : TermReason) → FirstTermRefusal SCALE facts reason → RefusesOpening events (of_term reason)
    refusal reason first = term_refusal_is_first (opening_facts events) facts taken term_is reason first

    -- ---- a run

    module _ (a : TermRun SCALE) (run : IsRun SCALE (opening_expiry day) facts a) where
      means : RunMeans SCALE 12 facts a
      means = term_answer_means SCALE (opening_expiry day) facts facts_lawful (term.Run a) run

      abbrev one : FormulaTerm
      one = term_of_run facts.rows a

      is_basis : IsOpeningBasis (opening_facts events) one
      is_basis = record { term_facts = facts; term_is = term_is; term_of = means.is_of_facts }

      ordered : a.w.lo ≤ℤ a.w.hi
      ordered = let n = run.numbers_are in subst (λ (w : Ends). w.lo ≤ℤ w.hi) (sym n.variance_is) (variance_is_ordered SCALE a.exp.value a.sum.total a.g)

      variance_test : EnclosesVariance SCALE (certified_ends a.exp.value) (certified_ends a.g) (certified_ends a.sum.total) (certified_ends a.w)
      variance_test = certified_term_is_true SCALE (opening_expiry day) facts a fine facts_lawful run Variance

      variance_range : IsVarianceInRange SCALE a.w
      unfolding unit
      variance_range = let low = (variance_test.low_range).0 in let high = (variance_test.high_range).1 in record { low = omega (arith, ints, low); high = omega (arith, ints, high) }

      abbrev square : Ends
      square = single_ends a.w

      -- the square of the index has its ends in order, within 1024
      pub square_ordered : square.lo ≤ℤ square.hi
      square_ordered = (square_is_ordered 0 0 0 a.w a.w ordered ordered).1

      -- the square of the opening's run is in range
      pub square_in_range : IsSquareInRange SCALE square
      square_in_range = single_range SCALE a.w ordered variance_range

      meet : (Test : Fraction → Type 0) → ((x : Fraction) → IsMember SCALE square x → Test x) → OneTermMeets one Test
      meet Test holds = record {
        depth = 12;
        level = a.k0;
        holds = λ e m. record { level = means.is_level e m; test = holds _ (single_encloses SCALE a.w (variance_at one a.k0 e) (means.encloses e m)) };
      }

      close : (lo hi : ℤ) → AreIndexEnds SCALE square lo hi → hi ≤ℤ (lo +ℤ pos INDEX_WIDTH_MAX)
      close lo hi ends =
          let narrow = term_answer_is_tight SCALE (opening_expiry day) facts facts_lawful fine (term.Run a) run in
          (single_is_tight SCALE a.w (omega arith) narrow).near lo hi ends

      none_before_cents : (other : OpeningReason) → opening_place other < opening_cents_undecided_place → ¬ OpeningRefuses SCALE (opening_facts events) other
      none_before_cents = none_before (opening_facts events) facts taken term_is 12 (omega arith) (λ other less. means.none_refuses other)

      straddling : (lo hi : ℤ) → AreIndexEnds SCALE square lo hi → Decides lo hi decision.Straddle → LeavesOpeningCents events lo hi
      straddling lo hi ends decides = record {
        term = one;
        is_basis = is_basis;
        level = (a.k0, record { depth = 12; holds = means.is_level });
        undecided = record {
          between = meet (BetweenAt lo hi) (member_is_between SCALE square lo hi ends);
          narrow = close lo hi ends;
          straddles = ends_straddle SCALE square lo hi square_in_range ends decides;
        };
        none_earlier = none_before_cents;
      }

      negative : (lo hi : ℤ) → AreIndexEnds SCALE square lo hi → Decides lo hi decision.Negative → RefusesOpening events negative_opening
      negative lo hi ends decides = record {
        holds = record { term = one; is_basis = is_basis; negative = meet IsNegative (λ x member. member_is_negative SCALE square lo hi ends x member decides.1) };
        none_earlier = none_before (opening_facts events) facts taken term_is 13 (omega arith) (λ other less. means.none_refuses other);
      }

      -- the certificate is accepted
      term_meets : (test : Test) → OpeningTermMeets events 2 (certified_term a) test
      term_meets test = record { day = day; day_is = day_is; meets = certified_term_is_true SCALE (opening_expiry day) facts a fine facts_lawful run test }

      is_expiry : IsOpeningExpiry events a.expiry
      is_expiry = record {
        day = day;
        day_is = day_is;
        expiry_is = run.expiry_is;
        declared = subst (λ (x : Expiry). is_declared x (before_opening events) ≡ true) (sym run.expiry_is) declared;
      }

      module _ (lo hi : ℤ) (cents : ℕ) (ends : AreIndexEnds SCALE square lo hi) (decides : Decides lo hi (decision.Cents cents)) where
        meets_all : (test : Test) → SoqMeets events 2 (opening_line events) time (certified_term a) (certified_figure square lo hi cents) test
        meets_all Place = opening_stands events time time_is
        meets_all Terms = is_expiry
        meets_all Minutes = term_meets Minutes
        meets_all Rate = term_meets Rate
        meets_all TaylorTerms = term_meets TaylorTerms
        meets_all Exponential = term_meets Exponential
        meets_all ClosestPair = term_meets ClosestPair
        meets_all Forward = term_meets Forward
        meets_all Level = term_meets Level
        meets_all Excess = term_meets Excess
        meets_all Strip = term_meets Strip
        meets_all Contributions = term_meets Contributions
        meets_all Total = term_meets Total
        meets_all Variance = term_meets Variance
        meets_all Square = single_is_enclosed SCALE a.w ordered square_ordered square_in_range
        meets_all IndexEnds = index_is_enclosed SCALE square lo hi cents square_ordered square_in_range ends decides (close lo hi ends)

        accepted : Accepts events (opening_certificate (opening_line events) time a lo hi cents)
        accepted = record { version = inr refl; meets_all = meets_all }

        published : PublishesOpening events (opening_line events) time cents lo hi (opening_certificate (opening_line events) time a lo hi cents)
        published =
            let says = accepted_means 30 7 events (opening_certificate (opening_line events) time a lo hi cents) (omega arith) lawful accepted in
            record {
              is_opening = says.is_opening;
              term = says.term;
              is_basis = says.is_basis;
              is_figure = says.is_figure;
              none_refuses = says.none_refuses;
              names_line = record { version = refl; line_is = refl; time_is = refl };
              states = record { cents_are = refl; lo_is = refl; hi_is = refl };
              accepted = accepted;
            }

      of_figure : (answer : OpeningAnswer) → IsOpeningFigure (opening_line events) time a answer → IsLawfulOpening events answer
      of_figure (Published figure) (ends, decides, is) =
          (time, subst (PublishesOpening events (opening_line events) time figure.cents figure.lo figure.hi) (sym is) (published figure.lo figure.hi figure.cents ends decides))
      of_figure (UndecidedCents lo hi) (ends, decides) = straddling lo hi ends decides
      of_figure (UndecidedForward strike lo hi) h = absurd h
      of_figure (Refused NegativeVariance) (lo, hi, ends, decides) = negative lo hi ends decides
      of_figure (Refused NoOpening) h = absurd h
      of_figure (Refused NoTerm) h = absurd h
      of_figure (Refused (Term reason)) h = absurd h

    joined : (a : TermAnswer SCALE) → IsTermAnswer SCALE (opening_expiry day) facts a → (answer : OpeningAnswer) → IsAnswerByTerm (opening_line events) time a answer → IsLawfulOpening events answer
    joined (term.Run a) h answer is = of_figure a h answer is
    joined (term.Refused reason) h answer is =
        subst (IsLawfulOpening events) (sym is) (refusal (reason_of reason) (term_answer_means SCALE (opening_expiry day) facts facts_lawful (term.Refused reason) h))
    joined (term.UndecidedForward strike lo hi) h answer is = subst (IsLawfulOpening events) (sym is) (forward_is_left strike lo hi h)

-- an expiry's facts are there only where it is declared
pub declared_from : (events : List Event) (day : DayNo) (f : TermFacts) → opening_term_of events day ≡ Some f
    → (is_declared (opening_expiry day) (before_opening events) ≡ true) × (opening_term_facts events day ≡ f)
declared_from events day f h =
    let b : Bool = is_declared (opening_expiry day) (before_opening events) in
    elim (cases_Bool b) [
      | inl listed ↦ (listed, same_Some (opening_term_facts events day) f (sym (cond-true b (Some (opening_term_facts events day)) None listed) ∙ h))
      | inr unlisted ↦ let none : None ≡ Some f = sym (cond-false b (Some (opening_term_facts events day)) None unlisted) ∙ h in absurd cc
    ]

of_term_answer : (events : List Event) (answer : OpeningAnswer) → AreLawful events → IsAnswerOfTerm events answer → IsLawfulOpening events answer
of_term_answer events answer lawful h =
    let known = declared_from events h.day h.facts h.facts_are in
    joined events h.day h.time lawful (h.is_taken).day_is (h.is_taken).time_is known.0 h.term_answer
    (subst (λ (f : TermFacts). IsTermAnswer SCALE (opening_expiry h.day) f h.term_answer) (sym known.1) h.is_term_answer) answer h.joined

no_opening_refuses : (events : List Event) → opening_time events ≡ None → RefusesOpening events no_opening
no_opening_refuses events none = record { holds = ap is_some none; none_earlier = first }
  where
    first : (other : OpeningReason) → opening_place other < 1 → ¬ OpeningRefuses SCALE (opening_facts events) other
    first no_opening less h = omega (arith, less)
    first no_term less h = omega (arith, less)
    first (of_term reason) less h = omega (arith, less)
    first negative_opening less h = omega (arith, less)

no_term_refuses : (events : List Event) → HasNoTerm events → RefusesOpening events no_term
no_term_refuses events none = record { holds = none.no_term; none_earlier = first }
  where
    first : (other : OpeningReason) → opening_place other < 2 → ¬ OpeningRefuses SCALE (opening_facts events) other
    first no_opening less h = let was = none.is_taken in absurd cc
    first no_term less h = omega (arith, less)
    first (of_term reason) less h = omega (arith, less)
    first negative_opening less h = omega (arith, less)

-- the answer is lawful
pub opening_answer_is_lawful : OpeningAnswerIsLawful
opening_answer_is_lawful events (Refused NoOpening) lawful h = no_opening_refuses events h
opening_answer_is_lawful events (Refused NoTerm) lawful h = no_term_refuses events h
opening_answer_is_lawful events (Refused (Term reason)) lawful h = of_term_answer events (Refused (Term reason)) lawful h
opening_answer_is_lawful events (Refused NegativeVariance) lawful h = of_term_answer events (Refused NegativeVariance) lawful h
opening_answer_is_lawful events (Published figure) lawful h = of_term_answer events (Published figure) lawful h
opening_answer_is_lawful events (UndecidedForward strike lo hi) lawful h = of_term_answer events (UndecidedForward strike lo hi) lawful h
opening_answer_is_lawful events (UndecidedCents lo hi) lawful h = of_term_answer events (UndecidedCents lo hi) lawful h
