-- The opening of a feed has an answer.
use Rattle.std.proofs.Common.{◌≡◌, ◌∙◌, refl, sym, ap, subst, ℕ, ℤ, List, Option, Some, None}
use Rattle.std.specs.Prelude.{IsSome}
use Rattle.std.specs.Option.{option_and_then}
use Rattle.vx_clock.specs.declared.days.DayNo.{DayNo}
use Rattle.vx_bounds.specs.Cents.{Decides}
use Rattle.vx_bounds.specs.declared.cents.Decision.{Decision}
use Rattle.vx_bounds.specs.declared.cents.Decision.TheVariants.{Cents, Straddle, Negative}
use Rattle.vx_feed.specs.declared.events.Event.{Event}
use Rattle.vx_feed.specs.Listed.{trade_date}
use Rattle.vx_feed.specs.Opening.{opening_time, opening_line}
use Rattle.vx_formula.specs.Term.{TermFacts}
use Rattle.vx_claims.specs.declared.limits.TheConstants.{SCALE}
use Rattle.vx_claims.specs.Seen.{opening_expiry, opening_term_of}
use Rattle.vx_certify.specs.Certified.{AreIndexEnds}
use Rattle.vx_term.specs.Index.{single_ends}
use Rattle.vx_term.specs.declared.answer.TermAnswer.{TermAnswer}
use Rattle.vx_term.specs.declared.answer.TermAnswer.TheVariants as term
use Rattle.vx_term.specs.declared.answer.TermRun.{TermRun}
use Rattle.vx_soq.specs.declared.answer.OpeningAnswer.{OpeningAnswer}
use Rattle.vx_soq.specs.declared.answer.OpeningAnswer.TheVariants.{Published, Refused, UndecidedForward, UndecidedCents}
use Rattle.vx_soq.specs.declared.answer.SoqReason.TheVariants.{NoOpening, NoTerm, Term, NegativeVariance}
use Rattle.vx_soq.specs.Figures.{opening_certificate, IsAnswerByTerm}
use Rattle.vx_soq.specs.Openings.{IsAnswerOfTerm, IsOpeningAnswer}
use Rattle.vx_existence.specs.Existence.{OpeningHasAnswer}
use Rattle.vx_existence.proofs.Roots.{square_has_index_ends}
use Rattle.vx_existence.proofs.Decisions.{ends_are_decided}
use Rattle.vx_existence.proofs.Terms.{every_term_has_answer}

-- an answer that a term's answer is joined to is none of those for an opening without a term
abbrev IsOfTerm : OpeningAnswer → Type 0
IsOfTerm (Refused NoOpening) = ⊥
IsOfTerm (Refused NoTerm) = ⊥
IsOfTerm _ = Unit {0}

module _ (line time : ℕ) where
  abbrev Joined : TermAnswer SCALE → Type 0
  Joined answered = (answer : OpeningAnswer) × IsAnswerByTerm line time answered answer × IsOfTerm answer

  of_decision : (run : TermRun SCALE) (lo hi : ℤ) → AreIndexEnds SCALE (single_ends run.w) lo hi
      → (decision : Decision) → Decides lo hi decision → Joined (term.Run run)
  of_decision run lo hi ends (Cents cents) decides =
      (Published (record { cents = cents; lo = lo; hi = hi; certificate = opening_certificate line time run lo hi cents }), (ends, decides, refl), tt)
  of_decision run lo hi ends Straddle decides = (UndecidedCents lo hi, (ends, decides), tt)
  of_decision run lo hi ends Negative decides = (Refused NegativeVariance, (lo, hi, ends, decides), tt)

  joined : (answered : TermAnswer SCALE) → Joined answered
  joined (term.Run run) =
      let found = square_has_index_ends SCALE (single_ends run.w) in
      let decided = ends_are_decided found.0 found.1 in
      of_decision run found.0 found.1 found.2 decided.0 decided.1
  joined (term.Refused refusal) = (Refused (Term refusal), refl, tt)
  joined (term.UndecidedForward strike lo hi) = (UndecidedForward strike lo hi, refl, tt)

module _ (events : List Event) where
  abbrev Answered : Type 0
  Answered = (answer : OpeningAnswer) × IsOpeningAnswer events answer

  after : (answer : OpeningAnswer) → IsOfTerm answer → IsAnswerOfTerm events answer → IsOpeningAnswer events answer
  after (Published figure) of h = h
  after (UndecidedCents lo hi) of h = h
  after (UndecidedForward strike lo hi) of h = h
  after (Refused NoOpening) of h = elim of [ ]
  after (Refused NoTerm) of h = elim of [ ]
  after (Refused (Term refusal)) of h = h
  after (Refused NegativeVariance) of h = h

  module _ (time : ℕ) (time_is : opening_time events ≡ Some time) where
    taken : IsSome (opening_time events)
    taken = subst (λ (o : Option ℕ). IsSome o) (sym time_is) refl

    of_term : (day : DayNo) → trade_date events ≡ Some day → (facts : TermFacts) → opening_term_of events day ≡ Some facts → Answered
    of_term day day_is facts facts_are =
        let found = every_term_has_answer SCALE (opening_expiry day) facts in
        let both = joined (opening_line events) time found.0 in (
          both.0,
          after both.0 both.2 (
              record {
                day = day;
                time = time;
                is_taken = record { day_is = day_is; time_is = time_is };
                facts = facts;
                facts_are = facts_are;
                term_answer = found.0;
                is_term_answer = found.1;
                joined = both.1;
              }
              ),
        )

    by_term : (day : DayNo) → trade_date events ≡ Some day → (chosen : Option TermFacts) → opening_term_of events day ≡ chosen → Answered
    by_term day day_is None none = (Refused NoTerm, record { is_taken = taken; no_term = ap (option_and_then (opening_term_of events)) day_is ∙ none })
    by_term day day_is (Some facts) facts_are = of_term day day_is facts facts_are

    by_day : (day : Option DayNo) → trade_date events ≡ day → Answered
    by_day None none = (Refused NoTerm, record { is_taken = taken; no_term = ap (option_and_then (opening_term_of events)) none })
    by_day (Some day) day_is = by_term day day_is (opening_term_of events day) refl

  by_time : (time : Option ℕ) → opening_time events ≡ time → Answered
  by_time None none = (Refused NoOpening, none)
  by_time (Some time) time_is = by_day time time_is (trade_date events) refl

-- the opening has an answer
pub opening_has_answer : OpeningHasAnswer
opening_has_answer events = by_time events (opening_time events) refl
