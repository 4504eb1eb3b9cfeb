-- The certificate of a published opening is in the ranges that writing it asks.
use Rattle.std.proofs.Common.{◌≡◌, sym, subst, ℕ, ◌<◌, true, List, [], ◌∷◌, ◌++◌, length, Some, append_assoc, arith}
use Rattle.std.proofs.lemmas.Bool.{leb-false}
use Rattle.std.proofs.lemmas.List.{append-nil}
use Rattle.std.proofs.lemmas.Map.Views.{Contains-from_any}
use Rattle.std.proofs.lemmas.Option.{same_Some}
use Rattle.vx_clock.specs.declared.days.DayNo.{DayNo}
use Rattle.vx_feed.specs.declared.events.Event.{Event}
use Rattle.vx_feed.specs.declared.events.Event.TheVariants as event
use Rattle.vx_feed.specs.declared.limits.TheConstants.{LINES_MAX}
use Rattle.vx_feed.specs.Standing.{before_opening}
use Rattle.vx_feed.specs.Listed.{declared_expiries, is_declared}
use Rattle.vx_feed.specs.Opening.{opening_time, opening_line}
use Rattle.vx_feed.specs.Order.{AreLawful, AreLawfulAfter, IsLawfulNext}
use Rattle.vx_feed.proofs.NoCauses.{no_causes}
use Rattle.vx_feed.proofs.SameLemmas.{expiry_from_same}
use Rattle.vx_cert.specs.Ranges.{IsCertificateInRange, IsExpiryInRange}
use Rattle.vx_claims.specs.declared.limits.TheConstants.{SCALE}
use Rattle.vx_claims.specs.Seen.{opening_expiry, opening_term_facts}
use Rattle.vx_facts.proofs.InRange.{before_is_lawful}
use Rattle.vx_interval.specs.Ends.{IsScale}
use Rattle.vx_formula.specs.Term.{TermFacts}
use Rattle.vx_term.specs.declared.answer.TermAnswer.{TermAnswer}
use Rattle.vx_term.specs.declared.answer.TermAnswer.TheVariants as term
use Rattle.vx_term.specs.Answer.{IsTermAnswer}
use Rattle.vx_term.specs.Index.{single_ends}
use Rattle.vx_accepted.proofs.DeclaredExpiries.{declared_expiries_are_in_range}
use Rattle.vx_accepted.proofs.Statable.{figure_is_statable, run_is_statable}
use Rattle.vx_soq.specs.declared.answer.Figure.{Figure}
use Rattle.vx_soq.specs.declared.answer.OpeningAnswer.TheVariants.{Published, Refused, UndecidedForward, UndecidedCents}
use Rattle.vx_soq.specs.declared.answer.SoqReason.TheVariants.{NoOpening, NoTerm, Term, NegativeVariance}
use Rattle.vx_soq.specs.Figures.{IsAnswerByTerm}
use Rattle.vx_soq.specs.Openings.{IsTaken}
use Rattle.vx_soq.specs.Written.{OpeningCanBeWritten}
use Rattle.vx_soq.proofs.LawfulOpenings.{declared_from, facts_lawful, square_in_range, square_ordered}

next_step : (before rest : List Event) (e f : Event) → IsLawfulNext ((before ++ e ∷ []) ++ rest) f → IsLawfulNext (before ++ e ∷ rest) f
next_step before rest e f h = let P : List Event → Type 0 = λ l. IsLawfulNext l f in subst P (append_assoc before (e ∷ []) rest) h

-- the opening of lawful events is lawful next after the events before it
opening_is_next : (before events : List Event) (time : ℕ) → AreLawfulAfter before events → opening_time events ≡ Some time
    → IsLawfulNext (before ++ before_opening events) (event.Opening time)
opening_is_next before [] time lawful h = absurd cc
opening_is_next before (event.Opening t ∷ events) time lawful h =
    let P : List Event → Type 0 = λ l. IsLawfulNext l (event.Opening time) in
    let Q : ℕ → Type 0 = λ m. IsLawfulNext before (event.Opening m) in
    subst P (sym (append-nil before)) (subst Q (same_Some t time h) lawful.0)
opening_is_next before (event.Header day ∷ events) time lawful h =
    next_step before (before_opening events) (event.Header day) (event.Opening time)
    (opening_is_next (before ++ event.Header day ∷ []) events time lawful.1 h)
opening_is_next before (event.Expiry x ∷ events) time lawful h =
    next_step before (before_opening events) (event.Expiry x) (event.Opening time)
    (opening_is_next (before ++ event.Expiry x ∷ []) events time lawful.1 h)
opening_is_next before (event.Rate x rate ∷ events) time lawful h =
    next_step before (before_opening events) (event.Rate x rate) (event.Opening time)
    (opening_is_next (before ++ event.Rate x rate ∷ []) events time lawful.1 h)
opening_is_next before (event.Series s ∷ events) time lawful h =
    next_step before (before_opening events) (event.Series s) (event.Opening time)
    (opening_is_next (before ++ event.Series s ∷ []) events time lawful.1 h)
opening_is_next before (event.Quote t s bid ask ∷ events) time lawful h =
    next_step before (before_opening events) (event.Quote t s bid ask) (event.Opening time)
    (opening_is_next (before ++ event.Quote t s bid ask ∷ []) events time lawful.1 h)
opening_is_next before (event.Trade t s price ∷ events) time lawful h =
    next_step before (before_opening events) (event.Trade t s price) (event.Opening time)
    (opening_is_next (before ++ event.Trade t s price ∷ []) events time lawful.1 h)
opening_is_next before (event.Tick t ∷ events) time lawful h =
    next_step before (before_opening events) (event.Tick t) (event.Opening time)
    (opening_is_next (before ++ event.Tick t ∷ []) events time lawful.1 h)
opening_is_next before (event.End count ∷ events) time lawful h =
    next_step before (before_opening events) (event.End count) (event.Opening time)
    (opening_is_next (before ++ event.End count ∷ []) events time lawful.1 h)

module _ (events : List Event) (day : DayNo) (time : ℕ) (lawful : AreLawful events) (taken : IsTaken events day time)
    (declared : is_declared (opening_expiry day) (before_opening events) ≡ true) where
  next : IsLawfulNext (before_opening events) (event.Opening time)
  next = opening_is_next [] events time lawful taken.time_is

  few : length (before_opening events) < LINES_MAX
  few = leb-false LINES_MAX (length (before_opening events)) (no_causes (before_opening events) (event.Opening time) next.in_order).few

  expiry_range : IsExpiryInRange (opening_expiry day)
  expiry_range =
      declared_expiries_are_in_range (before_opening events) (opening_expiry day) (before_is_lawful events lawful)
      (Contains-from_any expiry_from_same (opening_expiry day) (declared_expiries (before_opening events)) declared)

  fine : IsScale SCALE
  fine = (omega arith, omega arith)

  of_term : (a : TermAnswer SCALE) → IsTermAnswer SCALE (opening_expiry day) (opening_term_facts events day) a → (figure : Figure)
      → IsAnswerByTerm (opening_line events) time a (Published figure) → IsCertificateInRange figure.certificate
  of_term (term.Run run) is figure (ends, decides, stated) =
      let room = few in
      let ordered = square_ordered events day time lawful taken.day_is taken.time_is declared run is in
      let range = square_in_range events day time lawful taken.day_is taken.time_is declared run is in
      subst IsCertificateInRange (sym stated) (record {
        version_first = omega arith;
        version_last = omega arith;
        line_first = omega arith;
        line_last = omega arith;
        time = next.in_range;
        body = (
          run_is_statable SCALE (opening_expiry day) (opening_term_facts events day) run fine expiry_range
              (facts_lawful events day time lawful taken.day_is taken.time_is) is,
          figure_is_statable SCALE (single_ends run.w) figure.lo figure.hi figure.cents fine ordered range
              (record { ends = ends; decides = decides }),
        );
      })
  of_term (term.Refused refusal) is figure joined = absurd cc
  of_term (term.UndecidedForward strike lo hi) is figure joined = absurd cc

-- the certificate can be written
pub opening_can_be_written : OpeningCanBeWritten
opening_can_be_written events (Published figure) lawful h =
    let known = declared_from events h.day h.facts h.facts_are in
    of_term events h.day h.time lawful h.is_taken known.0 h.term_answer
    (subst (λ (f : TermFacts). IsTermAnswer SCALE (opening_expiry h.day) f h.term_answer) (sym known.1) h.is_term_answer) figure h.joined
opening_can_be_written events (Refused NoOpening) lawful h = tt
opening_can_be_written events (Refused NoTerm) lawful h = tt
opening_can_be_written events (Refused (Term reason)) lawful h = tt
opening_can_be_written events (Refused NegativeVariance) lawful h = tt
opening_can_be_written events (UndecidedForward strike lo hi) lawful h = tt
opening_can_be_written events (UndecidedCents lo hi) lawful h = tt
