-- The answer, from the book's opening, the term's place and the term's answer.
use Rattle.std.proofs.Common.{◌∙◌, sym, ap, List}
use Rattle.std.specs.Prelude.{IfOk, is_some, slice_get}
use Rattle.std.proofs.lemmas.Option.{slice_get_within}
use Rattle.std.proofs.lemmas.Result.{IfOk-weaker}
use Rattle.vx_clock.specs.declared.terms.Expiry.{Expiry}
use Rattle.vx_feed.specs.declared.events.Event.{Event}
use Rattle.vx_book.specs.StandsFor.{BookStandsFor}
use Rattle.vx_claims.specs.Seen.{opening_expiry}
use Rattle.vx_soq.specs.declared.answer.OpeningAnswer.TheVariants.{Refused}
use Rattle.vx_soq.specs.declared.answer.SoqReason.TheVariants.{NoOpening, NoTerm}
use Rattle.vx_soq.specs.Complete.{PublishesWhereClear, RefusesWhereClear}
use Rattle.vx_soq.specs.Figures.{IsAnswerByTerm}
use Rattle.vx_soq.specs.Lawful.{IsLawfulOpening}
use Rattle.vx_soq.specs.Openings.{HasNoTerm, IsOpeningAnswer}
use Rattle.vx_soq.specs.Written.{IsWritable}
use Rattle.vx_soq.proofs.Completeness.{clear_opening_is_published, first_opening_refusal_is_answered}
use Rattle.vx_soq.proofs.FromBook.{answered, unopened, opened_parts}
use Rattle.vx_soq.proofs.LawfulOpenings.{opening_answer_is_lawful}
use Rattle.vx_soq.proofs.Writable.{opening_can_be_written}
use Rattle.vx_soq.proofs.opening.opening_figure.Goals as goal

pub returns-in_default : goal.returns-in_default
returns-in_default c =
    let is : (events : List Event) → BookStandsFor c.args.book.now events → IsOpeningAnswer events (Refused NoOpening) =
    λ events h. unopened events (sym (c.in_default.ensures.value events h)) in
    record {
      answer = is;
      lawful = λ events h lawful. opening_answer_is_lawful events (Refused NoOpening) lawful (is events h);
      published = λ events h lawful. clear_opening_is_published events (Refused NoOpening) lawful (is events h);
      refused = λ events h lawful. first_opening_refusal_is_answered events (Refused NoOpening) lawful (is events h);
      writable = λ events h lawful. tt;
    }

pub returns-in_default-term_place : goal.returns-in_default-term_place
returns-in_default-term_place c =
    let is : (events : List Event) → BookStandsFor c.args.book.now events → HasNoTerm events =
    λ events h. record {
      is_taken = ap is_some (opened_parts events c.in-Some.opened (sym (c.in-Some.ensures.value events h))).time_is;
      no_term = c.in_default-term_place.ensures events h;
    } in
    record {
      answer = is;
      lawful = λ events h lawful. opening_answer_is_lawful events (Refused NoTerm) lawful (is events h);
      published = λ events h lawful. clear_opening_is_published events (Refused NoTerm) lawful (is events h);
      refused = λ events h lawful. first_opening_refusal_is_answered events (Refused NoTerm) lawful (is events h);
      writable = λ events h lawful. tt;
    }

pub opening_term-term-requires-clause-within : goal.opening_term-term-requires-clause-within
opening_term-term-requires-clause-within c =
    let events = (c.requires).0 in
    let h = (c.requires).1 in
    let place = c.in-Some-term_place.place in
    let at = c.in-Some-term_place.ensures events h in
    slice_get_within c.args.book.now.expiries.items place (opening_expiry at.day)
    (ap (λ (l : List Expiry). slice_get l place) h.expiries ∙ at.stands)

pub returns : goal.returns
returns c =
    let said = c.in_ok-answer.answer in
    let result = c.answer_of_term.result in
    let opened = c.in-Some.opened in
    let place = c.in-Some-term_place.place in
    let view = c.opening_term-term.result in
    let is : (events : List Event) → BookStandsFor c.args.book.now events → IfOk result (IsOpeningAnswer events) =
    λ events h. IfOk-weaker result (IsAnswerByTerm opened.line opened.time said) (IsOpeningAnswer events)
    (λ answer joined. answered events opened place view said answer (sym (c.in-Some.ensures.value events h))
    (c.in-Some-term_place.ensures events h)
    (ap (λ (l : List Expiry). slice_get l place) (sym h.expiries) ∙ c.opening_term-term.ensures.expiry)
    (c.opening_term-term.ensures.at_opening events h) c.in_ok-answer.ensures.answer joined) c.answer_of_term.ensures in
    record {
      answer = is;
      lawful = λ events h lawful.
          IfOk-weaker result (IsOpeningAnswer events) (IsLawfulOpening events)
          (λ a. opening_answer_is_lawful events a lawful) (is events h);
      published = λ events h lawful.
          IfOk-weaker result (IsOpeningAnswer events) (PublishesWhereClear events)
          (λ a. clear_opening_is_published events a lawful) (is events h);
      refused = λ events h lawful.
          IfOk-weaker result (IsOpeningAnswer events) (RefusesWhereClear events)
          (λ a. first_opening_refusal_is_answered events a lawful) (is events h);
      writable = λ events h lawful.
          IfOk-weaker result (IsOpeningAnswer events) IsWritable
          (λ a. opening_can_be_written events a lawful) (is events h);
    }
