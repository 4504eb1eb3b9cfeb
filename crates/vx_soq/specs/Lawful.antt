-- Which answers to the opening are lawful, by the words of the formula.
use Rattle.std.specs.Prelude.{ℕ, List}
use Rattle.vx_feed.specs.declared.events.Event.{Event}
use Rattle.vx_feed.specs.Opening.{opening_line}
use Rattle.vx_feed.specs.Order.{AreLawful}
use Rattle.vx_formula.specs.Refusal.{OpeningReason, no_opening, no_term, of_term, negative_opening}
use Rattle.vx_claims.specs.Answers.{PublishesOpening, RefusesOpening, LeavesOpeningForward, LeavesOpeningCents}
use Rattle.vx_term.specs.Meaning.{reason_of}
use Rattle.vx_soq.specs.declared.answer.OpeningAnswer.{OpeningAnswer}
use Rattle.vx_soq.specs.declared.answer.OpeningAnswer.TheVariants.{Published, Refused, UndecidedForward, UndecidedCents}
use Rattle.vx_soq.specs.declared.answer.SoqReason.{SoqReason}
use Rattle.vx_soq.specs.declared.answer.SoqReason.TheVariants.{NoOpening, NoTerm, Term, NegativeVariance}
use Rattle.vx_soq.specs.Openings.{IsOpeningAnswer}

-- the refusal of the formula that a reason names
abbrev pub opening_reason : SoqReason → OpeningReason
opening_reason NoOpening = no_opening
opening_reason NoTerm = no_term
opening_reason (Term refusal) = of_term (reason_of refusal)
opening_reason NegativeVariance = negative_opening

-- the answer is lawful: a figure that is the exact value rounded, with an accepted certificate that names the opening's line; the
-- first refusal that holds; or an undecided forward or figure whose near ends lie around the exact value
abbrev pub IsLawfulOpening : List Event → OpeningAnswer → Type 0
IsLawfulOpening events (Published figure) =
    (time : ℕ) × PublishesOpening events (opening_line events) time figure.cents figure.lo figure.hi figure.certificate
IsLawfulOpening events (Refused reason) = RefusesOpening events (opening_reason reason)
IsLawfulOpening events (UndecidedForward strike lo hi) = LeavesOpeningForward events strike lo hi
IsLawfulOpening events (UndecidedCents lo hi) = LeavesOpeningCents events lo hi

-- the answer to the opening of lawful events is lawful
abbrev pub OpeningAnswerIsLawful : Type 0
OpeningAnswerIsLawful = (events : List Event) (answer : OpeningAnswer) →
    AreLawful events → IsOpeningAnswer events answer → IsLawfulOpening events answer
