-- The answer to the opening. It depends on the events alone. This project's own; which prices count at the opening, the feed's
-- definitions say.
use Rattle.std.specs.Prelude.{◌≡◌, ℕ, List, Some, None, IsSome}
use Rattle.vx_clock.specs.declared.days.DayNo.{DayNo}
use Rattle.vx_feed.specs.declared.events.Event.{Event}
use Rattle.vx_feed.specs.Listed.{trade_date}
use Rattle.vx_feed.specs.Opening.{opening_time, opening_line}
use Rattle.vx_formula.specs.Term.{TermFacts}
use Rattle.vx_claims.specs.declared.limits.TheConstants.{SCALE}
use Rattle.vx_claims.specs.Seen.{opening_expiry, opening_term_of, opening_facts}
use Rattle.vx_term.specs.declared.answer.TermAnswer.{TermAnswer}
use Rattle.vx_term.specs.Answer.{IsTermAnswer}
use Rattle.vx_soq.specs.declared.answer.OpeningAnswer.{OpeningAnswer}
use Rattle.vx_soq.specs.declared.answer.OpeningAnswer.TheVariants.{Refused}
use Rattle.vx_soq.specs.declared.answer.SoqReason.TheVariants.{NoOpening, NoTerm}
use Rattle.vx_soq.specs.Figures.{IsAnswerByTerm}

-- the opening was taken, on this day and at this minute
pub record IsTaken (events : List Event) (day : DayNo) (time : ℕ) : Type 0 where
  pub day_is : trade_date events ≡ Some day
  pub time_is : opening_time events ≡ Some time

-- it was taken, and no expiry declared before it is the SPX one 30 days after the trade date
pub record HasNoTerm (events : List Event) : Type 0 where
  pub is_taken : IsSome (opening_time events)
  pub no_term : (opening_facts events).term ≡ None

-- its term was declared before it, and the answer is that of the term's
pub record IsAnswerOfTerm (events : List Event) (answer : OpeningAnswer) : Type 0 where
  pub day : DayNo
  pub time : ℕ
  pub is_taken : IsTaken events day time
  pub facts : TermFacts
  pub facts_are : opening_term_of events day ≡ Some facts
  pub term_answer : TermAnswer SCALE
  pub is_term_answer : IsTermAnswer SCALE (opening_expiry day) facts term_answer
  pub joined : IsAnswerByTerm (opening_line events) time term_answer answer

-- the answer to the opening of a feed
abbrev pub IsOpeningAnswer : List Event → OpeningAnswer → Type 0
IsOpeningAnswer events (Refused NoOpening) = opening_time events ≡ None
IsOpeningAnswer events (Refused NoTerm) = HasNoTerm events
IsOpeningAnswer events answer = IsAnswerOfTerm events answer
