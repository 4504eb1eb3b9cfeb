-- The answer to a tick: the tick function. It depends on the events before the tick's line alone, on the line and on the minute. This
-- project's own.
use Rattle.std.specs.Prelude.{◌≡◌, ℕ, List, Some, None}
use Rattle.vx_clock.specs.declared.days.DayNo.{DayNo}
use Rattle.vx_clock.specs.declared.terms.Expiry.{Expiry}
use Rattle.vx_clock.specs.declared.terms.Moment.{Moment}
use Rattle.vx_clock.specs.declared.limits.TheConstants.{INDEX_DAYS, INDEX_WINDOW}
use Rattle.vx_clock.specs.Terms.{IsNearTerm, IsNextTerm}
use Rattle.vx_feed.specs.declared.events.Event.{Event}
use Rattle.vx_feed.specs.Listed.{trade_date, declared_expiries}
use Rattle.vx_claims.specs.declared.limits.TheConstants.{SCALE}
use Rattle.vx_claims.specs.Seen.{IsTickAt, events_before, moment_of, term_facts, AreNearFacts, AreNextFacts}
use Rattle.vx_term.specs.declared.answer.TermAnswer.{TermAnswer}
use Rattle.vx_term.specs.Answer.{IsTermAnswer}
use Rattle.vx_replay.specs.declared.answer.TickAnswer.{TickAnswer}
use Rattle.vx_replay.specs.declared.answer.TickAnswer.TheVariants.{Refused}
use Rattle.vx_replay.specs.declared.answer.Reason.TheVariants.{NoTerm}
use Rattle.vx_replay.specs.declared.answer.Which.TheVariants.{Near, Next}
use Rattle.vx_replay.specs.Joined.{IsJoined}

-- the answer for the term of an expiry after some events
abbrev pub IsAnswerFor : List Event → Moment → Expiry → TermAnswer SCALE → Type 0
IsAnswerFor events now x answer = IsTermAnswer SCALE x (term_facts events now x) answer

-- both terms are declared, and the answer is that of their two answers
pub record IsAnswerOfTerms (events : List Event) (now : Moment) (line days window : ℕ) (answer : TickAnswer) : Type 0 where
  pub near : Expiry
  pub is_near : IsNearTerm now.day days window (declared_expiries events) near
  pub next : Expiry
  pub is_next : IsNextTerm now.day days window (declared_expiries events) next
  pub near_answer : TermAnswer SCALE
  pub is_near_answer : IsAnswerFor events now near near_answer
  pub next_answer : TermAnswer SCALE
  pub is_next_answer : IsAnswerFor events now next next_answer
  pub joined : IsJoined line now.minute days near_answer next_answer answer

-- no near term is declared
abbrev pub HasNoNearTerm : List Event → Moment → ℕ → ℕ → Type 0
HasNoNearTerm events now days window = AreNearFacts events now days window None

-- a near term is declared, and no next one
abbrev pub HasNoNextTerm : List Event → Moment → ℕ → ℕ → Type 0
HasNoNextTerm events now days window =
    ((x : Expiry) × IsNearTerm now.day days window (declared_expiries events) x) × AreNextFacts events now days window None

-- the answer after some events at a moment, for a tick of this line, for so many days within a window
abbrev pub IsAnswerAfter : List Event → Moment → ℕ → ℕ → ℕ → TickAnswer → Type 0
IsAnswerAfter events now line days window (Refused NoTerm Near) = HasNoNearTerm events now days window
IsAnswerAfter events now line days window (Refused NoTerm Next) = HasNoNextTerm events now days window
IsAnswerAfter events now line days window answer = IsAnswerOfTerms events now line days window answer

-- the answer to the tick of a line
pub record IsTickAnswer (days window : ℕ) (events : List Event) (line time : ℕ) (answer : TickAnswer) : Type 0 where
  pub is_tick : IsTickAt events line time
  pub day : DayNo
  pub day_is : trade_date events ≡ Some day
  pub answered : IsAnswerAfter (events_before events line) (moment_of day time) line days window answer

-- the index is that of 30 days
abbrev pub IsIndexAnswer : List Event → ℕ → ℕ → TickAnswer → Type 0
IsIndexAnswer events line time answer = IsTickAnswer INDEX_DAYS INDEX_WINDOW events line time answer
