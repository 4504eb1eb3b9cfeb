-- The laws of the answer to a tick.
use Rattle.std.specs.Prelude.{◌≡◌, ℕ, List}
use Rattle.vx_clock.specs.declared.terms.Expiry.{Expiry}
use Rattle.vx_clock.specs.declared.terms.Moment.{Moment}
use Rattle.vx_clock.specs.Terms.{IsNearTerm, IsNextTerm}
use Rattle.vx_feed.specs.declared.events.Event.{Event}
use Rattle.vx_feed.specs.Listed.{declared_expiries}
use Rattle.vx_feed.specs.Order.{AreLawful}
use Rattle.vx_claims.specs.declared.limits.TheConstants.{SCALE}
use Rattle.vx_term.specs.declared.answer.TermAnswer.{TermAnswer}
use Rattle.vx_term.specs.Ranges.{AreDaysInRange}
use Rattle.vx_accepted.specs.Picked.{IsWindowInRange}
use Rattle.vx_replay.specs.declared.answer.TickAnswer.{TickAnswer}
use Rattle.vx_replay.specs.Joinable.{AreJoinable}
use Rattle.vx_replay.specs.Ticks.{IsAnswerFor, IsTickAnswer}

-- whatever the events, a tick has at most one answer, for so many days within a window
abbrev pub TickAnswerIsOne : Type 0
TickAnswerIsOne = (days window : ℕ) (events : List Event) (line time : ℕ) (a b : TickAnswer) →
    IsTickAnswer days window events line time a → IsTickAnswer days window events line time b → a ≡ b

-- the answers for the two terms that are picked of lawful events can be joined, for 7 to 120 days within a window of at most 35
abbrev pub PickedAnswersAreJoinable : Type 0
PickedAnswersAreJoinable = (days window : ℕ) (events : List Event) (now : Moment) (x y : Expiry) (near next : TermAnswer SCALE) →
    AreDaysInRange days → IsWindowInRange window → AreLawful events →
    IsNearTerm now.day days window (declared_expiries events) x → IsNextTerm now.day days window (declared_expiries events) y →
    IsAnswerFor events now x near → IsAnswerFor events now y next → AreJoinable SCALE days near next
