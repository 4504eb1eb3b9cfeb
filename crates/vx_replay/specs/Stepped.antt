-- What an event is answered. This project's own.
use Rattle.std.specs.Prelude.{◌≡◌, ℕ, ◌+◌, List, [], ◌∷◌, ◌++◌, length, Option, Some, None}
use Rattle.vx_clock.specs.declared.limits.TheConstants.{INDEX_DAYS, INDEX_WINDOW}
use Rattle.vx_feed.specs.declared.events.Event.{Event}
use Rattle.vx_feed.specs.declared.events.Event.TheVariants as event
use Rattle.vx_replay.specs.declared.answer.TickAnswer.{TickAnswer}
use Rattle.vx_replay.specs.Joinable.{CanBeWritten}
use Rattle.vx_replay.specs.Ticks.{IsIndexAnswer}
use Rattle.vx_replay.specs.Lawful.{IsLawfulAnswer}

-- the answer to a tick at a minute of the day that comes after these events: the tick function's, and a lawful one; its
-- certificate can be written
pub record IsAnswerNext (events : List Event) (time : ℕ) (answer : TickAnswer) : Type 0 where
  pub is_index : IsIndexAnswer (events ++ event.Tick time ∷ []) (length events + 1) time answer
  pub is_lawful : IsLawfulAnswer INDEX_DAYS INDEX_WINDOW (events ++ event.Tick time ∷ []) (length events + 1) time answer
  pub in_range : CanBeWritten answer

-- what is answered to an event that comes after these events: nothing just where it is no tick
abbrev pub IsStepAnswer : List Event → Event → Option TickAnswer → Type 0
IsStepAnswer events (event.Tick time) None = ⊥
IsStepAnswer events (event.Tick time) (Some answer) = IsAnswerNext events time answer
IsStepAnswer events e answer = answer ≡ None
