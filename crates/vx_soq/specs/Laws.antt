-- The laws of the answer to the opening.
use Rattle.std.specs.Prelude.{◌≡◌, List, ◌++◌, IsSome}
use Rattle.vx_feed.specs.declared.events.Event.{Event}
use Rattle.vx_feed.specs.Opening.{opening_time}
use Rattle.vx_feed.specs.Order.{AreLawful}
use Rattle.vx_soq.specs.declared.answer.OpeningAnswer.{OpeningAnswer}
use Rattle.vx_soq.specs.Openings.{IsOpeningAnswer}

-- whatever the events, the opening has at most one answer
abbrev pub OpeningAnswerIsOne : Type 0
OpeningAnswerIsOne = (events : List Event) (a b : OpeningAnswer) → IsOpeningAnswer events a → IsOpeningAnswer events b → a ≡ b

-- nothing that comes after the opening changes its answer
abbrev pub OpeningAnswerStays : Type 0
OpeningAnswerStays = (events more : List Event) (answer : OpeningAnswer) →
    AreLawful (events ++ more) → IsSome (opening_time events) → IsOpeningAnswer events answer →
    IsOpeningAnswer (events ++ more) answer
