-- A replay stands for a list of events. This project's own.
use Rattle.std.specs.Prelude.{◌≡◌, ℕ, ◌<◌, List, [], ◌∷◌, ◌++◌, length}
use Rattle.vx_feed.specs.declared.events.Event.{Event}
use Rattle.vx_feed.specs.Listed.{declared_expiries}
use Rattle.vx_feed.specs.Order.{IsLawfulNext, AreLawful}
use Rattle.vx_book.specs.StandsFor.{BookStandsFor}
use Rattle.vx_replay.specs.declared.replay.Replay.{Replay}

-- the events are lawful, the book stands for them, and a strip is kept for each declared expiry; what the strips hold is no part of it
pub record ReplayStandsFor (replay : Replay) (events : List Event) : Type 0 where
  pub lawful : AreLawful events
  pub book : BookStandsFor replay.book events
  pub strips : length replay.kept.items ≡ length (declared_expiries events)

-- the event is lawful next after a list of events for which the replay stands
abbrev pub MayStep : Replay → Event → Type 0
MayStep replay e = (events : List Event) × ReplayStandsFor replay events × IsLawfulNext events e

-- of every such list Q holds
abbrev pub OfEvents : Replay → Event → (List Event → Type 0) → Type 0
OfEvents replay e Q = (events : List Event) → ReplayStandsFor replay events → IsLawfulNext events e → Q events

-- the new replay stands for the events with this one at their end
abbrev pub Steps : Replay → Event → Replay → Type 0
Steps old e new = OfEvents old e (λ events. ReplayStandsFor new (events ++ e ∷ []))

-- the new replay stands for the same events
abbrev pub ReplayStandsStill : Replay → Replay → Type 0
ReplayStandsStill old new = (events : List Event) → ReplayStandsFor old events → ReplayStandsFor new events

-- there is an expiry at this place in order of declaration, from 0
abbrev pub HasPlace : Replay → ℕ → Type 0
HasPlace replay i = (events : List Event) × ReplayStandsFor replay events × (i < length (declared_expiries events))
