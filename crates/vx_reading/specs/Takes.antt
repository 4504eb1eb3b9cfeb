-- What takes up the events of a feed.
use Rattle.std.specs.Prelude.{List, [], ◌∷◌, ◌++◌, Result, OnErr, OnOk}
use Rattle.vx_num.specs.declared.fault.NoMemory.{NoMemory}
use Rattle.vx_feed.specs.declared.events.Event.{Event}
use Rattle.vx_feed.specs.Order.{IsLawfulNext}

-- the event may come next after a list of events for which this stands
abbrev pub MayTakeUp : {T : Type 0} → (T → List Event → Type 0) → T → Event → Type 0
MayTakeUp StandsFor old event = (events : List Event) × StandsFor old events × IsLawfulNext events event

-- one more event is taken up by what stands for lists of events, where it may come next
abbrev pub TakesUp : {T : Type 0} → (T → List Event → Type 0) → T → Event → T → Result Unit NoMemory → Type 0
TakesUp StandsFor old event new result =
    (events : List Event) → StandsFor old events → IsLawfulNext events event
    → OnOk result (StandsFor new (events ++ event ∷ []))

-- where memory was wanting it stands for what it stood for
abbrev pub KeepsStanding : {T : Type 0} → (T → List Event → Type 0) → T → T → Result Unit NoMemory → Type 0
KeepsStanding StandsFor old new result = (events : List Event) → StandsFor old events → OnErr result (StandsFor new events)
