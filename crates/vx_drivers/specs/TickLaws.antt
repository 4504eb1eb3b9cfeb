-- Laws of the run that answers ticks: over a feed there is one at most, and one where each event is given something.
use Rattle.std.specs.Prelude.{◌≡◌, List, [], ◌∷◌, ◌++◌, Option}
use Rattle.vx_feed.specs.declared.events.Event.{Event}
use Rattle.vx_feed.specs.Feed.{Reading}
use Rattle.vx_drivers.specs.declared.exit.Exit.{Exit}
use Rattle.vx_drivers.specs.Sending.{Text}
use Rattle.vx_drivers.specs.TickRun.{TickRules, RunsTicks}

-- two runs over a feed have the same exit, and send the same texts
abbrev pub TickRunIsOne : {A : Type 0} → TickRules A → Type 0
TickRunIsOne rules =
    (feed : Reading) (exit other : Exit) (out certs out_other certs_other : Text)
    → RunsTicks rules feed exit out certs → RunsTicks rules feed other out_other certs_other
    → (exit ≡ other) × (out ≡ out_other) × (certs ≡ certs_other)

-- every event of a feed is given something, with those before it
abbrev pub GivesEach : {A : Type 0} → TickRules A → List Event → Type 0
GivesEach {A} rules events =
    (before : List Event) (event : Event) (after : List Event) → events ≡ before ++ event ∷ after
    → (said : Option A) × rules.IsGiven (before ++ event ∷ []) said

-- over such a feed there is a run
abbrev pub TickRunIsThere : {A : Type 0} → TickRules A → Type 0
TickRunIsThere rules =
    (feed : Reading) → GivesEach rules feed.events
    → (exit : Exit) × (out : Text) × (certs : Text) × RunsTicks rules feed exit out certs
