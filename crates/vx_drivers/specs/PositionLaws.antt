-- Laws of the run that settles positions: over a feed and lines of positions there is one at most, and one where the
-- opening has an answer and each line comes to something.
use Rattle.std.specs.Prelude.{◌≡◌, ℕ, List, Result}
use Rattle.vx_lines.specs.TextLines.{TextLines}
use Rattle.vx_feed.specs.declared.events.Event.{Event}
use Rattle.vx_feed.specs.Feed.{Reading}
use Rattle.vx_settle.specs.declared.fault.PositionFault.{PositionFault}
use Rattle.vx_drivers.specs.declared.exit.Exit.{Exit}
use Rattle.vx_drivers.specs.Sending.{Text}
use Rattle.vx_drivers.specs.PositionRun.{PositionRules, RunsPositions}

-- two runs over a feed and lines of positions have the same exit, and send the same texts
abbrev pub PositionRunIsOne : {A I : Type 0} → PositionRules A I → Type 0
PositionRunIsOne rules =
    (feed : Reading) (positions : TextLines) (exit other : Exit) (out certs out_other certs_other : Text)
    → RunsPositions rules feed positions exit out certs
    → RunsPositions rules feed positions other out_other certs_other
    → (exit ≡ other) × (out ≡ out_other) × (certs ≡ certs_other)

-- the opening of events has an answer, and every line of positions comes to something at it
pub record SettlesEach {A I : Type 0} (rules : PositionRules A I) (events : List Event) : Type 0 where
  pub opens : (answer : A) × rules.IsOpening events answer
  pub comes : (answer : A) (line : List ℕ) → rules.IsOpening events answer
      → (said : Result I PositionFault) × rules.ComesTo answer line said

-- over such a feed there is a run for any positions
abbrev pub PositionRunIsThere : {A I : Type 0} → PositionRules A I → Type 0
PositionRunIsThere rules =
    (feed : Reading) (positions : TextLines) → SettlesEach rules feed.events
    → (exit : Exit) × (out : Text) × (certs : Text) × RunsPositions rules feed positions exit out certs
