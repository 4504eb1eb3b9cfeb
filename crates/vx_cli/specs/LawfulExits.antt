-- How commands end over lawful input where no call of the device failed.
use Rattle.std.specs.Prelude.{◌≡◌, ℕ, ◌<◌, List, Option, Some, Ok, IsSome}
use Rattle.std.specs.List.{All}
use Rattle.vx_lines.specs.TextLines.{at_end}
use Rattle.vx_desk.specs.declared.device.Slot.{Slot}
use Rattle.vx_desk.specs.Told.{Told, LAST_COUNT}
use Rattle.vx_feed.specs.Feed.{IsLawfulFeed}
use Rattle.vx_settle.specs.declared.position.Position.{Position}
use Rattle.vx_settle.specs.Form.{position_of_line}
use Rattle.vx_desk.specs.Calls.{Calls, NoFailure, failures}
use Rattle.vx_drivers.specs.declared.exit.Exit.{Exit}
use Rattle.vx_drivers.specs.declared.exit.Exit.TheVariants.{Done, SaidNo, NoMemory, BadCerts}
use Rattle.vx_drivers.specs.PositionRun.{positions_of}
use Rattle.vx_drivers.specs.Sending.{Text}
use Rattle.vx_cli.specs.Words.{Command, check, drill, make, replay, settle}

-- no call failed: no count of failures rose, and none stood at its last value, from which it cannot rise
pub record CountsNoFailure (before after : Slot → Told) : Type 0 where
  pub none_rose : NoFailure before after
  pub may_rise : (calls : Calls) → failures calls before < LAST_COUNT

-- a name holds a text of this kind, and it is told
pub record HoldsText (held : Option (List ℕ)) (IsOfKind : Text → Type 0) : Type 0 where
  pub text : Text
  pub text_is : held ≡ Some text
  pub is_of_kind : IsOfKind text

-- each line is a position, and the text ends behind the last
pub record AreLawfulPositions (text : Text) : Type 0 where
  pub each : All (λ line. (p : Position) × (position_of_line line ≡ Ok p)) (positions_of text).lines
  pub ends : (positions_of text).ending ≡ at_end

-- all was done, or memory was wanting
abbrev pub IsDoneOrNoMemory : Exit → Type 0
IsDoneOrNoMemory Done = Unit {0}
IsDoneOrNoMemory NoMemory = Unit {0}
IsDoneOrNoMemory _ = ⊥

-- each certificate was answered, or a line of theirs is none that can be read, or memory was wanting
abbrev pub IsCheckedOrNoMemory : Exit → Type 0
IsCheckedOrNoMemory Done = Unit {0}
IsCheckedOrNoMemory (SaidNo count) = Unit {0}
IsCheckedOrNoMemory (BadCerts line cause) = Unit {0}
IsCheckedOrNoMemory NoMemory = Unit {0}
IsCheckedOrNoMemory _ = ⊥

-- over a lawful feed `replay` does all, and so does `settle` where the positions are lawful too; `check` ends for nothing
-- but its certificates; and `make` and `drill` do all over any numbers. Each may stop for want of memory
abbrev pub EndsLawfully : Command → (List ℕ → Option (List ℕ)) → Exit → Type 0
EndsLawfully (replay feed certs) holds exit = HoldsText (holds feed) IsLawfulFeed → IsDoneOrNoMemory exit
EndsLawfully (check feed certs) holds exit =
    HoldsText (holds feed) IsLawfulFeed → IsSome (holds certs) → IsCheckedOrNoMemory exit
EndsLawfully (settle feed positions certs) holds exit =
    HoldsText (holds feed) IsLawfulFeed → HoldsText (holds positions) AreLawfulPositions → IsDoneOrNoMemory exit
EndsLawfully (make number ticks) holds exit = IsDoneOrNoMemory exit
EndsLawfully (drill number ticks) holds exit = IsDoneOrNoMemory exit
