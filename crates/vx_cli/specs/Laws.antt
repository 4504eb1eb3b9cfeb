-- The laws of what the commands write: each text is a function of what is read, and `drill` leaves no tick out.
use Rattle.std.specs.Prelude.{◌≡◌, ℕ, List, length}
use Rattle.vx_drivers.specs.declared.exit.Exit.{Exit}
use Rattle.vx_drivers.specs.Sending.{Text}
use Rattle.vx_cli.specs.CheckRuns.{Checks}
use Rattle.vx_cli.specs.ReplayRuns.{Replays}
use Rattle.vx_cli.specs.SettleRuns.{Settles}
use Rattle.vx_cli.specs.DrillText.{Drills}

-- over a feed and a file of certificates `check` has at most one exit and one text
abbrev pub CheckIsOne : Type 0
CheckIsOne = (feed certs : List ℕ) (exit other : Exit) (text other_text : Text) →
    Checks feed certs exit text → Checks feed certs other other_text → (exit ≡ other) × (text ≡ other_text)

-- over a feed `replay` has at most one exit, one output and one file of certificates
abbrev pub ReplayIsOne : Type 0
ReplayIsOne = (feed : List ℕ) (exit other : Exit) (out certs other_out other_certs : Text) →
    Replays feed exit out certs → Replays feed other other_out other_certs → (exit ≡ other) × (out ≡ other_out) × (certs ≡ other_certs)

-- over a feed and a file of positions `settle` has at most one exit, one output and one file of certificates
abbrev pub SettleIsOne : Type 0
SettleIsOne = (feed positions : List ℕ) (exit other : Exit) (out certs other_out other_certs : Text) →
    Settles feed positions exit out certs → Settles feed positions other other_out other_certs →
    (exit ≡ other) × (out ≡ other_out) × (certs ≡ other_certs)

-- a number and a count of ticks have at most one output of `drill`
abbrev pub DrillIsOne : Type 0
DrillIsOne = (number ticks : ℕ) (out other_out : Text) → Drills number ticks out → Drills number ticks other_out → out ≡ other_out

-- it has as many answers as ticks were asked for
abbrev pub DrillAnswersEveryTick : Type 0
DrillAnswersEveryTick = (number ticks : ℕ) (out : Text) (h : Drills number ticks out) → length h.answers ≡ ticks
