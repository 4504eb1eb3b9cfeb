-- The lines of positions, some of them read ahead and split into fields, to be taken one after another.
use Rattle.std.specs.Prelude.{◌≡◌, ℕ, Bool, true, false, List, Option, Some, None, Result, Ok, Err}
use Rattle.vx_desk.specs.declared.device.Slot.{Slot}
use Rattle.vx_desk.specs.declared.device.Slot.TheVariants.{Side}
use Rattle.vx_desk.specs.Told.{Told}
use Rattle.vx_settle.specs.Form.{fault_unsplit}
use Rattle.vx_blocks.specs.declared.split_lines.SplitLines.{SplitLines}
use Rattle.vx_blocks.specs.declared.split_lines.Rest.{Rest}
use Rattle.vx_blocks.specs.declared.split_lines.Rest.TheVariants.{Unsplit, TooLong, NoEol}
use Rattle.vx_blocks.specs.declared.stop.ReadStop.{ReadStop}
use Rattle.vx_blocks.specs.declared.stop.ReadStop.TheVariants as stop
use Rattle.vx_blocks.specs.SplitLines.{AreAhead}
use Rattle.vx_blocks.specs.Given.{HasGiven, IsCutAfter, WereRead}
use Rattle.vx_drivers.specs.declared.exit.Exit.{Exit}
use Rattle.vx_drivers.specs.declared.exit.Exit.TheVariants.{NoMemory, ReadFault}
use Rattle.vx_drivers.specs.declared.exit.PositionCause.{PositionCause}
use Rattle.vx_drivers.specs.declared.exit.PositionCause.TheVariants as cause
use Rattle.vx_drivers.specs.declared.limits.TheConstants.{POSITION_LINE_LEN_MAX}

-- the lines of positions are read
pub record IsPositionLines (p : SplitLines) : Type 0 where
  pub slot : p.lines.slot ≡ Side
  pub limit : p.lines.limit ≡ POSITION_LINE_LEN_MAX
  pub are_ahead : AreAhead p

-- the exit of a run whose positions are not read on
abbrev pub exit_of_read : ReadStop → Exit
exit_of_read stop.Device = ReadFault Side
exit_of_read stop.NoMemory = NoMemory

-- reading stops where these lines were read; at a failed read no more was read behind them than a part of a line
pub record StopsReading (lines : List (List ℕ)) (held : Option (List ℕ)) (now : Told) (exit : Exit) : Type 0 where
  pub were_read : WereRead lines held now
  pub cut : exit ≡ ReadFault Side → IsCutAfter lines POSITION_LINE_LEN_MAX held now

-- what was given of a file stays given, or reading stops behind it
abbrev pub GivesOn : List (List ℕ) → Option (List ℕ) → SplitLines → (Slot → Told) → Result Unit Exit → Type 0
GivesOn lines held p now (Ok _) = HasGiven lines held p now
GivesOn lines held p now (Err exit) = StopsReading lines held (now Side) exit

-- the positions are read on
abbrev pub ReadsPositionsOn : SplitLines → (Slot → Told) → SplitLines → (Slot → Told) → Result Unit Exit → Type 0
ReadsPositionsOn old before new after result =
    (lines : List (List ℕ)) (held : Option (List ℕ)) → HasGiven lines held old before → GivesOn lines held new after result

-- why the line behind those that were split is bad, by whether there are as many as there may be; nothing at the end
abbrev pub bad_behind : Rest → Bool → Option PositionCause
bad_behind (Unsplit why) true = Some cause.TooMany
bad_behind (Unsplit why) false = Some (cause.Fault (fault_unsplit why))
bad_behind TooLong is_full = Some cause.TooLong
bad_behind NoEol is_full = Some cause.NoEol
bad_behind _ is_full = None
