-- What a run ends in.
use Rattle.std.specs.Prelude.{ℕ, Bool, true, false, Option, Some, None, Result, Ok, Err}
use Rattle.vx_desk.specs.declared.device.Slot.TheVariants as slot
use Rattle.vx_settle.specs.declared.fault.PositionFault.TheVariants as position
use Rattle.vx_reading.specs.declared.stop.FeedStop.{FeedStop}
use Rattle.vx_reading.specs.declared.stop.FeedStop.TheVariants as stop
use Rattle.vx_desk.specs.Calls.{Calls, open_call, read_call, write_call}
use Rattle.vx_reading.specs.Stops.{IsCause}
use Rattle.vx_drivers.specs.declared.exit.Exit.{Exit}
use Rattle.vx_drivers.specs.declared.exit.Exit.TheVariants.{Done, SaidNo, Usage, BadFeed, OpenFault, ReadFault, WriteFault, NoMemory, BadPositions, BadCerts}
use Rattle.vx_drivers.specs.declared.exit.PositionCause.TheVariants.{Fault}

-- the status of each exit, in their order
abbrev pub status_of : Exit → ℕ
status_of Done = 0
status_of (SaidNo count) = 1
status_of Usage = 2
status_of (BadFeed line cause) = 3
status_of (OpenFault slot) = 4
status_of (ReadFault slot) = 5
status_of (WriteFault slot) = 6
status_of NoMemory = 7
status_of (BadPositions line cause) = 8
status_of (BadCerts line cause) = 9

-- want of memory is an exit of its own and stands inside no cause
abbrev pub IsWithoutNoMemory : Exit → Type 0
IsWithoutNoMemory (BadFeed line cause) = IsCause cause
IsWithoutNoMemory (BadPositions line (Fault position.NoMemory)) = ⊥
IsWithoutNoMemory _ = Unit {0}

-- the exit of a run whose feed is not read on
abbrev pub exit_of_stop : FeedStop → Exit
exit_of_stop (stop.BadLine line cause) = BadFeed line cause
exit_of_stop stop.Device = ReadFault slot.Feed
exit_of_stop stop.NoMemory = NoMemory

-- the calls of which a device fault says that one failed
abbrev pub exit_calls : Exit → Option Calls
exit_calls (OpenFault slot) = Some (record { slot = slot; kind = open_call })
exit_calls (ReadFault slot) = Some (record { slot = slot; kind = read_call })
exit_calls (WriteFault slot) = Some (record { slot = slot; kind = write_call })
exit_calls _ = None

-- the same of a step that may end the run
abbrev pub calls_in : {T : Type 0} → Result T Exit → Option Calls
calls_in (Ok _) = None
calls_in (Err exit) = exit_calls exit

-- a failed call or want of memory cut the run off
abbrev pub is_cut : Exit → Bool
is_cut (OpenFault slot) = true
is_cut (ReadFault slot) = true
is_cut (WriteFault slot) = true
is_cut NoMemory = true
is_cut _ = false

-- a write failed, so that a part of a text may have been sent
abbrev pub is_write_fault : Exit → Bool
is_write_fault (WriteFault slot) = true
is_write_fault _ = false
