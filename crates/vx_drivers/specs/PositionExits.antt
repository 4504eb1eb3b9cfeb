-- The exits of a run that settles positions.
use Rattle.vx_desk.specs.declared.device.Slot.TheVariants.{Feed, Side, Out, Certs}
use Rattle.vx_settle.specs.declared.fault.PositionFault.{PositionFault}
use Rattle.vx_settle.specs.declared.fault.PositionFault.TheVariants as fault
use Rattle.vx_reading.specs.Stops.{IsCause}
use Rattle.vx_drivers.specs.declared.exit.Exit.{Exit}
use Rattle.vx_drivers.specs.declared.exit.Exit.TheVariants.{Done, BadFeed, ReadFault, WriteFault, NoMemory, BadPositions}
use Rattle.vx_drivers.specs.declared.exit.PositionCause.{PositionCause}
use Rattle.vx_drivers.specs.declared.exit.PositionCause.TheVariants.{Fault}

-- want of memory is no fault of a line
abbrev pub IsLineFault : PositionFault → Type 0
IsLineFault fault.NoMemory = ⊥
IsLineFault _ = Unit {0}

abbrev pub IsPositionCause : PositionCause → Type 0
IsPositionCause (Fault fault) = IsLineFault fault
IsPositionCause _ = Unit {0}

-- over slots that are open such a run reads the feed and the positions, writes the output and the file of certificates,
-- and names no want of memory as a cause
abbrev pub IsPositionExit : Exit → Type 0
IsPositionExit Done = Unit {0}
IsPositionExit (BadFeed line cause) = IsCause cause
IsPositionExit (ReadFault Feed) = Unit {0}
IsPositionExit (ReadFault Side) = Unit {0}
IsPositionExit (WriteFault Out) = Unit {0}
IsPositionExit (WriteFault Certs) = Unit {0}
IsPositionExit NoMemory = Unit {0}
IsPositionExit (BadPositions line cause) = IsPositionCause cause
IsPositionExit _ = ⊥
