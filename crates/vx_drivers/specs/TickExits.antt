-- The exits of a run that answers ticks.
use Rattle.vx_desk.specs.declared.device.Slot.TheVariants.{Feed, Out, Certs}
use Rattle.vx_reading.specs.Stops.{IsCause}
use Rattle.vx_drivers.specs.declared.exit.Exit.{Exit}
use Rattle.vx_drivers.specs.declared.exit.Exit.TheVariants.{Done, BadFeed, ReadFault, WriteFault, NoMemory}

-- over slots that are open such a run reads the feed, writes the output and the file of certificates, and names no want
-- of memory as a cause
abbrev pub IsTickExit : Exit → Type 0
IsTickExit Done = Unit {0}
IsTickExit (BadFeed line cause) = IsCause cause
IsTickExit (ReadFault Feed) = Unit {0}
IsTickExit (WriteFault Out) = Unit {0}
IsTickExit (WriteFault Certs) = Unit {0}
IsTickExit NoMemory = Unit {0}
IsTickExit _ = ⊥
