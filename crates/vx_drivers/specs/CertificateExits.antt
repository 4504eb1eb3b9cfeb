-- The exits of a run that answers certificates.
use Rattle.std.specs.Prelude.{◌≤◌}
use Rattle.vx_desk.specs.declared.device.Slot.TheVariants.{Feed, Side, Out}
use Rattle.vx_reading.specs.Stops.{IsCause}
use Rattle.vx_drivers.specs.declared.exit.Exit.{Exit}
use Rattle.vx_drivers.specs.declared.exit.Exit.TheVariants.{Done, SaidNo, BadFeed, ReadFault, WriteFault, NoMemory, BadCerts}

-- over slots that are open such a run says no to one line at least where it says how many, names no want of memory as a
-- cause, reads the feed and the certificates, and writes the output
abbrev pub IsCertificateExit : Exit → Type 0
IsCertificateExit Done = Unit {0}
IsCertificateExit (SaidNo count) = 1 ≤ count
IsCertificateExit (BadFeed line cause) = IsCause cause
IsCertificateExit (ReadFault Feed) = Unit {0}
IsCertificateExit (ReadFault Side) = Unit {0}
IsCertificateExit (WriteFault Out) = Unit {0}
IsCertificateExit NoMemory = Unit {0}
IsCertificateExit (BadCerts line cause) = Unit {0}
IsCertificateExit _ = ⊥
