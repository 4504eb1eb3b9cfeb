-- One slot over a file of the system.
use Rattle.std.specs.Prelude.{is_some}
use Rattle.vx_desk.specs.declared.real.Device.{Device}
use Rattle.vx_desk.specs.Told.{Told}
use Rattle.vx_desk.specs.Untold.{untold}

-- what is told of a slot over a file: whether one is open, and what failed
abbrev pub told_device : {F : Type 0} → Device F → Told
told_device device = untold (is_some device.file) device.failures
