-- Why lines are not read on.
use Rattle.std.specs.Prelude.{Option, Some, None, Result, Ok, Err}
use Rattle.vx_desk.specs.declared.device.Slot.{Slot}
use Rattle.vx_desk.specs.Calls.{Calls, read_call}
use Rattle.vx_blocks.specs.declared.stop.ReadStop.{ReadStop}
use Rattle.vx_blocks.specs.declared.stop.ReadStop.TheVariants.{Device, NoMemory}

-- the stop is no fault of the device
abbrev pub IsNoFault : ReadStop → Type 0
IsNoFault Device = ⊥
IsNoFault NoMemory = Unit {0}

-- a fact that holds where the device failed
abbrev pub OnFault : {T : Type 0} → Result T ReadStop → Type 0 → Type 0
OnFault (Ok _) P = Unit {0}
OnFault (Err Device) P = P
OnFault (Err NoMemory) P = Unit {0}

-- a fact that holds where a step succeeds or the device failed
abbrev pub OnOkOrFault : {T : Type 0} → Result T ReadStop → Type 0 → Type 0
OnOkOrFault (Ok _) P = P
OnOkOrFault (Err Device) P = P
OnOkOrFault (Err NoMemory) P = Unit {0}

-- the calls of a slot of which a stop says that one failed
abbrev pub stop_calls : Slot → ReadStop → Option Calls
stop_calls slot Device = Some (record { slot = slot; kind = read_call })
stop_calls slot NoMemory = None

-- the same of a step that may stop
abbrev pub failed_in : {T : Type 0} → Slot → Result T ReadStop → Option Calls
failed_in slot (Ok _) = None
failed_in slot (Err stop) = stop_calls slot stop
