-- Failed calls of a desk, and what a step of a run does to the desk beside the content of its slots.
use Rattle.std.specs.Prelude.{◌≡◌, ◌≢◌, ℕ, Option, Some, None}
use Rattle.vx_desk.specs.Told.{Told, Rose}
use Rattle.vx_desk.specs.declared.device.Slot.{Slot}

-- the kinds of calls of a desk
pub data Kind : Type 0 where
  open_call : Kind
  read_call : Kind
  write_call : Kind

-- the calls of one kind on one slot, whose failures a desk counts together
pub record Calls : Type 0 where
  pub slot : Slot
  pub kind : Kind

abbrev pub failures_of : Kind → Told → ℕ
failures_of open_call told = told.failed_opens
failures_of read_call told = told.failed_reads
failures_of write_call told = told.failed_writes

-- how many of these calls failed
abbrev pub failures : Calls → (Slot → Told) → ℕ
failures calls told = failures_of calls.kind (told calls.slot)

-- no count of failures changed
abbrev pub NoFailure : (Slot → Told) → (Slot → Told) → Type 0
NoFailure before after = (calls : Calls) → failures calls after ≡ failures calls before

-- the count of these calls rose, and no other one changed
pub record OneFailure (failed : Calls) (before after : Slot → Told) : Type 0 where
  pub rose : Rose (failures failed before) (failures failed after)
  pub others : (calls : Calls) → calls ≢ failed → failures calls after ≡ failures calls before

-- one of the named calls failed, or none where none is named
abbrev pub Failures : Option Calls → (Slot → Told) → (Slot → Told) → Type 0
Failures None before after = NoFailure before after
Failures (Some failed) before after = OneFailure failed before after

-- the same slots are open, with the same names
pub record KeepsSlots (before after : Slot → Told) : Type 0 where
  pub is_open : (slot : Slot) → (after slot).is_open ≡ (before slot).is_open
  pub name : (slot : Slot) → (after slot).name ≡ (before slot).name

-- a step opens nothing, and of its calls the named ones failed, if any
pub record IsStep (failed : Option Calls) (before after : Slot → Told) : Type 0 where
  pub failures : Failures failed before after
  pub slots : KeepsSlots before after
