-- What a run sends, and what is left of it where a call fails.
use Rattle.std.specs.Prelude.{◌≡◌, ℕ, ◌<◌, List, ◌++◌, length, take, Option, Result, Ok, Err}
use Rattle.std.specs.Io.KnownBytes.{append_known}
use Rattle.vx_desk.specs.Told.{IsOpened, SameContent, Told}
use Rattle.vx_desk.specs.declared.device.Slot.{Slot}
use Rattle.vx_drivers.specs.declared.exit.Exit.{Exit}
use Rattle.vx_drivers.specs.declared.exit.Exit.TheVariants.{OpenFault, WriteFault}

abbrev pub Text : Type 0
Text = List ℕ

-- a text begins with this part
abbrev pub Begins : Text → Text → Type 0
Begins part text = (rest : Text) × (text ≡ part ++ rest)

-- this text was sent to a slot
abbrev pub Sent : Text → Told → Told → Type 0
Sent text before after = after.sent ≡ append_known before.sent text

-- the first bytes of a text were sent to a slot, and not all of them
pub record SentPart (text : Text) (before after : Told) : Type 0 where
  pub count : ℕ
  pub within : count < length text
  pub sent : Sent (take count text) before after

-- a write failed, and a first part of the text was sent
pub record CutsOff (slot : Slot) (text : Text) (before after : Told) (exit : Exit) : Type 0 where
  pub exit_is : exit ≡ WriteFault slot
  pub part : SentPart text before after

-- a text is sent to a slot, or a first part of it before a write fails
abbrev pub SendsOr : Slot → Text → Told → Told → Result Unit Exit → Type 0
SendsOr slot text before after (Ok _) = Sent text before after
SendsOr slot text before after (Err exit) = CutsOff slot text before after exit

-- a slot is opened with a name, or it stays as it was
abbrev pub OpensOr : Slot → Text → Option (List ℕ) → Told → Told → Result Unit Exit → Type 0
OpensOr slot name held before after (Ok _) = IsOpened slot name held before after
OpensOr slot name held before after (Err exit) = (exit ≡ OpenFault slot) × SameContent before after

-- the same of a desk, by what its names hold
abbrev pub OpensSlot : Slot → Text → (List ℕ → Option (List ℕ)) → (Slot → Told) → (Slot → Told) → Result Unit Exit → Type 0
OpensSlot slot name holds before after result = OpensOr slot name (holds name) (before slot) (after slot) result
