-- What a desk tells that has a feed's text in memory.
use Rattle.std.specs.Prelude.{ℕ, Bool, true, false, List, [], Some, None}
use Rattle.vx_desk.specs.Told.{LAST_COUNT, Told}
use Rattle.vx_desk.specs.declared.device.Slot.{Slot}
use Rattle.vx_desk.specs.declared.device.Slot.TheVariants.{Feed, Certs}

-- the bytes that are left in a slot: only Feed has any
abbrev pub left_of_text : List ℕ → Slot → List ℕ
left_of_text text Feed = text
left_of_text text _ = []

-- all slots are open but Certs
abbrev pub is_open_in : Slot → Bool
is_open_in Certs = false
is_open_in _ = true

-- what is sent is not told; no read and no write fails, and every open does, so that their count stands at its last value
abbrev pub told_text : List ℕ → Slot → Told
told_text text slot = record {
  left = Some (left_of_text text slot);
  sent = None;
  is_open = is_open_in slot;
  name = None;
  failed_opens = LAST_COUNT;
  failed_reads = 0;
  failed_writes = 0;
}
