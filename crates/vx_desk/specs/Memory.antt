-- The desk in memory: its files, and what each call makes of its slots.
use Rattle.std.specs.Prelude.{◌≡◌, ◌≢◌, ℕ, Bool, true, false, List, [], ◌∷◌, ◌++◌, take, drop, Option, None, Some, is_some, unwrap_or, if◌then◌else◌, Result, Ok, Err}
use Rattle.std.specs.Str.{bytes_eq}
use Rattle.vx_desk.specs.declared.device.Slot.{Slot}
use Rattle.vx_desk.specs.declared.device.Slot.TheVariants.{Feed, Side, Out, Certs}
use Rattle.vx_desk.specs.declared.device.Failed.{Failed}
use Rattle.vx_desk.specs.declared.failures.Failures.{Failures}
use Rattle.vx_desk.specs.Told.{Told}
use Rattle.vx_desk.specs.Failures.{no_failures, raised}

-- a slot that is read: the name it was opened with, if it is open, and what is left in it
pub record SlotRead : Type 0 where
  pub opened : Option (List ℕ)
  pub left : List ℕ
  pub failures : Failures

-- a slot that is written: the name it was opened with, if it was opened, and what was sent to it
pub record SlotWritten : Type 0 where
  pub opened : Option (List ℕ)
  pub sent : List ℕ
  pub failures : Failures

-- what contracts see of a desk in memory
pub record Memory : Type 0 where
  -- how many bytes each slot that is written holds
  pub room : ℕ
  -- how many bytes one call moves
  pub most : ℕ
  -- the numbers of the calls that fail, and how many calls there were
  pub fails : List ℕ
  pub calls : ℕ
  -- each file's name and bytes
  pub files : List (List ℕ × List ℕ)
  pub feed : SlotRead
  pub side : SlotRead
  pub out : SlotWritten
  pub certs : SlotWritten

-- the bytes of the file with a name
abbrev pub held : List (List ℕ × List ℕ) → List ℕ → Option (List ℕ)
held [] name = None
held (file ∷ files) name = if bytes_eq file.0 name then Some file.1 else held files name

-- what is told of a slot that is read: all of it
abbrev pub told_read : SlotRead → Told
told_read slot = record {
  left = Some slot.left;
  sent = Some [];
  is_open = is_some slot.opened;
  name = slot.opened;
  failed_opens = slot.failures.opens;
  failed_reads = slot.failures.reads;
  failed_writes = slot.failures.writes;
}

-- what is told of a slot that is written: all of it
abbrev pub told_written : Bool → SlotWritten → Told
told_written is_open slot = record {
  left = Some [];
  sent = Some slot.sent;
  is_open = is_open;
  name = slot.opened;
  failed_opens = slot.failures.opens;
  failed_reads = slot.failures.reads;
  failed_writes = slot.failures.writes;
}

-- what the desk tells of each slot; the output is open
abbrev pub told_memory : Memory → Slot → Told
told_memory desk Feed = told_read desk.feed
told_memory desk Side = told_read desk.side
told_memory desk Out = told_written true desk.out
told_memory desk Certs = told_written (is_some desk.certs.opened) desk.certs

-- a new desk: no file, nothing opened but the output, nothing sent, nothing failed
abbrev pub new_memory : ℕ → ℕ → List ℕ → Memory
new_memory room most fails = record {
  room = room;
  most = most;
  fails = fails;
  calls = 0;
  files = [];
  feed = record { opened = None; left = []; failures = no_failures };
  side = record { opened = None; left = []; failures = no_failures };
  out = record { opened = None; sent = []; failures = no_failures };
  certs = record { opened = None; sent = []; failures = no_failures };
}

-- no name but this one holds other bytes than it did
abbrev pub ChangesOnlyFile : List ℕ → List (List ℕ × List ℕ) → List (List ℕ × List ℕ) → Type 0
ChangesOnlyFile name old new = (other : List ℕ) → other ≢ name → held new other ≡ held old other

-- the file is there with these bytes, and the others are as they were
pub record AddsFile (old new : Memory) (name bytes : List ℕ) : Type 0 where
  pub added : held new.files name ≡ Some bytes
  pub others : ChangesOnlyFile name old.files new.files
  pub rest : new ≡ record old { files = new.files }

-- the number of the next call; it stops at the last value of 64 bits
abbrev pub next_call : Memory → ℕ
next_call desk = raised desk.calls

-- what is left in a slot; nothing in one that is written
abbrev pub left_in : Memory → Slot → List ℕ
left_in desk Feed = desk.feed.left
left_in desk Side = desk.side.left
left_in desk Out = []
left_in desk Certs = []

-- what was sent to a slot; nothing to one that is read
abbrev pub sent_to : Memory → Slot → List ℕ
sent_to desk Feed = []
sent_to desk Side = []
sent_to desk Out = desk.out.sent
sent_to desk Certs = desk.certs.sent

-- the counts after an open that failed
abbrev pub open_failed : Failures → Failures
open_failed failures = record failures { opens = raised failures.opens }

-- the counts after a read that failed
abbrev pub read_failed : Failures → Failures
read_failed failures = record failures { reads = raised failures.reads }

-- the counts after a write that failed
abbrev pub write_failed : Failures → Failures
write_failed failures = record failures { writes = raised failures.writes }

-- a slot that is read after `open` of it
abbrev pub opens_to_read : List ℕ → Option (List ℕ) → Bool → SlotRead → SlotRead
opens_to_read name bytes true slot = record slot { opened = Some name; left = unwrap_or bytes [] }
opens_to_read name bytes false slot = record slot { failures = open_failed slot.failures }

-- a slot that is written after `open` of it
abbrev pub opens_to_write : List ℕ → Bool → SlotWritten → SlotWritten
opens_to_write name true slot = record slot { opened = Some name; sent = [] }
opens_to_write name false slot = record slot { failures = open_failed slot.failures }

-- the desk after `open`, by whether it succeeded
abbrev pub after_open : Memory → Slot → List ℕ → Bool → Memory
after_open desk Feed name done = record desk { calls = next_call desk; feed = opens_to_read name (held desk.files name) done desk.feed }
after_open desk Side name done = record desk { calls = next_call desk; side = opens_to_read name (held desk.files name) done desk.side }
after_open desk Out name done = desk
after_open desk Certs name done = record desk { calls = next_call desk; certs = opens_to_write name done desk.certs }

-- a slot after `read` of it
abbrev pub reads_from : Result ℕ Failed → SlotRead → SlotRead
reads_from (Ok n) slot = record slot { left = drop n slot.left }
reads_from (Err _) slot = record slot { failures = read_failed slot.failures }

-- the desk after `read`
abbrev pub after_read : Memory → Slot → Result ℕ Failed → Memory
after_read desk Feed result = record desk { calls = next_call desk; feed = reads_from result desk.feed }
after_read desk Side result = record desk { calls = next_call desk; side = reads_from result desk.side }
after_read desk Out result = desk
after_read desk Certs result = desk

-- the buffer after `read`: the first bytes that were left, and what it had behind them
abbrev pub buffer_after : List ℕ → List ℕ → Result ℕ Failed → List ℕ
buffer_after left buf (Ok n) = take n left ++ drop n buf
buffer_after left buf (Err _) = buf

-- a slot after `write` of a piece to it
abbrev pub writes_to : List ℕ → Result ℕ Failed → SlotWritten → SlotWritten
writes_to bytes (Ok n) slot = record slot { sent = slot.sent ++ take n bytes }
writes_to bytes (Err _) slot = record slot { failures = write_failed slot.failures }

-- the desk after `write`
abbrev pub after_write : Memory → Slot → List ℕ → Result ℕ Failed → Memory
after_write desk Feed bytes result = desk
after_write desk Side bytes result = desk
after_write desk Out bytes result = record desk { calls = next_call desk; out = writes_to bytes result desk.out }
after_write desk Certs bytes result = record desk { calls = next_call desk; certs = writes_to bytes result desk.certs }

-- the bytes that each name holds
abbrev pub held_by : Memory → List ℕ → Option (List ℕ)
held_by desk = held desk.files
