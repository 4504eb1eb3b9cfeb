-- What a desk tells of a slot, and what its calls do to it.
use Rattle.std.specs.Prelude.{false, ◌≡◌, ◌≢◌, ℕ, ◌+◌, ◌-◌, ◌^◌, ◌<◌, ◌≤◌, min, Bool, IsTrue, List, [], length, take, Option, IfSome, Result, Ok, IfOk, OnOk, OnErr, MatchResult}
use Rattle.std.specs.Option.{option_map}
use Rattle.std.specs.Io.KnownBytes.{prepend_known, append_known, IsAtEnd}
use Rattle.vx_desk.specs.declared.device.Slot.{Slot}
use Rattle.vx_desk.specs.declared.device.Slot.TheVariants.{Out}
use Rattle.vx_desk.specs.declared.device.Failed.{Failed}
use Rattle.vx_desk.specs.Slots.{IsReadingSlot, IsWritingSlot}

-- what a desk tells of one slot; `None` is content that it does not tell
pub record Told : Type 0 where
  -- the bytes that are left to read
  pub left : Option (List ℕ)
  -- the bytes that were sent since it was opened
  pub sent : Option (List ℕ)
  pub is_open : Bool
  -- the name with which it was opened
  pub name : Option (List ℕ)
  -- how many of its calls failed, of each kind
  pub failed_opens : ℕ
  pub failed_reads : ℕ
  pub failed_writes : ℕ

-- the greatest value of a count of failures, which is kept in 64 bits
abbrev pub LAST_COUNT : ℕ
LAST_COUNT = 2 ^ 64 - 1

-- a count went up, or stands at its last value; it never falls
pub record Rose (old new : ℕ) : Type 0 where
  pub kept : old ≤ new
  pub up : min (old + 1) LAST_COUNT ≤ new

-- a call that succeeds leaves the count of its failures, and a call that fails raises it
abbrev pub Counts : {T : Type 0} → Result T Failed → ℕ → ℕ → Type 0
Counts result old new = MatchResult result (λ _. new ≡ old) (λ _. Rose old new)

-- all slots but this one are as they were
abbrev pub ChangesOnly : Slot → (Slot → Told) → (Slot → Told) → Type 0
ChangesOnly slot old new = (other : Slot) → other ≢ slot → new other ≡ old other

-- the output is open
abbrev pub OutIsOpen : (Slot → Told) → Type 0
OutIsOpen told = IsTrue (told Out).is_open

-- what an open leaves in a slot that is read: just the bytes that the name holds, told where they are
abbrev pub LeavesHeld : Option (List ℕ) → Told → Type 0
LeavesHeld held new = new.left ≡ held

-- what an open leaves in a slot that is written: nothing sent, told where it was told what was sent
abbrev pub LeavesNothingSent : Told → Told → Type 0
LeavesNothingSent old new = new.sent ≡ option_map (λ bytes. []) old.sent

-- the slot is open with this name, and begins with what the name holds or with nothing sent
pub record IsOpened (slot : Slot) (opened_with : List ℕ) (held : Option (List ℕ)) (old new : Told) : Type 0 where
  pub open_now : IsTrue new.is_open
  pub name_given : IfSome new.name (λ bytes. bytes ≡ opened_with)
  pub to_read : IsReadingSlot slot → LeavesHeld held new × (new.sent ≡ old.sent)
  pub to_write : IsWritingSlot slot → LeavesNothingSent old new × (new.left ≡ old.left)

-- the content and the state of a slot are as they were
pub record SameContent (old new : Told) : Type 0 where
  pub left : new.left ≡ old.left
  pub sent : new.sent ≡ old.sent
  pub is_open : new.is_open ≡ old.is_open
  pub name : new.name ≡ old.name

-- what `open` of a slot does to it; `held` are the bytes that the name holds, where they are told
pub record Opens {T : Type 0} (slot : Slot) (opened_with : List ℕ) (held : Option (List ℕ)) (old new : Told) (result : Result T Failed) : Type 0 where
  pub done : OnOk result (IsOpened slot opened_with held old new)
  pub failed : OnErr result (SameContent old new)
  pub opens : Counts result old.failed_opens new.failed_opens
  pub reads : new.failed_reads ≡ old.failed_reads
  pub writes : new.failed_writes ≡ old.failed_writes

-- all that is told of a slot but what is left in it and its failed reads is as it was
pub record ChangesReads (old new : Told) : Type 0 where
  pub sent : new.sent ≡ old.sent
  pub is_open : new.is_open ≡ old.is_open
  pub name : new.name ≡ old.name
  pub opens : new.failed_opens ≡ old.failed_opens
  pub writes : new.failed_writes ≡ old.failed_writes

-- what `read` of a slot does to it; `buf` is the buffer as the call leaves it
pub record Reads (buf : List ℕ) (old new : Told) (result : Result ℕ Failed) : Type 0 where
  pub within : IfOk result (λ n. n ≤ length buf)
  -- the bytes that were left begin with those that were read, and a failed read takes none
  pub moved : MatchResult result (λ n. old.left ≡ prepend_known (take n buf) new.left) (λ _. new.left ≡ old.left)
  -- nothing is read only at the end, or with no room
  pub at_end : result ≡ Ok 0 → 0 < length buf → IsAtEnd old.left
  pub reads : Counts result old.failed_reads new.failed_reads
  pub rest : ChangesReads old new

-- all that is told of a slot but what was sent to it and its failed writes is as it was
pub record ChangesWrites (old new : Told) : Type 0 where
  pub left : new.left ≡ old.left
  pub is_open : new.is_open ≡ old.is_open
  pub name : new.name ≡ old.name
  pub opens : new.failed_opens ≡ old.failed_opens
  pub reads : new.failed_reads ≡ old.failed_reads

-- what `write` of a piece to a slot does to it
pub record Writes (bytes : List ℕ) (old new : Told) (result : Result ℕ Failed) : Type 0 where
  pub within : IfOk result (λ n. n ≤ length bytes)
  -- what was sent grows by the bytes that were taken, and a failed write sends none
  pub moved : MatchResult result (λ n. new.sent ≡ append_known old.sent (take n bytes)) (λ _. new.sent ≡ old.sent)
  pub progress : IfOk result (λ n. 0 < length bytes → 0 < n)
  pub writes : Counts result old.failed_writes new.failed_writes
  pub rest : ChangesWrites old new

-- no slot but the output is open
abbrev pub OnlyOutIsOpen : (Slot → Told) → Type 0
OnlyOutIsOpen told = (slot : Slot) → slot ≢ Out → (told slot).is_open ≡ false
