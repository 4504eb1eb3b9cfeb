-- What a reader of lines makes of the bytes that come to it.
use Rattle.std.specs.Prelude.{◌≡◌, ℕ, ◌+◌, ◌-◌, ◌^◌, min, Bool, true, false, not, ◌&&◌, ◌||◌, ◌==◌, nat_lt, List, [], ◌∷◌, ◌++◌, length, Option, Some, None, IfSome, Result, Ok, Err, slice_range}
use Rattle.std.specs.List.{list_any}
use Rattle.std.specs.Io.KnownBytes.{prepend_known, IsAtEnd}
pub use Rattle.vx_lines.specs.Cut.{HasNoLf, IsLine, IsTooLong, IsCutOff}
use Rattle.vx_desk.specs.declared.device.Slot.{Slot}
use Rattle.vx_desk.specs.declared.lines.Line.{Line}
use Rattle.vx_desk.specs.declared.lines.ReadFault.{ReadFault}
use Rattle.vx_desk.specs.declared.lines.ReadFault.TheVariants.{Device, LineTooLong, NoEol}
use Rattle.vx_desk.specs.declared.lines.TheConstants.{LF}
use Rattle.vx_desk.specs.Told.{Told, Rose}

-- what contracts see of a reader
pub record ReaderState : Type 0 where
  pub slot : Slot
  -- the most bytes that a line may have
  pub limit : ℕ
  -- the bytes that were read and not yet given in a line
  pub waiting : List ℕ
  -- how many lines were given
  pub number : ℕ
  -- a line was too long or had no end, so that nothing more is given
  pub is_ended : Bool
  -- the line that was given last, and its bytes
  pub last : Option Line
  pub last_bytes : List ℕ

-- a reader of this slot and limit that has read nothing
abbrev pub new_reader : Slot → ℕ → ReaderState
new_reader slot limit = record {
  slot = slot;
  limit = limit;
  waiting = [];
  number = 0;
  is_ended = false;
  last = None;
  last_bytes = [];
}

-- the bytes that are to come to the reader's caller: those that wait, then those left in its slot
abbrev pub to_come : ReaderState → Told → Option (List ℕ)
to_come reader told = prepend_known reader.waiting told.left

-- the number of the line after this one; it stops at the last value of 64 bits
abbrev pub next_number : ℕ → ℕ
next_number number = min (number + 1) (2 ^ 64 - 1)

-- the next line is given: it was the first of the bytes to come, and an LF ended it
pub record GivesLine (old new : ReaderState) (before after : Option (List ℕ)) (line : Line) : Type 0 where
  pub numbered : line.number ≡ next_number old.number
  pub number : new.number ≡ line.number
  pub last : new.last ≡ Some line
  pub size : line.end ≡ line.start + length new.last_bytes
  pub is_line : IsLine old.limit new.last_bytes
  pub taken : before ≡ prepend_known (new.last_bytes ++ LF ∷ []) after
  pub open_yet : (old.is_ended ≡ false) × (new.is_ended ≡ false)

-- no line is given, no byte to come is lost, and the line before stays the last one
pub record GivesNone (old new : ReaderState) (before after : Option (List ℕ)) : Type 0 where
  pub number : new.number ≡ old.number
  pub last : new.last ≡ old.last
  pub last_bytes : new.last_bytes ≡ old.last_bytes
  pub kept : after ≡ before

-- what waits is no line, and nothing more is given
pub record EndsReading (old new : ReaderState) (number : ℕ) : Type 0 where
  pub numbered : number ≡ next_number old.number
  pub ended : (old.is_ended ≡ false) × (new.is_ended ≡ true)

-- what `next` answers, by the bytes to come before and after it
abbrev pub AnswersNext : ReaderState → ReaderState → Option (List ℕ) → Option (List ℕ) → Result (Option Line) ReadFault → Type 0
AnswersNext old new before after (Ok (Some line)) = GivesLine old new before after line
AnswersNext old new before after (Ok None) = GivesNone old new before after × (new.is_ended ≡ old.is_ended) × (old.is_ended ≡ false → (new.waiting ≡ []) × IsAtEnd before)
AnswersNext old new before after (Err Device) = GivesNone old new before after × (old.is_ended ≡ false) × (new.is_ended ≡ false)
AnswersNext old new before after (Err (LineTooLong number)) = GivesNone old new before after × EndsReading old new number × IsTooLong old.limit new.waiting × IfSome before (IsTooLong old.limit)
AnswersNext old new before after (Err (NoEol number)) = GivesNone old new before after × EndsReading old new number × IsCutOff old.limit new.waiting × IfSome before (IsCutOff old.limit)

-- a whole line waits, or so many bytes that the next line is too long
abbrev pub holds_line : ReaderState → Bool
holds_line reader =
    not reader.is_ended && (nat_lt reader.limit (length reader.waiting) || list_any (λ byte. byte == LF) reader.waiting)

-- a line, or the fault of one that has too many bytes
abbrev pub IsLineOrLong : Result (Option Line) ReadFault → Type 0
IsLineOrLong (Ok (Some _)) = Unit {0}
IsLineOrLong (Err (LineTooLong _)) = Unit {0}
IsLineOrLong _ = ⊥

-- the count of failed reads rose where the device is named, and else is as it was
abbrev pub CountsReads : Result (Option Line) ReadFault → ℕ → ℕ → Type 0
CountsReads (Err Device) old new = Rose old new
CountsReads (Ok _) old new = new ≡ old
CountsReads (Err (LineTooLong _)) old new = new ≡ old
CountsReads (Err (NoEol _)) old new = new ≡ old

-- the bytes of the line that was given last, kept in a buffer from this place on
abbrev pub bytes_given : Option Line → ℕ → List ℕ → List ℕ
bytes_given None place buffer = []
bytes_given (Some line) place buffer = slice_range buffer place (place + (line.end - line.start))
