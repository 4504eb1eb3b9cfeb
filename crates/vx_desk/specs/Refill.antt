-- Steps of a reader between two lines.
use Rattle.std.specs.Prelude.{◌≡◌, ℕ, ◌+◌, ◌-◌, ◌<◌, ◌≤◌, List, length, take, drop, slice_index, Option, None, Some, Result, Ok, Err, MatchResult, true, []}
use Rattle.std.specs.Io.KnownBytes.{IsAtEnd}
use Rattle.vx_desk.specs.declared.device.Failed.{Failed}
use Rattle.vx_desk.specs.declared.lines.Line.{Line}
use Rattle.vx_desk.specs.declared.lines.ReadFault.{ReadFault}
use Rattle.vx_desk.specs.declared.lines.ReadFault.TheVariants.{LineTooLong, NoEol}
use Rattle.vx_desk.specs.declared.lines.TheConstants.{LF}
use Rattle.vx_desk.specs.Told.{Told}
use Rattle.vx_desk.specs.Lines.{ReaderState, HasNoLf, to_come, next_number}

-- the first LF of the bytes stands at this place
pub record IsFirstLf (bytes : List ℕ) (place : ℕ) : Type 0 where
  pub within : place < length bytes
  pub no_lf : HasNoLf (take place bytes)
  pub lf : slice_index bytes place ≡ LF

-- the bytes of the line have room between two places of a buffer
abbrev pub LiesBetween : ℕ → ℕ → Option Line → Type 0
LiesBetween from to None = Unit {0}
LiesBetween from to (Some line) = (line.start ≤ line.end) × (from + (line.end - line.start) ≤ to)

-- one read puts what it gives behind the bytes that wait; no byte to come is lost
pub record Refills (old new : ReaderState) (before after : Told) (result : Result ℕ Failed) : Type 0 where
  pub state : new ≡ record old { waiting = new.waiting }
  pub grown : MatchResult result (λ n. length new.waiting ≡ length old.waiting + n) (λ _. new.waiting ≡ old.waiting)
  pub first : take (length old.waiting) new.waiting ≡ old.waiting
  pub kept : to_come new after ≡ to_come old before
  pub at_end : MatchResult result (λ n. n ≡ 0 → IsAtEnd after.left) (λ _. Unit {0})

-- the line has the waiting bytes before this place, and those after it still wait
pub record CutsLine (old new : ReaderState) (place : ℕ) (line : Line) : Type 0 where
  pub fits : place ≤ old.limit
  pub numbered : line.number ≡ next_number old.number
  pub size : line.end ≡ line.start + place
  pub state : new ≡ record old { waiting = drop (place + 1) old.waiting; number = next_number old.number; last = Some line; last_bytes = take place old.waiting }

-- the waiting bytes up to the LF at this place are given as a line, or are too many for one
abbrev pub Cuts : ReaderState → ReaderState → ℕ → Result (Option Line) ReadFault → Type 0
Cuts old new place (Ok None) = ⊥
Cuts old new place (Ok (Some line)) = CutsLine old new place line
Cuts old new place (Err fault) = (old.limit < place) × (fault ≡ LineTooLong (next_number old.number)) × (new ≡ record old { is_ended = true })

-- at the end of the input nothing waits, or the last line has no LF
abbrev pub EndsInput : ReaderState → ReaderState → Result (Option Line) ReadFault → Type 0
EndsInput old new (Ok line) = (line ≡ None) × (old.waiting ≡ []) × (new ≡ old)
EndsInput old new (Err fault) = (0 < length old.waiting) × (fault ≡ NoEol (next_number old.number)) × (new ≡ record old { is_ended = true })
