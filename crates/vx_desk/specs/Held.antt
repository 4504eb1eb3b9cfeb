-- Whole lines that wait at a reader, taken together as one text.
use Rattle.std.specs.Prelude.{◌≡◌, ℕ, ◌+◌, ◌-◌, ◌^◌, ◌≤◌, min, List, [], length, take, drop, All, None}
use Rattle.vx_lines.specs.Cut.{HasNoLf, IsLine}
use Rattle.vx_lines.specs.TextLines.{text_of}
use Rattle.vx_desk.specs.Lines.{ReaderState}

-- the text is whole lines, each with at most so many bytes before its LF
pub record IsLinesText (limit : ℕ) (text : List ℕ) : Type 0 where
  pub lines : List (List ℕ)
  pub whole : text ≡ text_of lines
  pub are_lines : All (IsLine limit) lines

-- the text is the whole lines that wait first at a reader, all that end within so many bytes, up to the first that has
-- more bytes than a line may have
pub record IsHeldText (reader : ReaderState) (most : ℕ) (text : List ℕ) : Type 0 where
  pub begins : text ≡ take (length text) reader.waiting
  pub few : length text ≤ most
  pub lines : List (List ℕ)
  pub whole : text ≡ text_of lines
  pub are_lines : All (IsLine reader.limit) lines
  -- of those bytes no line that fits is left out
  pub all : HasNoLf (take (reader.limit + 1) (drop (length text) (take most reader.waiting)))

-- a reader that has given so many lines more, with so many bytes of those that waited; it has no last line
abbrev pub passed : ReaderState → ℕ → ℕ → ReaderState
passed reader size count = record reader {
  waiting = drop size reader.waiting;
  number = min (reader.number + count) (2 ^ 64 - 1);
  last = None;
  last_bytes = [];
}
