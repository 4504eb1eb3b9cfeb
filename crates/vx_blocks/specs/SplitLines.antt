-- Lines of a slot, some of them read ahead and split into fields, to be taken one after another.
use Rattle.std.specs.Prelude.{◌≡◌, ℕ, ◌<◌, Bool, true, false, not, ◌||◌, nat_lt, List, [], length, map, drop, All, Option, Some, None}
use Rattle.std.specs.Option.{option_map}
use Rattle.vx_lines.specs.TextLines.{TextLines, at_end, ended, line_then, lines_then, no_eol, too_long}
use Rattle.vx_desk.specs.declared.device.Slot.{Slot}
use Rattle.vx_desk.specs.Slots.{IsReadingSlot}
use Rattle.vx_desk.specs.Told.{Told}
use Rattle.vx_desk.specs.Lines.{holds_line, new_reader}
use Rattle.vx_desk.specs.Coming.{coming}
use Rattle.vx_fields.specs.Lines.{fields_of_line, why_unsplit}
use Rattle.vx_blocks.specs.declared.split_lines.SplitLines.{SplitLines}
use Rattle.vx_blocks.specs.declared.split_lines.Rest.{Rest}
use Rattle.vx_blocks.specs.declared.split_lines.Rest.TheVariants.{More, End, Unsplit, TooLong, NoEol}

-- these are the fields of a line, which can be split
pub record IsSplit (line : List ℕ) (fields : List (List ℕ)) : Type 0 where
  pub can_be : why_unsplit line ≡ None
  pub fields_are : fields ≡ fields_of_line line

-- each of the lines can be split
abbrev pub CanBeSplit : List (List ℕ) → Type 0
CanBeSplit lines = All (λ line. why_unsplit line ≡ None) lines

-- where the line that was read last cannot be split, this is why
abbrev pub IsRestAfter : List ℕ → Rest → Type 0
IsRestAfter last (Unsplit why) = why_unsplit last ≡ Some why
IsRestAfter last _ = Unit {0}

-- the lines of a slot are read, and may be read on where more can come
pub record IsReadingLines (ahead : SplitLines) : Type 0 where
  pub reads : IsReadingSlot ahead.lines.slot
  pub may_read : ahead.rest ≡ More → ahead.lines.is_ended ≡ false
  pub rest : IsRestAfter ahead.lines.last_bytes ahead.rest
  pub block : CanBeSplit ahead.block

-- and those of the block that were not yet taken are split
pub record AreAhead (ahead : SplitLines) : Type 0 where
  pub reading : IsReadingLines ahead
  pub split : drop ahead.taken ahead.table ≡ map fields_of_line (drop ahead.taken ahead.block)

-- nothing was read of this slot, whose lines have at most so many bytes
pub record IsFresh (slot : Slot) (limit : ℕ) (ahead : SplitLines) : Type 0 where
  pub lines : ahead.lines ≡ new_reader slot limit
  pub block : ahead.block ≡ []
  pub table : ahead.table ≡ []
  pub taken : ahead.taken ≡ 0
  pub rest : ahead.rest ≡ More

-- the same slot is read, with the same most bytes of a line
pub record IsSameText (old new : SplitLines) : Type 0 where
  pub slot : new.lines.slot ≡ old.lines.slot
  pub limit : new.lines.limit ≡ old.lines.limit

-- a line that was split is at hand
abbrev pub has_line : SplitLines → Bool
has_line ahead = nat_lt ahead.taken (length ahead.table)

-- a line that was split is at hand, or it is known what comes in its place
abbrev pub HasNext : SplitLines → Type 0
HasNext ahead = ahead.rest ≡ More → ahead.taken < length ahead.table

abbrev pub is_more : Rest → Bool
is_more More = true
is_more _ = false

-- a line is in hand, or the fault of one: it was split, or what comes in its place is known, or the reader holds it
abbrev pub is_in_hand : SplitLines → Bool
is_in_hand ahead = has_line ahead || not (is_more ahead.rest) || holds_line ahead.lines

-- what comes behind the lines that were split, by the last line that was read and the lines not yet looked at
abbrev pub behind : List ℕ → Rest → TextLines → TextLines
behind last More text = text
behind last End text = ended at_end
behind last (Unsplit why) text = line_then last text
behind last TooLong text = ended too_long
behind last NoEol text = ended no_eol

-- these lines, and then what comes behind them, where the lines to come are told
abbrev pub then_behind : List (List ℕ) → SplitLines → (Slot → Told) → Option TextLines
then_behind lines ahead told =
    option_map (λ text. lines_then lines (behind ahead.lines.last_bytes ahead.rest text)) (coming ahead.lines told)

-- the lines of a block, and what comes behind them
abbrev pub block_coming : SplitLines → (Slot → Told) → Option TextLines
block_coming ahead told = then_behind ahead.block ahead told

-- the lines that were not yet taken, and what comes behind them
abbrev pub lines_coming : SplitLines → (Slot → Told) → Option TextLines
lines_coming ahead told = then_behind (drop ahead.taken ahead.block) ahead told
