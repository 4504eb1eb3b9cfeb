-- Lines of text and the pieces between their commas.
use Rattle.std.specs.Prelude.{ℕ, ◌+◌, ◌-◌, Bool, not, ◌&&◌, ◌==◌, nat_le, List, [], ◌∷◌, length, slice_index_or, Option, Some, None, if◌then◌else◌}
use Rattle.std.specs.List.{list_all, onto_first, slice_split}
pub use Rattle.vx_lines.specs.TextLines.{line_feed, text_of}
use Rattle.vx_fields.specs.declared.line.Unsplit.{Unsplit}
use Rattle.vx_fields.specs.declared.line.Unsplit.TheVariants.{Empty, Byte}

-- the byte between two fields
abbrev pub comma : ℕ
comma = 44

-- a printable byte of ASCII, from space to tilde, that is no double quote
abbrev pub is_plain : ℕ → Bool
is_plain byte = nat_le 0x20 byte && nat_le byte 0x7E && not (byte == 34)

-- a line that is not empty, of plain bytes alone
abbrev pub is_plain_line : List ℕ → Bool
is_plain_line line = not (length line == 0) && list_all is_plain line

-- the fields of a line: the pieces between its commas
abbrev pub fields_of_line : List ℕ → List (List ℕ)
fields_of_line line = slice_split (λ byte. byte == comma) line

-- the n-th field, from 1
abbrev pub field : List (List ℕ) → ℕ → List ℕ
field fields n = slice_index_or fields (n - 1) []

-- why a line has no fields, the first that holds: it is empty, or a byte of it is not plain
abbrev pub why_unsplit : List ℕ → Option Unsplit
why_unsplit line = if length line == 0 then Some Empty else (if list_all is_plain line then None else Some Byte)

-- the lines of a text, each without the LF that ends it
abbrev pub lines_in : List ℕ → List (List ℕ)
lines_in [] = []
lines_in (byte ∷ text) = if byte == line_feed then [] ∷ lines_in text else onto_first byte (lines_in text)

-- how many LFs a text has
abbrev pub lf_count : List ℕ → ℕ
lf_count [] = 0
lf_count (byte ∷ text) = if byte == line_feed then 1 + lf_count text else lf_count text

-- the leading lines of which each can be split
abbrev pub plain_head : List (List ℕ) → List (List ℕ)
plain_head [] = []
plain_head (line ∷ lines) = if is_plain_line line then line ∷ plain_head lines else []

-- a byte may stand in lines that can be split: a plain one, or an LF where none stands just before it
abbrev pub may_follow : Bool → ℕ → Bool
may_follow after_lf byte = if byte == line_feed then not after_lf else is_plain byte
