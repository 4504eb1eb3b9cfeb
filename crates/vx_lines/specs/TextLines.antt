-- The lines of a text, and how the text ends. A text is a list of bytes.
use Rattle.std.specs.Prelude.{ℕ, nat_lt, ◌==◌, List, [], ◌∷◌, ◌++◌, length, take, if◌then◌else◌}
use Rattle.std.specs.List.{slice_split}

-- the byte that ends a line
abbrev pub line_feed : ℕ
line_feed = 10

-- the text of lines, each ended by LF
abbrev pub text_of : List (List ℕ) → List ℕ
text_of [] = []
text_of (line ∷ lines) = line ++ line_feed ∷ text_of lines

-- what stands behind the whole lines of a text: nothing, a line with too many bytes, bytes that no LF
-- ends, or one line more than there may be
pub data Ending : Type 0 where
  at_end : Ending
  too_long : Ending
  no_eol : Ending
  too_many : Ending

-- the whole lines of a text in their order, each without its LF, and what stands behind them
pub record TextLines : Type 0 where
  pub lines : List (List ℕ)
  pub ending : Ending

-- no whole line
abbrev pub ended : Ending → TextLines
ended ending = record { lines = []; ending = ending }

-- these lines, and then those of the rest
abbrev pub lines_then : List (List ℕ) → TextLines → TextLines
lines_then lines rest = record rest { lines = lines ++ rest.lines }

-- one line, and then those of the rest
abbrev pub line_then : List ℕ → TextLines → TextLines
line_then line rest = lines_then (line ∷ []) rest

-- what the bytes behind the last LF are
abbrev pub ending_of : ℕ → List ℕ → Ending
ending_of limit rest =
    if nat_lt limit (length rest) then too_long else (if length rest == 0 then at_end else no_eol)

-- the lines that the pieces of a text between its LFs are, up to the first with more than so many bytes
abbrev pub lines_from : ℕ → List (List ℕ) → TextLines
lines_from limit [] = ended at_end
lines_from limit (piece ∷ []) = ended (ending_of limit piece)
lines_from limit (piece ∷ pieces) =
    if nat_lt limit (length piece) then ended too_long else line_then piece (lines_from limit pieces)

-- the lines of a text, of which each may have so many bytes
abbrev pub lines_of : ℕ → List ℕ → TextLines
lines_of limit text = lines_from limit (slice_split (λ byte. byte == line_feed) text)

-- of these lines only so many, and then one too many
abbrev pub at_most : ℕ → TextLines → TextLines
at_most most text =
    if nat_lt most (length text.lines) then record { lines = take most text.lines; ending = too_many } else text
