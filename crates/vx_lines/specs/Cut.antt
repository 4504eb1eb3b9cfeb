-- How a text is cut into lines, said without cutting it.
use Rattle.std.specs.Prelude.{◌≡◌, ◌≢◌, ℕ, ◌+◌, ◌<◌, ◌≤◌, List, [], ◌++◌, length, take, All}
use Rattle.vx_lines.specs.TextLines.{TextLines, Ending, at_end, too_long, no_eol, too_many, line_feed, lines_of, text_of}

-- no byte is the end of a line
abbrev pub HasNoLf : List ℕ → Type 0
HasNoLf bytes = All (λ byte. byte ≢ line_feed) bytes

-- a line without its LF: at most `limit` bytes
pub record IsLine (limit : ℕ) (bytes : List ℕ) : Type 0 where
  pub fits : length bytes ≤ limit
  pub no_lf : HasNoLf bytes

-- the bytes begin with `limit + 1` that have no LF
pub record IsTooLong (limit : ℕ) (bytes : List ℕ) : Type 0 where
  pub more : limit < length bytes
  pub no_lf : HasNoLf (take (limit + 1) bytes)

-- the bytes are one or more, at most `limit`, with no LF
pub record IsCutOff (limit : ℕ) (bytes : List ℕ) : Type 0 where
  pub some : 0 < length bytes
  pub fits : length bytes ≤ limit
  pub no_lf : HasNoLf bytes

-- the bytes behind the whole lines end a text so
abbrev pub EndsSo : ℕ → List ℕ → Ending → Type 0
EndsSo limit rest at_end = rest ≡ []
EndsSo limit rest too_long = IsTooLong limit rest
EndsSo limit rest no_eol = IsCutOff limit rest
EndsSo limit rest too_many = ⊥

-- the text is these whole lines and a rest that ends it so
pub record IsCut (limit : ℕ) (text : List ℕ) (cut : TextLines) : Type 0 where
  pub rest : List ℕ
  pub whole : text ≡ text_of cut.lines ++ rest
  pub lines : All (IsLine limit) cut.lines
  pub ends : EndsSo limit rest cut.ending

-- the lines of every text are a cut of it
abbrev pub LinesAreCut : Type 0
LinesAreCut = (limit : ℕ) (text : List ℕ) → IsCut limit text (lines_of limit text)

-- and no text has another cut
abbrev pub CutIsLines : Type 0
CutIsLines = (limit : ℕ) (text : List ℕ) (cut : TextLines) → IsCut limit text cut → lines_of limit text ≡ cut
