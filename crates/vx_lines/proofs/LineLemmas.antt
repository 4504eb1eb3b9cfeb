-- A text's lines, one after another: what the first of them is, and the lines of the rest.
use Rattle.std.proofs.Common.{◌≡◌, ◌≢◌, ◌∙◌, sym, ap, refl, ℕ, ◌+◌, ◌<◌, ◌≤◌, Bool, true, false, List, [], ◌∷◌, ◌++◌, length, take, drop, All, arith}
use Rattle.std.specs.Prelude.{nat_lt, ◌==◌}
use Rattle.std.specs.List.{slice_split, onto_first}
use Rattle.std.proofs.lemmas.Bool.Decides.{nat_tests}
use Rattle.std.proofs.lemmas.List.{append_assoc, take-append-drop, length-append, length-take-le}
use Rattle.std.proofs.lemmas.List.Elements.{All-head, All-tail}
use Rattle.std.proofs.lemmas.List.Splits.{slice_split_none, slice_split_at, slice_split-cons_no, length-slice_split}
use Rattle.vx_lines.specs.TextLines.{TextLines, at_end, too_long, no_eol, ended, line_feed, line_then, lines_then, lines_from, lines_of, text_of}
use Rattle.vx_lines.specs.Cut.{HasNoLf, IsLine, IsTooLong, IsCutOff}

-- ---- lines put before others

-- no lines put before a text's leave them as they are
pub lines_then_none : (rest : TextLines) → lines_then [] rest ≡ rest
lines_then_none rest = refl

-- lines put before a text's in two parts
pub lines_then-append : (first second : List (List ℕ)) (rest : TextLines) → lines_then (first ++ second) rest ≡ lines_then first (lines_then second rest)
lines_then-append first second rest = ap (λ lines. record rest { lines = lines }) (append_assoc first second rest.lines)

-- a line behind those before it
pub lines_then-push : (lines : List (List ℕ)) (line : List ℕ) (rest : TextLines) → lines_then (lines ++ line ∷ []) rest ≡ lines_then lines (line_then line rest)
lines_then-push lines line rest = lines_then-append lines (line ∷ []) rest

-- ---- the pieces of a text between its LFs

is_lf : ℕ → Bool
is_lf byte = byte == line_feed

byte_is_no_lf : (byte : ℕ) → byte ≢ 10 → (byte == line_feed) ≡ false
byte_is_no_lf byte other = grind (arith, nat_tests)

no_lf_tests : (bytes : List ℕ) → HasNoLf bytes → All (λ byte. (byte == line_feed) ≡ false) bytes
no_lf_tests bytes no_lf = λ k d within. byte_is_no_lf _ (no_lf k d within)

-- a text has a piece
pub some_piece : (text : List ℕ) → 0 < length (slice_split (λ byte. byte == line_feed) text)
some_piece text = let count = length-slice_split (λ byte. byte == line_feed) text in omega (arith, count)

-- a piece that fits is the first line, before the pieces behind it
pub line_before : (limit : ℕ) (line : List ℕ) (pieces : List (List ℕ)) → length line ≤ limit → 0 < length pieces
    → lines_from limit (line ∷ pieces) ≡ line_then line (lines_from limit pieces)
line_before limit line [] fits some = absurd (omega arith)
line_before limit line (piece ∷ pieces) fits some =
    let short : nat_lt limit (length line) ≡ false = grind (arith, nat_tests) in rw short refl

-- a piece that is too long is no line, and none comes behind it
pub long_piece : (limit : ℕ) (piece : List ℕ) (pieces : List (List ℕ)) → limit < length piece → lines_from limit (piece ∷ pieces) ≡ ended too_long
long_piece limit piece [] long = let h : nat_lt limit (length piece) ≡ true = grind (arith, nat_tests) in rw h refl
long_piece limit piece (next ∷ pieces) long = let h : nat_lt limit (length piece) ≡ true = grind (arith, nat_tests) in rw h refl

-- bytes without LF before a text belong to its first piece
onto_piece : (front text first : List ℕ) (more : List (List ℕ)) → All (λ byte. (byte == line_feed) ≡ false) front
    → slice_split (λ byte. byte == line_feed) text ≡ first ∷ more → slice_split (λ byte. byte == line_feed) (front ++ text) ≡ (front ++ first) ∷ more
onto_piece [] text first more none split = split
onto_piece (byte ∷ front) text first more none split =
    slice_split-cons_no (λ b. b == line_feed) byte (front ++ text) (All-head (λ b. (b == line_feed) ≡ false) byte front none)
    ∙ ap (onto_first byte) (onto_piece front text first more (All-tail (λ b. (b == line_feed) ≡ false) byte front none) split)

long_front : (limit : ℕ) (front text : List ℕ) (pieces : List (List ℕ)) → HasNoLf front → limit < length front → 0 < length pieces
    → slice_split (λ byte. byte == line_feed) text ≡ pieces → lines_of limit (front ++ text) ≡ ended too_long
long_front limit front text [] no_lf long some is = absurd (omega arith)
long_front limit front text (first ∷ more) no_lf long some is =
    let count = length-append front first in
    ap (lines_from limit) (onto_piece front text first more (no_lf_tests front no_lf) is)
    ∙ long_piece limit (front ++ first) more (omega (arith, count, long))

-- ---- the first line of a text, or what stands in its place

-- a text with nothing in it is at its end
pub lines_of_nothing : (limit : ℕ) → lines_of limit [] ≡ ended at_end
lines_of_nothing limit = let h : nat_lt limit 0 ≡ false = grind (arith, nat_tests) in rw h refl

-- a text that begins with a line and its LF has that line, and then those of the rest
pub lines_of_line : (limit : ℕ) (line rest : List ℕ) → IsLine limit line → lines_of limit (line ++ line_feed ∷ rest) ≡ line_then line (lines_of limit rest)
lines_of_line limit line rest is =
    ap (lines_from limit) (slice_split_at (λ byte. byte == line_feed) line line_feed rest (no_lf_tests line is.no_lf) refl)
    ∙ line_before limit line (slice_split (λ byte. byte == line_feed) rest) is.fits (some_piece rest)

-- a text that begins with more bytes than a line may have, none of them LF, has no whole line
pub lines_of_long : (limit : ℕ) (text : List ℕ) → IsTooLong limit text → lines_of limit text ≡ ended too_long
lines_of_long limit text long =
    let more : limit < length text = long.more in
    let size : length (take (limit + 1) text) ≡ limit + 1 = length-take-le (limit + 1) text (omega (arith, more)) in
    let rest = drop (limit + 1) text in
    ap (lines_of limit) (sym (take-append-drop (limit + 1) text))
    ∙ long_front limit (take (limit + 1) text) rest (slice_split (λ byte. byte == line_feed) rest) long.no_lf (omega (arith, size)) (some_piece rest) refl

-- a text of bytes that no LF ends has no whole line
pub lines_of_cut_off : (limit : ℕ) (text : List ℕ) → IsCutOff limit text → lines_of limit text ≡ ended no_eol
lines_of_cut_off limit text cut =
    let some : 0 < length text = cut.some in
    let fits : length text ≤ limit = cut.fits in
    let short : nat_lt limit (length text) ≡ false = grind (arith, nat_tests) in
    let filled : (length text == 0) ≡ false = grind (arith, nat_tests) in
    ap (lines_from limit) (slice_split_none (λ byte. byte == line_feed) text (no_lf_tests text cut.no_lf)) ∙ rw (short, filled) refl

-- a text that begins with whole lines has them, and then those of the rest
pub lines_of_text : (limit : ℕ) (lines : List (List ℕ)) (rest : List ℕ) → All (IsLine limit) lines → lines_of limit (text_of lines ++ rest) ≡ lines_then lines (lines_of limit rest)
lines_of_text limit [] rest are = refl
lines_of_text limit (line ∷ lines) rest are =
    ap (lines_of limit) (append_assoc line (line_feed ∷ text_of lines) rest)
    ∙ lines_of_line limit line (text_of lines ++ rest) (All-head (IsLine limit) line lines are)
    ∙ ap (line_then line) (lines_of_text limit lines rest (All-tail (IsLine limit) line lines are))
