-- A text of plain lines, and one line more.
use Rattle.std.proofs.Common.{get_or, ◌<◌, None, Some, ◌≡◌, ◌∙◌, sym, ap, refl, ℕ, ◌+◌, ◌≤◌, true, false, cond, ◌==◌, List, [], ◌∷◌, ◌++◌, length, zero, suc, arith, append_assoc, lit<}
use Rattle.std.specs.List.{list_all, onto_first, slice_get}
use Rattle.csv.specs.Records.{field_at}
use Rattle.vx_fields.specs.Lines.{line_feed, is_plain, is_plain_line, lines_in, text_of}
use Rattle.vx_fields.proofs.CsvLines.{both_left, both_right, not_equal}

-- a line before the rest of a text is its first
lines_in-line : (line rest : List ℕ) → list_all is_plain line ≡ true → lines_in (line ++ line_feed ∷ rest) ≡ line ∷ lines_in rest
lines_in-line [] rest plain = refl
lines_in-line (b ∷ line) rest plain =
    let lf = not_equal b 10 (both_left _ _ plain) (lit< tt) in
    rw lf (ap (onto_first b) (lines_in-line line rest (both_right _ _ plain)))

-- plain lines before the rest of a text are its first
pub lines_in-text_of : (lines : List (List ℕ)) (rest : List ℕ) → list_all is_plain_line lines ≡ true → lines_in (text_of lines ++ rest) ≡ lines ++ lines_in rest
lines_in-text_of [] rest plain = refl
lines_in-text_of (line ∷ lines) rest plain =
    let bytes : list_all is_plain line ≡ true = both_right _ _ (both_left _ _ plain) in
    ap lines_in (append_assoc line (line_feed ∷ text_of lines) rest)
    ∙ lines_in-line line (text_of lines ++ rest) bytes
    ∙ ap (λ ls. line ∷ ls) (lines_in-text_of lines rest (both_right _ _ plain))

text_of-append : (lines : List (List ℕ)) (line : List ℕ) → text_of (lines ++ line ∷ []) ≡ text_of lines ++ (line ++ line_feed ∷ [])
text_of-append [] line = refl
text_of-append (l ∷ lines) line =
    ap (λ t. l ++ line_feed ∷ t) (text_of-append lines line) ∙ sym (append_assoc l (line_feed ∷ text_of lines) (line ++ line_feed ∷ []))

-- plain lines and one plain line more are plain lines
pub all-append : (lines : List (List ℕ)) (line : List ℕ) → list_all is_plain_line lines ≡ true → is_plain_line line ≡ true → list_all is_plain_line (lines ++ line ∷ []) ≡ true
all-append [] line plain here = rw here refl
all-append (l ∷ lines) line plain here =
    let first : is_plain_line l ≡ true = both_left _ _ plain in
    rw first (all-append lines line (both_right _ _ plain) here)

-- what a line more does to the lines of a text
pub lines_in-push : (old new line : List ℕ) → old ≡ text_of (lines_in old) → list_all is_plain_line (lines_in old) ≡ true → is_plain_line line ≡ true
    → new ≡ old ++ line ++ line_feed ∷ [] → lines_in new ≡ lines_in old ++ line ∷ []
lines_in-push old new line whole plain here is =
    let bytes : list_all is_plain line ≡ true = both_right _ _ here in
    ap lines_in (is ∙ append_assoc old line (line_feed ∷ []))
    ∙ ap (λ t. lines_in (t ++ (line ++ line_feed ∷ []))) whole
    ∙ lines_in-text_of (lines_in old) (line ++ line_feed ∷ []) plain
    ∙ ap (λ ls. lines_in old ++ ls) (lines_in-line line [] bytes)

-- a text of whole lines and one line more is a text of whole lines
pub whole-push : (old new line : List ℕ) → old ≡ text_of (lines_in old) → list_all is_plain_line (lines_in old) ≡ true → is_plain_line line ≡ true
    → new ≡ old ++ line ++ line_feed ∷ [] → new ≡ text_of (lines_in new)
whole-push old new line whole plain here is =
    is ∙ append_assoc old line (line_feed ∷ []) ∙ ap (λ t. t ++ (line ++ line_feed ∷ [])) whole
    ∙ sym (text_of-append (lines_in old) line) ∙ ap text_of (sym (lines_in-push old new line whole plain here is))

length-onto_first : (b : ℕ) (ls : List (List ℕ)) → length (onto_first b ls) ≤ length ls + 1
length-onto_first b [] = omega arith
length-onto_first b (l ∷ ls) = omega arith

-- a text has no more lines than bytes
pub length-lines_in : (text : List ℕ) → length (lines_in text) ≤ length text
length-lines_in [] = omega arith
length-lines_in (b ∷ text) =
    let more = length-lines_in text in
    elim (b == line_feed) as (λ t. length (cond t ([] ∷ lines_in text) (onto_first b (lines_in text))) ≤ length (b ∷ text))
    [ true ↦ omega (arith, more) | false ↦ omega (arith, more, length-onto_first b (lines_in text)) ]

-- a field is the one at its place, where there is one
pub field_at-get : (fields : List (List ℕ)) (i : ℕ) → field_at fields i ≡ slice_get fields i
unfolding field_at
field_at-get [] i = refl
field_at-get (f ∷ fields) zero = refl
field_at-get (f ∷ fields) (suc i) = field_at-get fields i

-- a field that is there is the one at its place
pub field_at-Some : (fields : List (List ℕ)) (i : ℕ) (f : List ℕ) → Some f ≡ field_at fields i → f ≡ get_or fields i []
unfolding field_at
field_at-Some [] i f h = cc
field_at-Some (g ∷ fields) zero f h = cc
field_at-Some (g ∷ fields) (suc i) f h = field_at-Some fields i f h

-- a field at a place below the count is there
pub field_at-None : (fields : List (List ℕ)) (i : ℕ) → i < length fields → None ≡ field_at fields i → ⊥
unfolding field_at
field_at-None [] i below h = omega arith
field_at-None (g ∷ fields) zero below h = cc
field_at-None (g ∷ fields) (suc i) below h = field_at-None fields i (omega arith) h
