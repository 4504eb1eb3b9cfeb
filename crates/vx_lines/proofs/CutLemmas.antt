-- The lines of a text are the one cut of it.
use Rattle.std.proofs.Common.{◌≡◌, ◌≢◌, ◌∙◌, sym, ap, subst, refl, ℕ, ◌+◌, ◌<◌, ◌≤◌, Bool, true, false, List, [], ◌∷◌, ◌++◌, length, All, arith, append_assoc, append-nil}
use Rattle.std.specs.Prelude.{nat_lt, ◌==◌}
use Rattle.std.specs.List.{slice_split, onto_first}
use Rattle.std.proofs.lemmas.Bool.Decides.{nat_tests}
use Rattle.std.proofs.lemmas.List.{length-append, take-append-le}
use Rattle.std.proofs.lemmas.List.Elements.{All-head, All-tail, All-cons, All-nil, All-take}
use Rattle.std.proofs.lemmas.List.Splits.{slice_split-cons_yes, slice_split-cons_no}
use Rattle.vx_lines.specs.TextLines.{Ending, at_end, too_long, no_eol, too_many, ended, ending_of, line_feed, lines_then, lines_from, lines_of, text_of}
use Rattle.vx_lines.specs.Cut.{HasNoLf, IsLine, IsTooLong, IsCut, EndsSo, CutIsLines, LinesAreCut}
use Rattle.vx_lines.proofs.LineLemmas.{line_before, long_piece, some_piece, lines_of_nothing, lines_of_long, lines_of_cut_off, lines_of_text}

rest_ends : (limit : ℕ) (rest : List ℕ) (ending : Ending) → EndsSo limit rest ending → lines_of limit rest ≡ ended ending
rest_ends limit rest at_end ends = ap (lines_of limit) ends ∙ lines_of_nothing limit
rest_ends limit rest too_long ends = lines_of_long limit rest ends
rest_ends limit rest no_eol ends = lines_of_cut_off limit rest ends
rest_ends limit rest too_many ends = absurd ends

-- a cut of a text is its lines
pub cut_is_lines : CutIsLines
cut_is_lines limit text cut is =
    ap (lines_of limit) is.whole
    ∙ lines_of_text limit cut.lines is.rest is.lines
    ∙ ap (lines_then cut.lines) (rest_ends limit is.rest cut.ending is.ends)
    ∙ ap (λ lines. record { lines = lines; ending = cut.ending }) (append-nil cut.lines)

-- ---- the lines of every text are a cut of it

-- the text of pieces with LF between them
joined : List (List ℕ) → List ℕ
joined [] = []
joined (piece ∷ []) = piece
joined (piece ∷ pieces) = piece ++ line_feed ∷ joined pieces

joined-piece : (piece : List ℕ) (pieces : List (List ℕ)) → 0 < length pieces → joined (piece ∷ pieces) ≡ piece ++ line_feed ∷ joined pieces
unfolding joined
joined-piece piece [] some = absurd (omega arith)
joined-piece piece (next ∷ pieces) some = refl

joined-onto : (byte : ℕ) (pieces : List (List ℕ)) → 0 < length pieces → joined (onto_first byte pieces) ≡ byte ∷ joined pieces
unfolding joined
joined-onto byte [] some = absurd (omega arith)
joined-onto byte (piece ∷ []) some = refl
joined-onto byte (piece ∷ next ∷ pieces) some = refl

is_lf : (byte : ℕ) → (byte == line_feed) ≡ true → byte ≡ line_feed
is_lf byte is = grind (arith, nat_tests)

-- the pieces of a text, joined
joined_by : (byte : ℕ) (text : List ℕ) (b : Bool) → (byte == line_feed) ≡ b → joined (slice_split (λ c. c == line_feed) text) ≡ text
    → joined (slice_split (λ c. c == line_feed) (byte ∷ text)) ≡ byte ∷ text
joined_by byte text true is whole =
    ap joined (slice_split-cons_yes (λ c. c == line_feed) byte text is) ∙ joined-piece [] (slice_split (λ c. c == line_feed) text) (some_piece text)
    ∙ ap (λ t. line_feed ∷ t) whole ∙ ap (λ c. c ∷ text) (sym (is_lf byte is))
joined_by byte text false is whole =
    ap joined (slice_split-cons_no (λ c. c == line_feed) byte text is) ∙ joined-onto byte (slice_split (λ c. c == line_feed) text) (some_piece text)
    ∙ ap (λ t. byte ∷ t) whole

joined_pieces : (text : List ℕ) → joined (slice_split (λ byte. byte == line_feed) text) ≡ text
unfolding joined
joined_pieces [] = refl
joined_pieces (byte ∷ text) = joined_by byte text (byte == line_feed) refl (joined_pieces text)

not_lf : (byte : ℕ) → (byte == line_feed) ≡ false → byte ≢ line_feed
not_lf byte not = grind (arith, nat_tests)

onto_no_lf : (byte : ℕ) (pieces : List (List ℕ)) → byte ≢ line_feed → All HasNoLf pieces → All HasNoLf (onto_first byte pieces)
onto_no_lf byte [] not none = All-cons HasNoLf (byte ∷ []) [] (All-cons (λ c. c ≢ line_feed) byte [] not (All-nil (λ c. c ≢ line_feed))) (All-nil HasNoLf)
onto_no_lf byte (piece ∷ pieces) not none =
    All-cons HasNoLf (byte ∷ piece) pieces (All-cons (λ c. c ≢ line_feed) byte piece not (All-head HasNoLf piece pieces none)) (All-tail HasNoLf piece pieces none)

no_lf_by : (byte : ℕ) (text : List ℕ) (b : Bool) → (byte == line_feed) ≡ b → All HasNoLf (slice_split (λ c. c == line_feed) text)
    → All HasNoLf (slice_split (λ c. c == line_feed) (byte ∷ text))
no_lf_by byte text true is none =
    subst (All HasNoLf) (sym (slice_split-cons_yes (λ c. c == line_feed) byte text is))
    (All-cons HasNoLf [] (slice_split (λ c. c == line_feed) text) (All-nil (λ c. c ≢ line_feed)) none)
no_lf_by byte text false is none =
    subst (All HasNoLf) (sym (slice_split-cons_no (λ c. c == line_feed) byte text is)) (onto_no_lf byte (slice_split (λ c. c == line_feed) text) (not_lf byte is) none)

-- no piece of a text has LF in it
none_in_pieces : (text : List ℕ) → All HasNoLf (slice_split (λ byte. byte == line_feed) text)
none_in_pieces [] = All-cons HasNoLf [] [] (All-nil (λ c. c ≢ line_feed)) (All-nil HasNoLf)
none_in_pieces (byte ∷ text) = no_lf_by byte text (byte == line_feed) refl (none_in_pieces text)

-- bytes that begin with a piece too long for a line are too long for one
long_front : (limit : ℕ) (piece rest : List ℕ) → limit < length piece → HasNoLf piece → IsTooLong limit (piece ++ rest)
long_front limit piece rest long none = record {
  more = omega (arith, length-append piece rest, long);
  no_lf = subst HasNoLf (sym (take-append-le (limit + 1) piece rest (omega (arith, long)))) (All-take (λ c. c ≢ line_feed) (limit + 1) piece none);
}

-- the bytes behind the last LF
rest_cut : (limit : ℕ) (rest : List ℕ) → HasNoLf rest → (long empty : Bool) → nat_lt limit (length rest) ≡ long → (length rest == 0) ≡ empty → EndsSo limit rest (ending_of limit rest)
rest_cut limit rest none true empty is_long is_empty =
    let long : limit < length rest = grind (arith, nat_tests) in
    rw is_long (subst (IsTooLong limit) (append-nil rest) (long_front limit rest [] long none))
rest_cut limit [] none false true is_long is_empty = rw is_long refl
rest_cut limit (byte ∷ rest) none false true is_long is_empty = absurd (grind (arith, nat_tests))
rest_cut limit rest none false false is_long is_empty =
    let fits : length rest ≤ limit = grind (arith, nat_tests) in
    let some : 0 < length rest = grind (arith, nat_tests) in
    rw (is_long, is_empty) (record { some = some; fits = fits; no_lf = none })

last_cut : (limit : ℕ) (piece : List ℕ) → HasNoLf piece → IsCut limit piece (ended (ending_of limit piece))
last_cut limit piece none = record {
  rest = piece;
  whole = refl;
  lines = All-nil (IsLine limit);
  ends = rest_cut limit piece none (nat_lt limit (length piece)) (length piece == 0) refl refl;
}

-- a piece before others
piece_cut : (limit : ℕ) (piece rest : List ℕ) (pieces : List (List ℕ)) (long : Bool) → 0 < length pieces → nat_lt limit (length piece) ≡ long → HasNoLf piece
    → IsCut limit rest (lines_from limit pieces) → IsCut limit (piece ++ line_feed ∷ rest) (lines_from limit (piece ∷ pieces))
piece_cut limit piece rest pieces true some is none cut =
    let long : limit < length piece = grind (arith, nat_tests) in
    subst (IsCut limit (piece ++ line_feed ∷ rest)) (sym (long_piece limit piece pieces long))
    (record { rest = piece ++ line_feed ∷ rest; whole = refl; lines = All-nil (IsLine limit); ends = long_front limit piece (line_feed ∷ rest) long none })
piece_cut limit piece rest pieces false some is none cut =
    let fits : length piece ≤ limit = grind (arith, nat_tests) in
    subst (IsCut limit (piece ++ line_feed ∷ rest)) (sym (line_before limit piece pieces fits some))
    (record {
      rest = cut.rest;
      whole = ap (λ t. piece ++ line_feed ∷ t) cut.whole ∙ sym (append_assoc piece (line_feed ∷ text_of (lines_from limit pieces).lines) cut.rest);
      lines = All-cons (IsLine limit) piece (lines_from limit pieces).lines (record { fits = fits; no_lf = none }) cut.lines;
      ends = cut.ends;
    })

pieces_cut : (limit : ℕ) (pieces : List (List ℕ)) → 0 < length pieces → All HasNoLf pieces → IsCut limit (joined pieces) (lines_from limit pieces)
unfolding joined
pieces_cut limit [] some none = absurd (omega arith)
pieces_cut limit (piece ∷ []) some none = last_cut limit piece (All-head HasNoLf piece [] none)
pieces_cut limit (piece ∷ next ∷ pieces) some none =
    piece_cut limit piece (joined (next ∷ pieces)) (next ∷ pieces) (nat_lt limit (length piece)) (omega arith) refl (All-head HasNoLf piece (next ∷ pieces) none)
    (pieces_cut limit (next ∷ pieces) (omega arith) (All-tail HasNoLf piece (next ∷ pieces) none))

-- the lines of a text are a cut of it
pub lines_are_cut : LinesAreCut
lines_are_cut limit text =
    subst (λ t. IsCut limit t (lines_of limit text)) (joined_pieces text)
    (pieces_cut limit (slice_split (λ byte. byte == line_feed) text) (some_piece text) (none_in_pieces text))
