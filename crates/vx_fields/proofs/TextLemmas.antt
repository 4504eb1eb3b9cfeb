-- Texts of whole lines, tested byte by byte.
use Rattle.std.proofs.Common.{◌≡◌, ◌≢◌, ◌∙◌, sym, ap, refl, ℕ, ◌+◌, ◌<◌, ◌≤◌, Bool, true, false, cond, ◌&&◌, ◌==◌, List, [], ◌∷◌, ◌++◌, length, take, drop, All, suc, arith, get_or, ◌-◌, append_assoc}
use Rattle.std.specs.Prelude.{if◌then◌else◌}
use Rattle.std.specs.List.{list_all, onto_first}
use Rattle.std.proofs.lemmas.Bool.Decides.{nat_tests}
use Rattle.std.proofs.lemmas.List.{drop_all, drop_more}
use Rattle.std.proofs.lemmas.List.Elements.{All-cons, All-head, All-nil, All-tail}
use Rattle.vx_lines.specs.Cut.{HasNoLf}
use Rattle.vx_fields.specs.Lines.{is_plain, is_plain_line, lf_count, line_feed, lines_in, may_follow, plain_head, text_of}
use Rattle.vx_fields.proofs.CsvLines.{both_left, both_right}
use Rattle.vx_fields.proofs.BlockLines.{lines_in-text_of}

-- ---- the lines of a text have no LF

not_lf : (byte : ℕ) → (byte == line_feed) ≡ false → byte ≢ line_feed
not_lf byte is = grind (arith, nat_tests)

other_byte : (byte : ℕ) → byte ≢ line_feed → (byte == line_feed) ≡ false
other_byte byte other = grind (arith, nat_tests)

onto_none : (byte : ℕ) (lines : List (List ℕ)) → (byte == line_feed) ≡ false → All HasNoLf lines → All HasNoLf (onto_first byte lines)
onto_none byte [] is none = All-cons HasNoLf (byte ∷ []) [] (All-cons (λ c. c ≢ line_feed) byte [] (not_lf byte is) (All-nil (λ c. c ≢ line_feed))) (All-nil HasNoLf)
onto_none byte (line ∷ lines) is none =
    All-cons HasNoLf (byte ∷ line) lines (All-cons (λ c. c ≢ line_feed) byte line (not_lf byte is) (All-head HasNoLf line lines none)) (All-tail HasNoLf line lines none)

none_by : (byte : ℕ) (text : List ℕ) (b : Bool) → (byte == line_feed) ≡ b → All HasNoLf (lines_in text) → All HasNoLf (cond b ([] ∷ lines_in text) (onto_first byte (lines_in text)))
none_by byte text true is none = All-cons HasNoLf [] (lines_in text) (All-nil (λ c. c ≢ line_feed)) none
none_by byte text false is none = onto_none byte (lines_in text) is none

-- no line of a text has an LF
pub none_in : (text : List ℕ) → All HasNoLf (lines_in text)
none_in [] = All-nil HasNoLf
none_in (byte ∷ text) = none_by byte text (byte == line_feed) refl (none_in text)

-- a line before the rest of a text is its first
first_in : (line rest : List ℕ) → HasNoLf line → lines_in (line ++ line_feed ∷ rest) ≡ line ∷ lines_in rest
first_in [] rest none = refl
first_in (byte ∷ line) rest none =
    let other = other_byte byte (All-head (λ c. c ≢ line_feed) byte line none) in
    rw other (ap (onto_first byte) (first_in line rest (All-tail (λ c. c ≢ line_feed) byte line none)))

-- the lines of the text of lines are those
pub lines_in_text : (lines : List (List ℕ)) → All HasNoLf lines → lines_in (text_of lines) ≡ lines
lines_in_text [] none = refl
lines_in_text (line ∷ lines) none =
    first_in line (text_of lines) (All-head HasNoLf line lines none) ∙ ap (λ ls. line ∷ ls) (lines_in_text lines (All-tail HasNoLf line lines none))

-- ---- whether each line can be split

-- whether each byte may follow the one before it
abbrev pub are_lines : Bool → List ℕ → Bool
are_lines after_lf [] = true
are_lines after_lf (byte ∷ text) = may_follow after_lf byte && are_lines (byte == line_feed) text

and_assoc : (a b c : Bool) → (a && (b && c)) ≡ ((a && b) && c)
and_assoc true b c = refl
and_assoc false b c = refl

some_bytes : (byte : ℕ) (line : List ℕ) → (length (byte ∷ line) == 0) ≡ false
some_bytes byte line = grind (arith, nat_tests)

are_within : (line rest : List ℕ) → HasNoLf line → are_lines false (line ++ line_feed ∷ rest) ≡ (list_all is_plain line && are_lines true rest)
are_within [] rest none = refl
are_within (byte ∷ line) rest none =
    let other = other_byte byte (All-head (λ c. c ≢ line_feed) byte line none) in
    rw other (ap (λ b. is_plain byte && b) (are_within line rest (All-tail (λ c. c ≢ line_feed) byte line none)) ∙ and_assoc (is_plain byte) (list_all is_plain line) (are_lines true rest))

are_first : (line rest : List ℕ) → HasNoLf line → are_lines true (line ++ line_feed ∷ rest) ≡ (is_plain_line line && are_lines true rest)
are_first [] rest none = refl
are_first (byte ∷ line) rest none =
    let other = other_byte byte (All-head (λ c. c ≢ line_feed) byte line none) in
    let some = some_bytes byte line in
    rw (other, some) (ap (λ b. is_plain byte && b) (are_within line rest (All-tail (λ c. c ≢ line_feed) byte line none)) ∙ and_assoc (is_plain byte) (list_all is_plain line) (are_lines true rest))

are_text : (lines : List (List ℕ)) → All HasNoLf lines → are_lines true (text_of lines) ≡ list_all is_plain_line lines
are_text [] none = refl
are_text (line ∷ lines) none =
    are_first line (text_of lines) (All-head HasNoLf line lines none) ∙ ap (λ b. is_plain_line line && b) (are_text lines (All-tail HasNoLf line lines none))

-- the bytes of a text of whole lines may follow one another where each line can be split
pub are_whole : (text : List ℕ) → text ≡ text_of (lines_in text) → are_lines true text ≡ list_all is_plain_line (lines_in text)
are_whole text whole = ap (are_lines true) whole ∙ are_text (lines_in text) (none_in text)

-- ---- where the leading lines end that can be split

-- how many bytes they have, of which so many were passed
abbrev pub head_size : Bool → ℕ → List ℕ → ℕ
head_size after_lf pending [] = 0
head_size after_lf pending (byte ∷ text) = if may_follow after_lf byte then (if byte == line_feed then pending + 1 + head_size true 0 text else head_size false (pending + 1) text) else 0

abbrev size_if : Bool → ℕ → ℕ
size_if is n = if is then n else 0

size_within : (line rest : List ℕ) (pending : ℕ) → HasNoLf line → head_size false pending (line ++ line_feed ∷ rest) ≡ size_if (list_all is_plain line) (pending + length line + 1 + head_size true 0 rest)
size_within [] rest pending none = omega arith
size_within (byte ∷ line) rest pending none =
    let other = other_byte byte (All-head (λ c. c ≢ line_feed) byte line none) in
    rw other (by (is_plain byte) (size_within line rest (pending + 1) (All-tail (λ c. c ≢ line_feed) byte line none)))
  where
    by : (b : Bool) → head_size false (pending + 1) (line ++ line_feed ∷ rest) ≡ size_if (list_all is_plain line) (pending + 1 + length line + 1 + head_size true 0 rest)
        → cond b (head_size false (pending + 1) (line ++ line_feed ∷ rest)) 0 ≡ size_if (b && list_all is_plain line) (pending + length (byte ∷ line) + 1 + head_size true 0 rest)
    by true is = is ∙ ap (size_if (list_all is_plain line)) (omega arith)
    by false is = refl

size_first : (line rest : List ℕ) → HasNoLf line → head_size true 0 (line ++ line_feed ∷ rest) ≡ size_if (is_plain_line line) (length line + 1 + head_size true 0 rest)
size_first [] rest none = refl
size_first (byte ∷ line) rest none =
    let other = other_byte byte (All-head (λ c. c ≢ line_feed) byte line none) in
    let some = some_bytes byte line in
    rw (other, some) (by (is_plain byte) (size_within line rest 1 (All-tail (λ c. c ≢ line_feed) byte line none)))
  where
    by : (b : Bool) → head_size false 1 (line ++ line_feed ∷ rest) ≡ size_if (list_all is_plain line) (1 + length line + 1 + head_size true 0 rest)
        → cond b (head_size false 1 (line ++ line_feed ∷ rest)) 0 ≡ size_if (b && list_all is_plain line) (length (byte ∷ line) + 1 + head_size true 0 rest)
    by true is = is ∙ ap (size_if (list_all is_plain line)) (omega arith)
    by false is = refl

take_front : (line rest : List ℕ) (n : ℕ) → take (length line + 1 + n) (line ++ line_feed ∷ rest) ≡ line ++ line_feed ∷ take n rest
take_front [] rest n = let e : 0 + 1 + n ≡ suc n = omega arith in rw e refl
take_front (byte ∷ line) rest n = let e : length (byte ∷ line) + 1 + n ≡ suc (length line + 1 + n) = omega arith in rw e (ap (λ t. byte ∷ t) (take_front line rest n))

head_by : (line : List ℕ) (lines : List (List ℕ)) (b : Bool) → take (head_size true 0 (text_of lines)) (text_of lines) ≡ text_of (plain_head lines)
    → take (size_if b (length line + 1 + head_size true 0 (text_of lines))) (line ++ line_feed ∷ text_of lines) ≡ text_of (cond b (line ∷ plain_head lines) [])
head_by line lines true is = take_front line (text_of lines) (head_size true 0 (text_of lines)) ∙ ap (λ t. line ++ line_feed ∷ t) is
head_by line lines false is = refl

head_text : (lines : List (List ℕ)) → All HasNoLf lines → take (head_size true 0 (text_of lines)) (text_of lines) ≡ text_of (plain_head lines)
head_text [] none = refl
head_text (line ∷ lines) none =
    ap (λ n. take n (line ++ line_feed ∷ text_of lines)) (size_first line (text_of lines) (All-head HasNoLf line lines none))
    ∙ head_by line lines (is_plain_line line) (head_text lines (All-tail HasNoLf line lines none))

-- the first so many bytes are the text of the leading lines that can be split
pub head_whole : (text : List ℕ) → text ≡ text_of (lines_in text) → take (head_size true 0 text) text ≡ text_of (plain_head (lines_in text))
head_whole text whole = ap (λ t. take (head_size true 0 t) t) whole ∙ head_text (lines_in text) (none_in text)

-- ---- the leading lines that can be split

-- each of them can be
plain_by : (line : List ℕ) (lines : List (List ℕ)) (b : Bool) → is_plain_line line ≡ b → list_all is_plain_line (plain_head lines) ≡ true → list_all is_plain_line (cond b (line ∷ plain_head lines) []) ≡ true
plain_by line lines true is all = rw is all
plain_by line lines false is all = refl

pub head_plain : (lines : List (List ℕ)) → list_all is_plain_line (plain_head lines) ≡ true
head_plain [] = refl
head_plain (line ∷ lines) = plain_by line lines (is_plain_line line) refl (head_plain lines)

-- and they are all where each line can be
pub head_all : (lines : List (List ℕ)) → list_all is_plain_line lines ≡ true → plain_head lines ≡ lines
head_all [] plain = refl
head_all (line ∷ lines) plain =
    let here : is_plain_line line ≡ true = both_left _ _ plain in
    rw here (ap (λ ls. line ∷ ls) (head_all lines (both_right _ _ plain)))

-- what holds of all lines holds of the leading ones
keeps_by : (P : List ℕ → Type 0) (line : List ℕ) (lines : List (List ℕ)) (b : Bool) → P line → All P (plain_head lines) → All P (cond b (line ∷ plain_head lines) [])
keeps_by P line lines true here all = All-cons P line (plain_head lines) here all
keeps_by P line lines false here all = All-nil P

pub head_keeps : (P : List ℕ → Type 0) (lines : List (List ℕ)) → All P lines → All P (plain_head lines)
head_keeps P [] all = all
head_keeps P (line ∷ lines) all = keeps_by P line lines (is_plain_line line) (All-head P line lines all) (head_keeps P lines (All-tail P line lines all))

-- ---- how many lines a text has

count_first : (line rest : List ℕ) → HasNoLf line → lf_count (line ++ line_feed ∷ rest) ≡ 1 + lf_count rest
count_first [] rest none = refl
count_first (byte ∷ line) rest none =
    let other = other_byte byte (All-head (λ c. c ≢ line_feed) byte line none) in
    rw other (count_first line rest (All-tail (λ c. c ≢ line_feed) byte line none))

count_text : (lines : List (List ℕ)) → All HasNoLf lines → lf_count (text_of lines) ≡ length lines
count_text [] none = refl
count_text (line ∷ lines) none =
    let rest = count_text lines (All-tail HasNoLf line lines none) in
    let first = count_first line (text_of lines) (All-head HasNoLf line lines none) in
    omega (arith, first, rest)

-- as many as there are lines
pub count_whole : (text : List ℕ) → text ≡ text_of (lines_in text) → lf_count text ≡ length (lines_in text)
count_whole text whole = ap lf_count whole ∙ count_text (lines_in text) (none_in text)

both_by : (front back : ℕ) (b : Bool) → cond b (1 + (front + back)) (front + back) ≡ cond b (1 + front) front + back
both_by front back true = omega arith
both_by front back false = omega arith

-- of a text in two parts as many as of both
pub count_both : (front back : List ℕ) → lf_count (front ++ back) ≡ lf_count front + lf_count back
count_both [] back = omega arith
count_both (byte ∷ front) back =
    ap (λ n. cond (byte == line_feed) (1 + n) n) (count_both front back) ∙ both_by (lf_count front) (lf_count back) (byte == line_feed)

count_more : (byte : ℕ) (text : List ℕ) (b : Bool) → lf_count text ≤ length text → cond b (1 + lf_count text) (lf_count text) ≤ length (byte ∷ text)
count_more byte text true few = omega (arith, few)
count_more byte text false few = omega (arith, few)

-- no more than there are bytes
pub count_few : (text : List ℕ) → lf_count text ≤ length text
count_few [] = omega arith
count_few (byte ∷ text) = count_more byte text (byte == line_feed) (count_few text)

-- ---- one byte more

-- whether the bytes up to one more may follow one another
pub are_more : (text : List ℕ) (i : ℕ) (are_all after_lf whole : Bool) → i < length text → whole ≡ (are_all && are_lines after_lf (drop i text))
    → whole ≡ ((are_all && may_follow after_lf (get_or text i 0)) && are_lines (get_or text i 0 == line_feed) (drop (i + 1) text))
are_more text i are_all after_lf whole within is =
    is ∙ ap (λ t. are_all && are_lines after_lf t) (drop_more text i 0 within)
    ∙ and_assoc are_all (may_follow after_lf (get_or text i 0)) (are_lines (get_or text i 0 == line_feed) (drop (i + 1) text))

-- at the end of the text all may
pub are_done : (text : List ℕ) (i : ℕ) (are_all after_lf whole : Bool) → length text ≤ i → whole ≡ (are_all && are_lines after_lf (drop i text)) → are_all ≡ whole
are_done text i are_all after_lf whole past is = sym (is ∙ ap (λ t. are_all && are_lines after_lf t) (drop_all i text past) ∙ and_true are_all)
  where
    and_true : (b : Bool) → (b && true) ≡ b
    and_true true = refl
    and_true false = refl

-- how many bytes the leading lines have, where a byte ends them
pub size_ends : (text : List ℕ) (i end : ℕ) (after_lf : Bool) (whole : ℕ) → i < length text → whole ≡ end + head_size after_lf (i - end) (drop i text)
    → may_follow after_lf (get_or text i 0) ≡ false → end ≡ whole
size_ends text i end after_lf whole within is ends =
    let none : head_size after_lf (i - end) (drop i text) ≡ 0 = ap (head_size after_lf (i - end)) (drop_more text i 0 within) ∙ rw ends refl in
    omega (arith, is, none)

-- where it ends a line
pub size_line : (text : List ℕ) (i end : ℕ) (after_lf : Bool) (whole : ℕ) → i < length text → end ≤ i → whole ≡ end + head_size after_lf (i - end) (drop i text)
    → may_follow after_lf (get_or text i 0) ≡ true → (get_or text i 0 == line_feed) ≡ true → whole ≡ i + 1 + head_size true 0 (drop (i + 1) text)
size_line text i end after_lf whole within before is goes lf =
    let more : head_size after_lf (i - end) (drop i text) ≡ (i - end) + 1 + head_size true 0 (drop (i + 1) text) = ap (head_size after_lf (i - end)) (drop_more text i 0 within) ∙ rw (goes, lf) refl in
    omega (arith, is, more, before)

-- and where it stands in one
pub size_byte : (text : List ℕ) (i end : ℕ) (after_lf : Bool) (whole : ℕ) → i < length text → end ≤ i → whole ≡ end + head_size after_lf (i - end) (drop i text)
    → may_follow after_lf (get_or text i 0) ≡ true → (get_or text i 0 == line_feed) ≡ false → whole ≡ end + head_size false (i + 1 - end) (drop (i + 1) text)
size_byte text i end after_lf whole within before is goes other =
    let near : (i - end) + 1 ≡ i + 1 - end = omega (arith, before) in
    is ∙ ap (λ n. end + n) (ap (head_size after_lf (i - end)) (drop_more text i 0 within) ∙ rw (goes, other) (ap (λ n. head_size false n (drop (i + 1) text)) near))

-- at the end of the text they end where the last line did
pub size_done : (text : List ℕ) (i end : ℕ) (after_lf : Bool) (whole : ℕ) → length text ≤ i → whole ≡ end + head_size after_lf (i - end) (drop i text) → end ≡ whole
size_done text i end after_lf whole past is =
    let none : head_size after_lf (i - end) (drop i text) ≡ 0 = ap (head_size after_lf (i - end)) (drop_all i text past) in
    omega (arith, is, none)

count_by : (count rest : ℕ) (b : Bool) → count + cond b (1 + rest) rest ≡ (count + cond b 1 0) + rest
count_by count rest true = omega arith
count_by count rest false = omega arith

-- a byte more is counted
pub count_one : (text : List ℕ) (i count : ℕ) → i < length text → count + lf_count (drop i text) ≡ lf_count text
    → (count + cond (get_or text i 0 == line_feed) 1 0) + lf_count (drop (i + 1) text) ≡ lf_count text
count_one text i count within is =
    sym (count_by count (lf_count (drop (i + 1) text)) (get_or text i 0 == line_feed)) ∙ ap (λ t. count + lf_count t) (sym (drop_more text i 0 within)) ∙ is

-- ---- text behind plain lines

-- the text of lines in two parts
texts-append : (first second : List (List ℕ)) → text_of (first ++ second) ≡ text_of first ++ text_of second
texts-append [] second = refl
texts-append (line ∷ first) second =
    ap (λ t. line ++ line_feed ∷ t) (texts-append first second) ∙ sym (append_assoc line (line_feed ∷ text_of first) (text_of second))

-- its lines come behind them
pub lines_in-more : (old new text : List ℕ) → old ≡ text_of (lines_in old) → list_all is_plain_line (lines_in old) ≡ true → new ≡ old ++ text → lines_in new ≡ lines_in old ++ lines_in text
lines_in-more old new text whole plain is = ap lines_in (is ∙ ap (λ t. t ++ text) whole) ∙ lines_in-text_of (lines_in old) text plain

-- and it is a text of whole lines where both are
pub whole-more : (old new text : List ℕ) → old ≡ text_of (lines_in old) → list_all is_plain_line (lines_in old) ≡ true → text ≡ text_of (lines_in text) → new ≡ old ++ text
    → new ≡ text_of (lines_in new)
whole-more old new text whole plain more is =
    is ∙ ap (λ t. t ++ text) whole ∙ ap (λ t. text_of (lines_in old) ++ t) more ∙ sym (texts-append (lines_in old) (lines_in text))
    ∙ ap text_of (sym (lines_in-more old new text whole plain is))

-- plain lines behind plain lines
pub plain-more : (first second : List (List ℕ)) → list_all is_plain_line first ≡ true → list_all is_plain_line second ≡ true → list_all is_plain_line (first ++ second) ≡ true
plain-more [] second plain more = more
plain-more (line ∷ first) second plain more =
    let here : is_plain_line line ≡ true = both_left _ _ plain in
    rw here (plain-more first second (both_right _ _ plain) more)
