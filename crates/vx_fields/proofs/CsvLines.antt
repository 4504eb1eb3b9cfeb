-- What `csv` reads of plain lines.
use Rattle.std.specs.Prelude.{if◌then◌else◌}
use Rattle.std.proofs.Common.{lit<, ◌≡◌, ◌∙◌, ap, refl, ℕ, ◌<◌, Bool, true, false, cond, ◌&&◌, ◌==◌, List, [], ◌∷◌, ◌++◌, Some, arith, append_assoc}
use Rattle.std.proofs.lemmas.Bool.Decides.{nat_tests}
use Rattle.std.proofs.lemmas.List.{append-nil}
use Rattle.std.specs.List.{list_all, onto_first}
use Rattle.csv.specs.Machine.{next_record, step, in_field, start_field, start_record, is_end, fields_after, field_after}
use Rattle.csv.specs.Reading.{default_config, strip_bom}
use Rattle.csv.specs.declared.parser.State.{State}
use Rattle.csv.specs.declared.parser.Action.{Action}
use Rattle.csv.specs.declared.parser.Action.TheVariants as act
use Rattle.csv.specs.declared.parser.State.TheVariants as st
use Rattle.vx_fields.specs.Lines.{line_feed, comma, is_plain, is_plain_line, fields_of_line, text_of}

-- of two tests that both hold the first holds
pub both_left : (a b : Bool) → (a && b) ≡ true → a ≡ true
both_left true b h = refl
both_left false b h = h

-- and the second
pub both_right : (a b : Bool) → (a && b) ≡ true → b ≡ true
both_right true b h = h
both_right false b h = cc

-- a plain byte is no control byte
pub not_equal : (c k : ℕ) → is_plain c ≡ true → k < 0x20 → (c == k) ≡ false
not_equal c k h below = grind (arith, nat_tests)

not_quote : (c : ℕ) → is_plain c ≡ true → (c == 34) ≡ false
not_quote c h = grind (arith, nat_tests)

-- the pieces with some bytes before the first of them
pub onto : List ℕ → List (List ℕ) → List (List ℕ)
onto p [] = p ∷ []
onto p (q ∷ qs) = (p ++ q) ∷ qs

onto-onto_first : (p : List ℕ) (c : ℕ) (qs : List (List ℕ)) → onto (p ++ c ∷ []) qs ≡ onto p (onto_first c qs)
unfolding onto
onto-onto_first p c [] = refl
onto-onto_first p c (q ∷ qs) = ap (λ x. x ∷ qs) (append_assoc p (c ∷ []) q)

onto-none-first : (b : ℕ) (qs : List (List ℕ)) → onto [] (onto_first b qs) ≡ onto_first b qs
unfolding onto
onto-none-first b [] = refl
onto-none-first b (q ∷ qs) = refl

onto-none : (bs : List ℕ) → onto [] (fields_of_line bs) ≡ fields_of_line bs
unfolding onto
onto-none [] = refl
onto-none (b ∷ bs) =
    elim (b == comma) as (λ t. onto [] (cond t ([] ∷ fields_of_line bs) (onto_first b (fields_of_line bs))) ≡ cond t ([] ∷ fields_of_line bs) (onto_first b (fields_of_line bs)))
    [ true ↦ refl | false ↦ onto-none-first b (fields_of_line bs) ]

-- what follows from one byte's step
by_step : (s s2 : State) (a : Action) (fields : List (List ℕ)) (field : List ℕ) (c : ℕ) (rest : List ℕ) → step default_config s c ≡ (s2, a)
    → next_record default_config s fields field (c ∷ rest)
    ≡ (if is_end a then Some (fields_after a fields field, s2, rest) else next_record default_config s2 (fields_after a fields field) (field_after a c field) rest)
unfolding next_record
by_step s s2 a fields field c rest e =
    ap (λ (r : State × Action). if is_end r.1 then Some (fields_after r.1 fields field, r.0, rest) else next_record default_config r.0 (fields_after r.1 fields field) (field_after r.1 c field) rest) e

in_field-plain : (c : ℕ) → (c == comma) ≡ false → is_plain c ≡ true → in_field default_config c ≡ (st.InField, act.Copy)
in_field-plain c other plain =
    let cr = not_equal c 13 plain (lit< tt) in
    let lf = not_equal c 10 plain (lit< tt) in
    rw (other, cr, lf) refl

in_field-comma : (c : ℕ) → (c == comma) ≡ true → in_field default_config c ≡ (st.StartField, act.EndField)
in_field-comma c same = rw same refl

start_field-plain : (c : ℕ) → is_plain c ≡ true → start_field default_config c ≡ in_field default_config c
start_field-plain c plain = let quote = not_quote c plain in rw quote refl

start_record-plain : (c : ℕ) → is_plain c ≡ true → start_record default_config c ≡ in_field default_config c
start_record-plain c plain =
    let cr = not_equal c 13 plain (lit< tt) in
    let lf = not_equal c 10 plain (lit< tt) in
    let quote = not_quote c plain in
    rw (cr, lf, quote) refl

-- a field that starts reads on as one that has begun
start_is_in : (fields : List (List ℕ)) (field bs rest : List ℕ) → list_all is_plain bs ≡ true
    → next_record default_config st.StartField fields field (bs ++ line_feed ∷ rest) ≡ next_record default_config st.InField fields field (bs ++ line_feed ∷ rest)
unfolding next_record
start_is_in fields field [] rest plain = refl
start_is_in fields field (c ∷ bs) rest plain =
    ap (λ (r : State × Action). if is_end r.1 then Some (fields_after r.1 fields field, r.0, bs ++ line_feed ∷ rest) else next_record default_config r.0 (fields_after r.1 fields field) (field_after r.1 c field) (bs ++ line_feed ∷ rest))
    (start_field-plain c (both_left _ _ plain))

-- inside a field, the rest of a line is its pieces
abbrev pub ReadsRest : List ℕ → List ℕ → Type 0
ReadsRest rest bs = (fields : List (List ℕ)) (field : List ℕ) →
    next_record default_config st.InField fields field (bs ++ line_feed ∷ rest) ≡ Some (fields ++ onto field (fields_of_line bs), st.StartRecord, rest)

rest_of_more : (c : ℕ) (bs rest : List ℕ) (t : Bool) → (c == comma) ≡ t → is_plain c ≡ true → list_all is_plain bs ≡ true → ReadsRest rest bs → ReadsRest rest (c ∷ bs)
unfolding onto
rest_of_more c bs rest true same plain all more fields field =
    by_step st.InField st.StartField act.EndField fields field c (bs ++ line_feed ∷ rest) (in_field-comma c same)
    ∙ start_is_in (fields ++ field ∷ []) [] bs rest all
    ∙ more (fields ++ field ∷ []) []
    ∙ rw (same, onto-none bs, append_assoc, append-nil field) refl
rest_of_more c bs rest false other plain all more fields field =
    by_step st.InField st.InField act.Copy fields field c (bs ++ line_feed ∷ rest) (in_field-plain c other plain)
    ∙ more fields (field ++ c ∷ [])
    ∙ rw other (ap (λ parts. Some (fields ++ parts, st.StartRecord, rest)) (onto-onto_first field c (fields_of_line bs)))

-- the plain bytes behind the first field are read as the other fields of the line
pub rest_of_line : (bs rest : List ℕ) → list_all is_plain bs ≡ true → ReadsRest rest bs
unfolding next_record onto
rest_of_line [] rest plain fields field = rw (append-nil field) refl
rest_of_line (c ∷ bs) rest plain fields field =
    rest_of_more c bs rest (c == comma) refl (both_left _ _ plain) (both_right _ _ plain) (rest_of_line bs rest (both_right _ _ plain)) fields field

-- the record of a plain line
pub next_line : (line rest : List ℕ) → is_plain_line line ≡ true
    → next_record default_config st.StartRecord [] [] (line ++ line_feed ∷ rest) ≡ Some (fields_of_line line, st.StartRecord, rest)
unfolding next_record
next_line [] rest plain = cc
next_line (c ∷ bs) rest plain =
    let all : list_all is_plain (c ∷ bs) ≡ true = both_right _ _ plain in
    ap (λ (r : State × Action). if is_end r.1 then Some (fields_after r.1 [] [], r.0, bs ++ line_feed ∷ rest) else next_record default_config r.0 (fields_after r.1 [] []) (field_after r.1 c []) (bs ++ line_feed ∷ rest))
    (start_record-plain c (both_left _ _ all))
    ∙ rest_of_line (c ∷ bs) rest all [] []
    ∙ ap (λ fields. Some (fields, st.StartRecord, rest)) (onto-none (c ∷ bs))

-- a text that begins with no byte of a mark stays as it is
strip_other : (a : ℕ) (rest : List ℕ) → (a == 0xEF) ≡ false → strip_bom (a ∷ rest) ≡ a ∷ rest
unfolding strip_bom
strip_other a [] h = refl
strip_other a (b ∷ []) h = refl
strip_other a (b ∷ c ∷ rest) h = rw h refl

not_mark : (a : ℕ) → is_plain a ≡ true → (a == 0xEF) ≡ false
not_mark a h = grind (arith, nat_tests)

-- plain lines begin with no byte order mark
pub strip_plain : (lines : List (List ℕ)) → list_all is_plain_line lines ≡ true → strip_bom (text_of lines) ≡ text_of lines
strip_plain [] plain = unfold strip_bom in refl
strip_plain ([] ∷ lines) plain = cc
strip_plain ((a ∷ line) ∷ lines) plain =
    let first : is_plain_line (a ∷ line) ≡ true = both_left _ _ plain in
    let bytes : list_all is_plain (a ∷ line) ≡ true = both_right _ _ first in
    strip_other a _ (not_mark a (both_left _ _ bytes))
