-- Lines and blocks of a reader, over plain lists.
use Rattle.std.proofs.Common.{◌≡◌, ◌≢◌, ℕ, ◌+◌, ◌-◌, ◌<◌, ◌≤◌, zero-le, List, [], ◌∷◌, ◌++◌, zero, suc, true, false, length, take, drop, get_or}
use Rattle.std.proofs.Common.{Option, Some, None, MatchOption, refl, sym, ◌∙◌, ap, subst, arith, eq-eqb, eqb-true}
use Rattle.std.specs.Prelude.{slice_range, Ok, Err, is_some, ◌==◌, ◌||◌}
use Rattle.std.specs.List.{list_any}
use Rattle.std.proofs.lemmas.Bool.Decides.{nat_tests}
use Rattle.std.specs.Io.KnownBytes.{prepend_known, IsAtEnd}
use Rattle.std.proofs.lemmas.List.{append_assoc, length-append, length-take-le, take_at}
use Rattle.std.proofs.lemmas.List.{get_or-take, get_or-drop, drop-take, drop-drop, take-append-drop, length-take, length-drop, take_all, take-take}
use Rattle.std.proofs.lemmas.List.Elements.{All-from_get_or, All-append, All-head, All-tail}
use Rattle.memchr.specs.Find.{IsFirstByte, Nowhere, Passes, is_byte}
use Rattle.vx_desk.specs.declared.device.Failed.{Failed}
use Rattle.vx_desk.specs.declared.lines.Line.{Line}
use Rattle.vx_desk.specs.declared.lines.TheConstants.{LF}
use Rattle.vx_desk.specs.Lines.{ReaderState, HasNoLf, bytes_given}
use Rattle.vx_desk.specs.Told.{Told, Reads}
use Rattle.vx_desk.specs.Refill.{IsFirstLf, LiesBetween, Refills}
use Rattle.vx_desk.proofs.SendingLemmas.{take-more}

-- a byte of a list that is the end of a line passes the search's test
pub passes : (xs : List ℕ) (i : ℕ) → get_or xs i 0 ≡ LF → Passes (is_byte LF) xs i
passes xs i e = eq-eqb (get_or xs i 0) LF e

-- a search that passed the first n bytes found no end of a line among them
pub no_lf_before : (xs : List ℕ) (n : ℕ) → Nowhere (Passes (is_byte LF) xs) 0 n → HasNoLf (take n xs)
no_lf_before xs n h =
    All-from_get_or (λ byte. byte ≢ LF) (take n xs) 0
    (λ i lt e. let below : i < n = omega (arith, length-take n xs) in
    h i zero-le below (passes xs i (sym (get_or-take n xs i 0 below) ∙ e)))

-- a search from `searched` on finds the first LF of all the bytes, where those before have none
pub first_lf : (waiting hay : List ℕ) (searched : ℕ) (r : Option ℕ) → searched ≤ length waiting → hay ≡ drop searched waiting
    → HasNoLf (take searched waiting) → IsFirstByte (is_byte LF) hay r → MatchOption r (HasNoLf waiting) (λ at. IsFirstLf waiting (searched + at))
first_lf waiting hay searched None within is passed found =
    let rest : HasNoLf hay = subst HasNoLf (take_all (length hay) hay (omega arith)) (no_lf_before hay (length hay) found) in
    subst HasNoLf (ap (λ ys. take searched waiting ++ ys) is ∙ take-append-drop searched waiting)
    (All-append (λ byte. byte ≢ LF) (take searched waiting) hay passed rest)
first_lf waiting hay searched (Some k) within is passed found = record {
  within = omega (arith, found.0.high, ap length is, length-drop searched waiting);
  no_lf = subst HasNoLf (ap (λ ys. take searched waiting ++ take k ys) is ∙ take-more waiting searched k)
      (All-append (λ byte. byte ≢ LF) (take searched waiting) (take k hay) passed (no_lf_before hay k found.0.before));
  lf = sym (get_or-drop searched waiting k 0) ∙ (ap (λ ys. get_or ys k 0) (sym is) ∙ eqb-true (get_or hay k 0) LF found.1);
}

-- the part of a buffer behind its first bytes
pub drop-slice_range : (xs : List ℕ) (start n end : ℕ) → start + n ≤ end → slice_range xs (start + n) end ≡ drop n (slice_range xs start end)
drop-slice_range xs start n end le =
    let e : end - start ≡ n + (end - (start + n)) = omega arith in
    ap (take (end - (start + n))) (sym (drop-drop n start xs)) ∙ (sym (drop-take n (end - (start + n)) (drop start xs)) ∙ ap (λ m. drop n (take m (drop start xs))) (sym e))

-- as many bytes as a part of a buffer has fit between its ends
pub slice_range-fits : (start n end : ℕ) (xs part : List ℕ) → part ≡ slice_range xs start end → n ≤ length part → start ≤ end → start + n ≤ end
slice_range-fits start n end xs part is le ordered = omega (arith, ap length is, length-take (end - start) (drop start xs))

-- a search in the part of a buffer that waits, from `searched` on
pub first_lf_of_part : (waiting items : List ℕ) (start searched end : ℕ) (r : Option ℕ) → waiting ≡ slice_range items start end → start ≤ end
    → searched ≤ length waiting → HasNoLf (take searched waiting) → IsFirstByte (is_byte LF) (slice_range items (start + searched) end) r
    → MatchOption r (HasNoLf waiting) (λ at. IsFirstLf waiting (searched + at))
first_lf_of_part waiting items start searched end r is ordered within passed found =
    first_lf waiting (slice_range items (start + searched) end) searched r within
    (drop-slice_range items start searched end (slice_range-fits start searched end items waiting is within ordered) ∙ ap (drop searched) (sym is)) passed found

-- two states whose parts are equal are equal
pub same_state : (a b : ReaderState) → a.slot ≡ b.slot → a.limit ≡ b.limit → a.waiting ≡ b.waiting → a.number ≡ b.number → a.is_ended ≡ b.is_ended
    → a.last ≡ b.last → a.last_bytes ≡ b.last_bytes → a ≡ b
same_state a b p q r s t u v = λ i. record { slot = p i; limit = q i; waiting = r i; number = s i; is_ended = t i; last = u i; last_bytes = v i }

-- the first bytes of a part of a buffer
pub take-slice_range : (xs : List ℕ) (start n end : ℕ) → start + n ≤ end → slice_range xs start (start + n) ≡ take n (slice_range xs start end)
take-slice_range xs start n end le =
    let e : (start + n) - start ≡ n = omega arith in
    ap (λ m. take m (drop start xs)) e ∙ sym (take-take n (end - start) (drop start xs) (omega arith))

-- no bytes put before what is known
pub prepend_known-nil : (known : Option (List ℕ)) → prepend_known [] known ≡ known
prepend_known-nil None = refl
prepend_known-nil (Some xs) = refl

-- bytes put before bytes put before what is known
pub prepend_known-append : (xs ys : List ℕ) (known : Option (List ℕ)) → prepend_known (xs ++ ys) known ≡ prepend_known xs (prepend_known ys known)
prepend_known-append xs ys None = refl
prepend_known-append xs ys (Some zs) = ap Some (append_assoc xs ys zs)

-- a read that gave n bytes behind those that wait
pub Refills-ok : (old new : ReaderState) (before after : Told) (buf : List ℕ) (n : ℕ) → new ≡ record old { waiting = new.waiting }
    → new.waiting ≡ old.waiting ++ take n buf → Reads buf before after (Ok n) → 0 < length buf → Refills old new before after (Ok n)
Refills-ok old new before after buf n state grown reads room = record {
  state = state;
  grown = let within : n ≤ length buf = reads.within in ap length grown ∙ (length-append old.waiting (take n buf) ∙ ap (λ m. length old.waiting + m) (length-take-le n buf within));
  first = ap (take (length old.waiting)) grown ∙ take_at old.waiting (take n buf) (length old.waiting) refl;
  kept = ap (λ xs. prepend_known xs after.left) grown ∙ (prepend_known-append old.waiting (take n buf) after.left ∙ ap (prepend_known old.waiting) (sym reads.moved));
  at_end = λ none. subst IsAtEnd (reads.moved ∙ (ap (λ m. prepend_known (take m buf) after.left) none ∙ prepend_known-nil after.left)) (reads.at_end (ap (λ (m : ℕ). Ok m) none) room);
}

-- the first bytes of what stands behind the first n
slice_range-more : (xs : List ℕ) (n part more : ℕ) → n ≤ part → part ≤ length xs
    → slice_range xs n (part + more) ≡ slice_range xs n part ++ take more (drop part xs)
slice_range-more xs n part more first within =
    let e : (part + more) - n ≡ (part - n) + more = omega arith in
    let f : n + (part - n) ≡ part = omega arith in
    ap (λ m. take m (drop n xs)) e ∙ (sym (take-more (drop n xs) (part - n) more) ∙ ap (λ ys. slice_range xs n part ++ take more ys) (drop-drop (part - n) n xs ∙ ap (λ m. drop m xs) f))

-- buffers that begin alike have the same parts there
same_part : (items moved : List ℕ) (from to : ℕ) → from ≤ to → take to moved ≡ take to items → slice_range moved from to ≡ slice_range items from to
same_part items moved from to ordered front =
    let e : from + (to - from) ≡ to = omega arith in
    (sym (drop-take from (to - from) moved) ∙ ap (λ m. drop from (take m moved)) e) ∙
    (ap (drop from) front ∙ (ap (λ m. drop from (take m items)) (sym e) ∙ drop-take from (to - from) items))

-- what a buffer has from `kept` to `end`, once it moved down to make room and bytes were read behind it
pub part-moved : (items room moved : List ℕ) (kept end down : ℕ) → kept ≤ end → slice_range room (kept - down) (end - down) ≡ slice_range items kept end
    → take (end - down) moved ≡ take (end - down) room → slice_range moved (kept - down) (end - down) ≡ slice_range items kept end
part-moved items room moved kept end down ordered part front = same_part room moved (kept - down) (end - down) (omega (arith, ordered)) front ∙ part

-- a later part of it
moved-slice_range : (items moved : List ℕ) (kept start end down : ℕ) → down ≤ kept → kept ≤ start → start ≤ end
    → slice_range moved (kept - down) (end - down) ≡ slice_range items kept end → slice_range moved (start - down) (end - down) ≡ slice_range items start end
moved-slice_range items moved kept start end down low before ordered part =
    let near : (kept - down) + (start - kept) ≡ start - down = omega arith in
    let far : kept + (start - kept) ≡ start = omega arith in
    ap (λ m. slice_range moved m (end - down)) (sym near)
    ∙ drop-slice_range moved (kept - down) (start - kept) (end - down) (omega arith)
    ∙ ap (drop (start - kept)) part
    ∙ sym (drop-slice_range items kept (start - kept) end (omega arith))
    ∙ ap (λ m. slice_range items m end) far

-- what waits once n bytes were read behind the part that moved down
pub waiting-refilled : (old items moved : List ℕ) (kept start end down n : ℕ) → slice_range items start end ≡ old → down ≤ kept → kept ≤ start
    → start ≤ end → end - down ≤ length moved
    → slice_range moved (kept - down) (end - down) ≡ slice_range items kept end → slice_range moved (start - down) ((end - down) + n) ≡ old ++ take n (drop (end - down) moved)
waiting-refilled old items moved kept start end down n waits low before ordered within part =
    slice_range-more moved (start - down) (end - down) n (omega (arith, ordered)) within ∙
    ap (λ xs. xs ++ take n (drop (end - down) moved)) (moved-slice_range items moved kept start end down low before ordered part ∙ waits)

-- they are as they were where nothing was read
pub waiting-moved : (old items moved : List ℕ) (kept start end down : ℕ) → slice_range items start end ≡ old → down ≤ kept → kept ≤ start → start ≤ end
    → slice_range moved (kept - down) (end - down) ≡ slice_range items kept end → slice_range moved (start - down) (end - down) ≡ old
waiting-moved old items moved kept start end down waits low before ordered part = moved-slice_range items moved kept start end down low before ordered part ∙ waits

-- a read that failed
pub Refills-err : (old new : ReaderState) (before after : Told) (buf : List ℕ) (e : Failed) → new ≡ record old { waiting = new.waiting }
    → new.waiting ≡ old.waiting → Reads buf before after (Err e) → Refills old new before after (Err e)
Refills-err old new before after buf e state same reads = record {
  state = state;
  grown = same;
  first = ap (take (length old.waiting)) same ∙ take_all (length old.waiting) old.waiting (omega arith);
  kept = ap (λ xs. prepend_known xs after.left) same ∙ ap (prepend_known old.waiting) reads.moved;
  at_end = tt;
}

-- the last line's bytes once they moved down
pub last-moved : (last : Option Line) (items moved : List ℕ) (kept start end down : ℕ) → LiesBetween kept start last → down ≤ kept → start ≤ end
    → slice_range moved (kept - down) (end - down) ≡ slice_range items kept end → bytes_given last (kept - down) moved ≡ bytes_given last kept items
last-moved None items moved kept start end down lies low ordered part = refl
last-moved (Some line) items moved kept start end down lies low ordered part =
    let size : ℕ = line.end - line.start in
    let within : kept + size ≤ end = omega (arith, lies.1) in
    take-slice_range moved (kept - down) size (end - down) (omega (arith, within, low)) ∙ (ap (take size) part ∙ sym (take-slice_range items kept size end within))

-- the last line and what waits leave room in their buffer
pub part-within : (items waiting : List ℕ) (kept start end limit size : ℕ) → slice_range items start end ≡ waiting → size ≡ length items → start ≤ end
    → end ≤ size → start ≤ kept + limit + 1 → limit + limit + 1 + 65536 ≤ size → length waiting ≤ limit → end - kept < size
part-within items waiting kept start end limit size is same ordered within near room le = omega (arith, ap length is, length-take (end - start) (drop start items), length-drop start items)

-- an LF passes the test for one
lf_is : (byte : ℕ) → byte ≡ LF → (byte == LF) ≡ true
lf_is byte is = eq-eqb byte LF is

-- any other byte fails it
other_is : (byte : ℕ) → byte ≢ LF → (byte == LF) ≡ false
other_is byte other = grind (arith, nat_tests)

-- bytes without LF have none that passes the test
pub no_lf_passes : (bytes : List ℕ) → HasNoLf bytes → list_any (λ byte. byte == LF) bytes ≡ false
no_lf_passes [] none = refl
no_lf_passes (byte ∷ bytes) none =
    let first : (byte == LF) ≡ false = other_is byte (All-head (λ b. b ≢ LF) byte bytes none) in
    rw first (no_lf_passes bytes (All-tail (λ b. b ≢ LF) byte bytes none))

-- bytes with LF have one that passes
pub lf_passes : (bytes : List ℕ) (place : ℕ) → place < length bytes → get_or bytes place 0 ≡ LF → list_any (λ byte. byte == LF) bytes ≡ true
lf_passes [] place within lf = absurd (omega arith)
lf_passes (byte ∷ bytes) zero within lf = let first : (byte == LF) ≡ true = lf_is byte lf in rw first refl
lf_passes (byte ∷ bytes) (suc place) within lf =
    let later : list_any (λ b. b == LF) bytes ≡ true = lf_passes bytes place (omega arith) lf in
    rw later (elim (byte == LF) as (λ b. (b || true) ≡ true) [ true ↦ refl | false ↦ refl ])

-- whether a search found the first LF says whether there is one
pub lf_found : (bytes : List ℕ) (found : Option ℕ) → MatchOption found (HasNoLf bytes) (IsFirstLf bytes) → is_some found ≡ list_any (λ byte. byte == LF) bytes
lf_found bytes None none = sym (no_lf_passes bytes none)
lf_found bytes (Some place) lf = sym (lf_passes bytes place lf.within lf.lf)
