-- Whole lines that wait at a reader, and what is to come behind them.
use Rattle.std.proofs.Common.{◌≡◌, ◌≢◌, ◌∙◌, sym, ap, subst, refl, ℕ, ◌+◌, ◌<◌, ◌≤◌, Bool, true, false, List, [], ◌∷◌, ◌++◌, length, take, drop, get_or, All, Option, None, Some, add-one, eqb-true, arith, append_assoc}
use Rattle.std.specs.Prelude.{◌==◌, ◌-◌, ◌^◌, min, nat_le, slice_range}
use Rattle.std.specs.Option.{option_map}
use Rattle.std.specs.Io.KnownBytes.{prepend_known}
use Rattle.std.proofs.Math.Seq.{take-suc}
use Rattle.std.proofs.lemmas.Bool.Decides.{nat_tests}
use Rattle.std.proofs.lemmas.List.{get_or-take, length-append, length-take, length-take-le, take-append-drop, take_all, take_min, take-take}
use Rattle.std.proofs.lemmas.List.Elements.{All-append, All-cons, All-nil}
use Rattle.memchr.specs.Find.{IsLastByte, is_byte}
use Rattle.vx_lines.specs.Cut.{HasNoLf, IsLine}
use Rattle.vx_lines.specs.TextLines.{TextLines, line_feed, lines_of, lines_then, text_of}
use Rattle.vx_lines.proofs.LineLemmas.{lines_of_text}
use Rattle.vx_desk.specs.declared.device.Slot.{Slot}
use Rattle.vx_desk.specs.declared.lines.TheConstants.{LF}
use Rattle.vx_desk.specs.Told.{Told}
use Rattle.vx_desk.specs.Lines.{ReaderState, to_come}
use Rattle.vx_desk.specs.Coming.{coming}
use Rattle.vx_desk.specs.Held.{IsHeldText, IsLinesText, passed}
use Rattle.vx_desk.proofs.ReaderLemmas.{no_lf_before, prepend_known-append}
use Rattle.vx_desk.proofs.SendingLemmas.{take-more}

-- ---- texts of whole lines

-- the text of lines in two parts
texts-append : (first second : List (List ℕ)) → text_of (first ++ second) ≡ text_of first ++ text_of second
texts-append [] second = refl
texts-append (line ∷ first) second =
    ap (λ t. line ++ line_feed ∷ t) (texts-append first second) ∙ sym (append_assoc line (line_feed ∷ text_of first) (text_of second))

-- no text is no line
pub no_lines : (limit : ℕ) → IsLinesText limit []
no_lines limit = record { lines = []; whole = refl; are_lines = All-nil (IsLine limit) }

-- lines behind lines
pub more_lines : (limit : ℕ) (first second : List ℕ) → IsLinesText limit first → IsLinesText limit second → IsLinesText limit (first ++ second)
more_lines limit first second a b = record {
  lines = a.lines ++ b.lines;
  whole = ap (λ t. t ++ second) a.whole ∙ ap (λ t. text_of a.lines ++ t) b.whole ∙ sym (texts-append a.lines b.lines);
  are_lines = All-append (IsLine limit) a.lines b.lines a.are_lines b.are_lines;
}

-- a line before others
line_put_before : (limit : ℕ) (line text : List ℕ) → IsLine limit line → IsLinesText limit text → IsLinesText limit (line ++ line_feed ∷ text)
line_put_before limit line text is rest = record {
  lines = line ∷ rest.lines;
  whole = ap (λ t. line ++ line_feed ∷ t) rest.whole;
  are_lines = All-cons (IsLine limit) line rest.lines is rest.are_lines;
}

-- bytes with an LF behind them are lines that fit, where they all fit
line_ended_by : (limit : ℕ) (front : List ℕ) (byte : ℕ) (rest : List ℕ) (is_lf : Bool) → HasNoLf front → length front + length (byte ∷ rest) ≤ limit → (byte == LF) ≡ is_lf
    → ((f : List ℕ) → HasNoLf f → length f + length rest ≤ limit → IsLinesText limit (f ++ (rest ++ LF ∷ []))) → IsLinesText limit (front ++ (byte ∷ rest ++ LF ∷ []))
line_ended_by limit front byte rest true none few is more =
    let same : byte ≡ LF = lf byte is in
    subst (λ b. IsLinesText limit (front ++ (b ∷ rest ++ LF ∷ []))) (sym same)
    (line_put_before limit front (rest ++ LF ∷ []) (record { fits = omega (arith, few); no_lf = none }) (more [] (All-nil (λ b. b ≢ line_feed)) (omega (arith, few))))
  where
    lf : (b : ℕ) → (b == LF) ≡ true → b ≡ LF
    lf b is = grind (arith, nat_tests)
line_ended_by limit front byte rest false none few is more =
    let one : HasNoLf (byte ∷ []) = All-cons (λ b. b ≢ line_feed) byte [] (other byte is) (All-nil (λ b. b ≢ line_feed)) in
    subst (IsLinesText limit) (append_assoc front (byte ∷ []) (rest ++ LF ∷ []))
    (more (front ++ byte ∷ []) (All-append (λ b. b ≢ line_feed) front (byte ∷ []) none one) (omega (arith, few, length-append front (byte ∷ []))))
  where
    other : (b : ℕ) → (b == LF) ≡ false → b ≢ line_feed
    other b is = grind (arith, nat_tests)

lines_ended : (limit : ℕ) (rest front : List ℕ) → HasNoLf front → length front + length rest ≤ limit → IsLinesText limit (front ++ (rest ++ LF ∷ []))
lines_ended limit [] front none few = line_put_before limit front [] (record { fits = omega (arith, few); no_lf = none }) (no_lines limit)
lines_ended limit (byte ∷ rest) front none few = line_ended_by limit front byte rest (byte == LF) none few refl (λ f no small. lines_ended limit rest f no small)

-- up to an LF within a window of one byte more than a line may have there are lines that fit
pub window_lines : (limit : ℕ) (bytes window : List ℕ) (found : Option ℕ) (at : ℕ) → window ≡ take (min (limit + 1) (length bytes)) bytes → IsLastByte (is_byte LF) window found → found ≡ Some at
    → IsLinesText limit (take (at + 1) bytes)
window_lines limit bytes window found at is last some =
    let there : IsLastByte (is_byte LF) window (Some at) = subst (IsLastByte (is_byte LF) window) some last in
    let same : window ≡ take (limit + 1) bytes = is ∙ take_min (limit + 1) bytes in
    let size : length window ≡ min (limit + 1) (length bytes) = ap length same ∙ length-take (limit + 1) bytes in
    let high : at < length window = there.0.high in
    let below : at < limit + 1 = omega (arith, high, size) in
    let inside : at < length bytes = omega (arith, high, size) in
    let here : get_or bytes at 0 ≡ LF = sym (get_or-take (limit + 1) bytes at 0 below) ∙ ap (λ (w : List ℕ). get_or w at 0) (sym same) ∙ eqb-true (get_or window at 0) LF there.1 in
    let whole : take (at + 1) bytes ≡ take at bytes ++ LF ∷ [] = rw add-one (take-suc bytes at 0 inside ∙ ap (λ (b : ℕ). take at bytes ++ b ∷ []) here) in
    subst (IsLinesText limit) (sym whole) (lines_ended limit (take at bytes) [] (All-nil (λ b. b ≢ line_feed)) (omega (arith, below, length-take at bytes)))

-- a window without LF is the first bytes, of which none is LF
pub window_none : (limit : ℕ) (bytes window : List ℕ) (found : Option ℕ) → window ≡ take (min (limit + 1) (length bytes)) bytes → IsLastByte (is_byte LF) window found → found ≡ None
    → HasNoLf (take (limit + 1) bytes)
window_none limit bytes window found is last none =
    let nowhere : IsLastByte (is_byte LF) window None = subst (IsLastByte (is_byte LF) window) none last in
    let all : HasNoLf window = subst HasNoLf (take_all (length window) window (omega arith)) (no_lf_before window (length window) nowhere) in
    subst HasNoLf (is ∙ take_min (limit + 1) bytes) all

-- lines behind those at the front
pub lines_behind : (limit : ℕ) (bytes : List ℕ) (taken more : ℕ) → IsLinesText limit (take taken bytes) → IsLinesText limit (take more (drop taken bytes)) → IsLinesText limit (take (taken + more) bytes)
lines_behind limit bytes taken more first second = subst (IsLinesText limit) (take-more bytes taken more) (more_lines limit (take taken bytes) (take more (drop taken bytes)) first second)

-- ---- the text that is held

-- the first elements of the first
take_both : (a b : ℕ) (xs : List ℕ) (few : Bool) → nat_le a b ≡ few → take a (take b xs) ≡ take (min a b) xs
take_both a b xs true is =
    let le : a ≤ b = grind (arith, nat_tests) in
    let less : min a b ≡ a = omega (arith, le) in
    take-take a b xs le ∙ ap (λ n. take n xs) (sym less)
take_both a b xs false is =
    let le : b ≤ a = grind (arith, nat_tests) in
    let less : min a b ≡ b = omega (arith, le) in
    take_all a (take b xs) (omega (arith, le, length-take b xs)) ∙ ap (λ n. take n xs) (sym less)

-- the part of a buffer that waits, up to so many bytes
pub first_part : (items : List ℕ) (start end most : ℕ) → start ≤ end → end ≤ 2 ^ 64 - 1 → slice_range items start (min end (min (start + most) (2 ^ 64 - 1))) ≡ take most (slice_range items start end)
first_part items start end most ordered fits =
    let size : min end (min (start + most) (2 ^ 64 - 1)) - start ≡ min most (end - start) = omega (arith, ordered, fits) in
    ap (λ n. take n (drop start items)) size ∙ sym (take_both most (end - start) (drop start items) (nat_le most (end - start)) refl)

-- so many of its bytes are the text that a reader holds, where they are lines and none is left out
pub held_by : (reader : ReaderState) (most : ℕ) (part text : List ℕ) (count : ℕ) → part ≡ take most reader.waiting → count ≤ length part → text ≡ take count reader.waiting
    → IsLinesText reader.limit (take count part) → HasNoLf (take (reader.limit + 1) (drop count part)) → IsHeldText reader most text
held_by reader most part text count is within front lines none =
    let size : length part ≡ min most (length reader.waiting) = ap length is ∙ length-take most reader.waiting in
    let few : count ≤ most = omega (arith, within, size) in
    let long : length text ≡ count = ap length front ∙ length-take-le count reader.waiting (omega (arith, within, size)) in
    let same : text ≡ take count part = front ∙ sym (ap (take count) is ∙ take-take count most reader.waiting few) in
    record {
      begins = front ∙ ap (λ n. take n reader.waiting) (sym long);
      few = omega (arith, long, few);
      lines = lines.lines;
      whole = same ∙ lines.whole;
      are_lines = lines.are_lines;
      all = subst (λ (p : List ℕ). HasNoLf (take (reader.limit + 1) (drop (length text) p))) is (subst (λ n. HasNoLf (take (reader.limit + 1) (drop n part))) (sym long) none);
    }

-- ---- what is to come behind text that is passed over

-- the bytes that wait are the text and then the others
waits_behind : (waiting text : List ℕ) → text ≡ take (length text) waiting → waiting ≡ text ++ drop (length text) waiting
waits_behind waiting text begins = sym (take-append-drop (length text) waiting) ∙ ap (λ t. t ++ drop (length text) waiting) (sym begins)

-- text that waited was to come before what is to come
pub text_to_come : (reader : ReaderState) (text : List ℕ) (count : ℕ) (told : Told) → text ≡ take (length text) reader.waiting
    → to_come reader told ≡ prepend_known text (to_come (passed reader (length text) count) told)
text_to_come reader text count told begins =
    ap (λ w. prepend_known w told.left) (waits_behind reader.waiting text begins) ∙ prepend_known-append text (drop (length text) reader.waiting) told.left

-- its lines come before those that are to come
before_lines : (limit : ℕ) (text : List ℕ) (lines : List (List ℕ)) (after : Option (List ℕ)) → text ≡ text_of lines → All (IsLine limit) lines
    → option_map (lines_of limit) (prepend_known text after) ≡ option_map (lines_then lines) (option_map (lines_of limit) after)
before_lines limit text lines None whole are = refl
before_lines limit text lines (Some rest) whole are = ap (λ t. Some (lines_of limit (t ++ rest))) whole ∙ ap (λ (t : TextLines). Some t) (lines_of_text limit lines rest are)

-- lines whose text waited were to come before those that are to come
pub lines_to_come : (reader : ReaderState) (text : List ℕ) (lines : List (List ℕ)) (count : ℕ) (told : Slot → Told) → text ≡ take (length text) reader.waiting
    → text ≡ text_of lines → All (IsLine reader.limit) lines → coming reader told ≡ option_map (lines_then lines) (coming (passed reader (length text) count) told)
lines_to_come reader text lines count told begins whole are =
    ap (option_map (lines_of reader.limit)) (text_to_come reader text count (told reader.slot) begins)
    ∙ before_lines reader.limit text lines (to_come (passed reader (length text) count) (told reader.slot)) whole are

-- what a reader holds was to come before what is to come once it is passed over
pub held_to_come : (reader next : ReaderState) (most : ℕ) (text : List ℕ) (count : ℕ) (told : Told) → IsHeldText reader most text → next ≡ passed reader (length text) count
    → to_come reader told ≡ prepend_known text (to_come next told)
held_to_come reader next most text count told held is =
    text_to_come reader text count told held.begins ∙ ap (λ (r : ReaderState). prepend_known text (to_come r told)) (sym is)

-- and its lines before those that are to come
pub held_coming : (reader next : ReaderState) (most : ℕ) (text : List ℕ) (count : ℕ) (told : Slot → Told) (held : IsHeldText reader most text)
    → next ≡ passed reader (length text) count → coming reader told ≡ option_map (lines_then held.lines) (coming next told)
held_coming reader next most text count told held is =
    lines_to_come reader text held.lines count told held.begins held.whole held.are_lines
    ∙ ap (λ (r : ReaderState). option_map (lines_then held.lines) (coming r told)) (sym is)
