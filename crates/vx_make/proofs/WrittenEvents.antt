-- The text of lawful events is cut into their lines and read back as these events.
use Rattle.std.proofs.Common.{◌≡◌, ◌≢◌, ◌∙◌, sym, ap, refl, ℕ, suc, ◌*◌, ◌/◌, ◌^◌, ◌<◌, ◌≤◌, Bool, true, false, cond, ℤ, pos, negsuc, List, [], ◌∷◌, ◌++◌, length, map, None, Result, Ok, Err, arith, append_assoc, append-nil}
use Rattle.std.specs.Prelude.{◌==◌}
use Rattle.std.specs.List.{All, list_all, list_any}
use Rattle.std.proofs.lemmas.Int.{ints}
use Rattle.std.proofs.lemmas.Bool.{and_parts, cond-true}
use Rattle.std.proofs.lemmas.Bool.Decides.{nat_tests}
use Rattle.std.proofs.lemmas.List.{length-append}
use Rattle.std.proofs.lemmas.List.Elements.{All-nil, All-cons, All-head, All-tail, All-from_recursion}
use Rattle.vx_lines.specs.TextLines.{at_end, line_feed, text_of}
use Rattle.vx_lines.specs.Cut.{HasNoLf, IsLine}
use Rattle.vx_lines.proofs.CutLemmas.{cut_is_lines}
use Rattle.vx_num.specs.Written.{natural_text, last_digits, decimal_text}
use Rattle.vx_num.proofs.ReadBack.{decimal_text_whole, decimal_text_parts, length-natural_text-le, length-last_digits}
use Rattle.vx_clock.specs.declared.days.DayNo.{DayNo}
use Rattle.vx_clock.specs.declared.terms.Root.{Root}
use Rattle.vx_clock.specs.declared.terms.Root.TheVariants.{Spx, Spxw}
use Rattle.vx_clock.specs.DayText.{day_text}
use Rattle.vx_clock.specs.RootText.{bare_root_text}
use Rattle.vx_symbol.specs.Rows.{IsRateInRange}
use Rattle.vx_symbol.specs.Symbol.{root_text}
use Rattle.vx_symbol.specs.SymbolText.{symbol_text}
use Rattle.vx_symbol.specs.declared.symbols.Symbol.{Symbol}
use Rattle.vx_fields.specs.Lines.{fields_of_line, is_plain}
use Rattle.vx_feed.specs.declared.events.Event.{Event}
use Rattle.vx_feed.specs.declared.events.Event.TheVariants as event
use Rattle.vx_feed.specs.declared.faults.FeedFault.TheVariants as fault
use Rattle.vx_feed.specs.Feed.{event_of_line, next_event, Reading, missing_end, stopped_at, with_cause, reading_after, reading_from, reading_on}
use Rattle.vx_feed.specs.Form.{kind_text}
use Rattle.vx_feed.specs.Order.{AreLawfulAfter, is_end}
use Rattle.vx_feed.specs.Ranges.{IsEventInRange}
use Rattle.vx_feed.specs.Written.{behind_commas, event_line, kind_of_event, rate_text, text_of_events, value_fields}
use Rattle.vx_feed.proofs.ReadBack.{line_back}
use Rattle.vx_make.specs.ReadBack.{LinesAreOfEvents, TextsAreReadBack}

-- ---- how long a line is

-- no field that is written is longer than a symbol and two bytes
abbrev IsShort : List ℕ → Type 0
IsShort text = length text ≤ 23

day_short : (day : DayNo) → IsShort (day_text day)
unfolding day_text
day_short day = omega arith

length_root : (root : Root) → length (root_text root) ≡ 6
length_root Spx = refl
length_root Spxw = refl

symbol_short : (s : Symbol) → IsShort (symbol_text s)
unfolding symbol_text
symbol_short s = simp length-append (omega (arith, length_root s.root))

root_short : (root : Root) → IsShort (bare_root_text root)
root_short Spx = omega arith
root_short Spxw = omega arith

whole_short : (n : ℕ) → n < 10 ^ 8 → IsShort (decimal_text n 0)
whole_short n most = rw (decimal_text_whole n 0 refl) (omega (arith, length-natural_text-le 8 (omega arith) n most))

length-parts-le : (n places : ℕ) → 0 < places → places ≤ 6 → n / 10 ^ places < 10 ^ 8 → length (decimal_text n places) ≤ 15
length-parts-le n places some few most =
    rw (decimal_text_parts n places some, length-append (natural_text (n / 10 ^ places)) (46 ∷ last_digits places n), length-last_digits places n)
    (omega (arith, length-natural_text-le 8 (omega arith) (n / 10 ^ places) most))

price_short : (price : ℕ) → price ≤ 5000000 → IsShort (decimal_text price 2)
price_short price most = omega (arith, length-parts-le price 2 (omega arith) (omega arith) (omega arith))

rate_short : (rate : ℤ) → IsRateInRange rate → IsShort (rate_text rate)
rate_short (pos n) is =
    let most : n ≤ 25000000 = omega (arith, ints, is.1) in
    omega (arith, length-parts-le n 6 (omega arith) (omega arith) (omega arith))
rate_short (negsuc n) is =
    let most : suc n ≤ 5000000 = omega (arith, ints, is.0) in
    omega (arith, length-parts-le (suc n) 6 (omega arith) (omega arith) (omega arith))

values_short : (e : Event) → IsEventInRange e → All IsShort (value_fields e)
values_short (event.Header day) is = All-from_recursion IsShort (value_fields (event.Header day)) (omega arith, (day_short day, tt))
values_short (event.Expiry x) is = All-from_recursion IsShort (value_fields (event.Expiry x)) (root_short x.root, (day_short x.date, tt))
values_short (event.Rate x rate) is = All-from_recursion IsShort (value_fields (event.Rate x rate)) (root_short x.root, (day_short x.date, (rate_short rate is.1, tt)))
values_short (event.Series s) is = All-from_recursion IsShort (value_fields (event.Series s)) (symbol_short s, tt)
values_short (event.Quote time s bid ask) is =
    All-from_recursion IsShort (value_fields (event.Quote time s bid ask)) (omega arith, (symbol_short s, (price_short bid is.2, (price_short ask is.3, tt))))
values_short (event.Trade time s price) is =
    All-from_recursion IsShort (value_fields (event.Trade time s price)) (omega arith, (symbol_short s, (price_short price is.3, tt)))
values_short (event.Tick time) is = All-from_recursion IsShort (value_fields (event.Tick time)) (omega arith, tt)
values_short (event.Opening time) is = All-from_recursion IsShort (value_fields (event.Opening time)) (omega arith, tt)
values_short (event.End count) is = All-from_recursion IsShort (value_fields (event.End count)) (whole_short count (omega arith), tt)

few_values : (e : Event) → length (value_fields e) ≤ 4
few_values (event.Header day) = omega arith
few_values (event.Expiry x) = omega arith
few_values (event.Rate x rate) = omega arith
few_values (event.Series s) = omega arith
few_values (event.Quote time s bid ask) = omega arith
few_values (event.Trade time s price) = omega arith
few_values (event.Tick time) = omega arith
few_values (event.Opening time) = omega arith
few_values (event.End count) = omega arith

kind_short : (e : Event) → length (kind_text (kind_of_event e)) ≤ 3
kind_short (event.Header day) = omega arith
kind_short (event.Expiry x) = omega arith
kind_short (event.Rate x rate) = omega arith
kind_short (event.Series s) = omega arith
kind_short (event.Quote time s bid ask) = omega arith
kind_short (event.Trade time s price) = omega arith
kind_short (event.Tick time) = omega arith
kind_short (event.Opening time) = omega arith
kind_short (event.End count) = omega arith

behind_commas_short : (fields : List (List ℕ)) → All IsShort fields → length (behind_commas fields) ≤ 24 * length fields
behind_commas_short [] all = omega arith
behind_commas_short (field ∷ fields) all =
    let first = All-head IsShort field fields all in
    let others = behind_commas_short fields (All-tail IsShort field fields all) in
    omega (arith, length-append field (behind_commas fields))

-- a line of an event in its ranges has at most 99 bytes
line_fits : (e : Event) → IsEventInRange e → length (event_line e) ≤ 256
unfolding event_line
line_fits e is =
    let kind = kind_short e in
    let few = few_values e in
    let values = behind_commas_short (value_fields e) (values_short e is) in
    omega (arith, length-append (kind_text (kind_of_event e)) (behind_commas (value_fields e)))

-- ---- a line that is read as an event has no LF

plain_if : {A E : Type 0} (empty plain : Bool) (x y : E) (r : Result A E) (v : A) → cond empty (Err x) (cond plain r (Err y)) ≡ Ok v → plain ≡ true
plain_if true plain x y r v h = absurd cc
plain_if false true x y r v h = refl
plain_if false false x y r v h = absurd cc

plain_of_read : (before : List Event) (line : List ℕ) (e : Event) → event_of_line before line ≡ Ok e → list_all is_plain line ≡ true
plain_of_read before line e h = plain_if (length line == 0) (list_all is_plain line) fault.Kind fault.Byte (next_event before (fields_of_line line)) e h

plain_is_no_lf : (b : ℕ) → is_plain b ≡ true → b ≢ line_feed
plain_is_no_lf b plain same = let low : 32 ≤ b = grind (arith, nat_tests) in omega arith

no_lf : (line : List ℕ) → list_all is_plain line ≡ true → HasNoLf line
no_lf [] plain = All-nil (λ b. b ≢ line_feed)
no_lf (b ∷ line) plain =
    let parts = and_parts (is_plain b) (list_all is_plain line) plain in
    All-cons (λ c. c ≢ line_feed) b line (plain_is_no_lf b parts.0) (no_lf line parts.1)

-- ---- the lines of a text of events

-- the text of events is that of their lines
text_is_lines : (events : List Event) → text_of_events events ≡ text_of (map event_line events)
text_is_lines [] = refl
text_is_lines (e ∷ events) = append_assoc (event_line e) (line_feed ∷ []) (text_of_events events) ∙ ap (λ t. event_line e ++ line_feed ∷ t) (text_is_lines events)

are_lines : (before events : List Event) → AreLawfulAfter before events → All (IsLine 256) (map event_line events)
are_lines before [] h = All-nil (IsLine 256)
are_lines before (e ∷ events) h =
    let plain = plain_of_read before (event_line e) e (line_back before e h.0) in
    All-cons (IsLine 256) (event_line e) (map event_line events)
    (record { fits = line_fits e h.0.in_range; no_lf = no_lf (event_line e) plain })
    (are_lines (before ++ e ∷ []) events h.1)

-- the text of lawful events is cut into their lines
pub lines_are_of_events : LinesAreOfEvents
lines_are_of_events events h =
    cut_is_lines 256 (text_of_events events) (record { lines = map event_line events; ending = at_end })
    (record { rest = []; whole = text_is_lines events ∙ sym (append-nil (text_of (map event_line events))); lines = are_lines [] events h; ends = refl })

-- ---- the reading of a text of events

abbrev whole : List Event → Reading
whole events = record { events = events; bad = None }

read_on : (before events : List Event) → AreLawfulAfter before events → list_any is_end (before ++ events) ≡ true
    → reading_from before (map event_line events) at_end ≡ whole (before ++ events)
read_on before [] h ended =
    cond-true (list_any is_end before) (whole before) (stopped_at before missing_end) (ap (list_any is_end) (sym (append-nil before)) ∙ ended)
    ∙ ap whole (sym (append-nil before))
read_on before (e ∷ events) h ended =
    ap (λ r. reading_after (λ more. reading_from more (map event_line events) at_end) before (with_cause r)) (line_back before e h.0)
    ∙ read_on (before ++ e ∷ []) events h.1 (ap (list_any is_end) (append_assoc before (e ∷ []) events) ∙ ended)
    ∙ ap whole (append_assoc before (e ∷ []) events)

-- the text of lawful events, one of which is an END, is read as these events
pub texts_are_read_back : TextsAreReadBack
texts_are_read_back events h ended = ap (reading_on []) (lines_are_of_events events h) ∙ read_on [] events h ended
