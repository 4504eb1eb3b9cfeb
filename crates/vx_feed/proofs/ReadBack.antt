-- The line of an event is read back as the event.
use Rattle.std.proofs.Common.{◌≡◌, refl, ap, ◌∙◌, ℕ, zero, suc, ◌+◌, ◌/◌, ◌%◌, ◌^◌, ◌<◌, ◌≤◌, Bool, true, false, not, ◌&&◌, ◌==◌, nat_le, ℤ, pos, negsuc, List, [], ◌∷◌, ◌++◌, length, Some, None, Ok, arith}
use Rattle.std.specs.List.{list_all, All}
use Rattle.std.specs.Result.{result_ok}
use Rattle.std.proofs.lemmas.Bool.Decides.{nat_tests}
use Rattle.std.proofs.lemmas.List.{append-nil}
use Rattle.std.proofs.lemmas.List.Folds.{list_all-append}
use Rattle.std.proofs.lemmas.List.Elements.{All-nil, All-cons}
use Rattle.std.proofs.lemmas.List.Splits.{slice_split_none, slice_split_at}
use Rattle.vx_num.specs.Decimal.{is_digit}
use Rattle.vx_num.specs.Written.{natural_text, last_digits, decimal_text}
use Rattle.vx_num.proofs.ReadBack.{natural_text_all, last_digits_all, read_back_decimal, read_back_signed, decimal_text_whole, decimal_text_parts}
use Rattle.vx_clock.specs.declared.days.DayNo.{DayNo}
use Rattle.vx_clock.specs.declared.terms.Root.{Root}
use Rattle.vx_clock.specs.declared.terms.Root.TheVariants.{Spx, Spxw}
use Rattle.vx_clock.specs.Clock.{clock_text}
use Rattle.vx_clock.specs.Day.{IsDayInRange}
use Rattle.vx_clock.specs.DayText.{day_text}
use Rattle.vx_clock.proofs.ClockTexts.{read_back_clock, read_back_root}
use Rattle.vx_clock.proofs.DayTexts.{read_back_day}
use Rattle.vx_symbol.specs.declared.symbols.Side.{Side}
use Rattle.vx_symbol.specs.declared.symbols.Side.TheVariants.{Call, Put}
use Rattle.vx_symbol.specs.declared.symbols.Symbol.{Symbol}
use Rattle.vx_symbol.specs.Rows.{IsRateInRange}
use Rattle.vx_symbol.specs.Symbol.{IsSymbolInRange}
use Rattle.vx_symbol.specs.SymbolText.{symbol_text}
use Rattle.vx_symbol.proofs.SymbolTexts.{read_back_symbol}
use Rattle.vx_fields.specs.Lines.{comma, is_plain, fields_of_line}
use Rattle.vx_fields.proofs.CsvLines.{both_left, both_right}
use Rattle.vx_feed.specs.declared.events.Event.{Event}
use Rattle.vx_feed.specs.declared.events.Event.TheVariants as event
use Rattle.vx_feed.specs.declared.kinds.Kind.TheVariants as kind
use Rattle.vx_feed.specs.Feed.{event_of_line, event_in_order, event_unless}
use Rattle.vx_feed.specs.Form.{event_of_fields, date_of_text, rate_of_text, price_of_text, if_positive, count_of_text, series_of_text, kind_text}
use Rattle.vx_feed.specs.Order.{IsLawfulNext, order_fault}
use Rattle.vx_feed.specs.Ranges.{IsEventInRange}
use Rattle.vx_clock.specs.RootText.{bare_root_text}
use Rattle.vx_feed.specs.Written.{behind_commas, event_line, kind_of_event, price_text, rate_text, value_fields}

-- ---- the bytes of fields

-- a byte that a field may have: a plain one that is no comma
abbrev pub is_field_byte : ℕ → Bool
is_field_byte b = is_plain b && not (b == comma)

abbrev pub are_field_bytes : List ℕ → Bool
are_field_bytes text = list_all is_field_byte text

digit_byte_is : (b : ℕ) → is_digit b ≡ true → is_field_byte b ≡ true
digit_byte_is b h = grind (arith, nat_tests)

digit_is : (d : ℕ) → d < 10 → is_field_byte (48 + d) ≡ true
digit_is d h = grind (arith, nat_tests)

digit_at_is : (n unit : ℕ) → is_field_byte (48 + n / unit % 10) ≡ true
digit_at_is n unit = digit_is (n / unit % 10) (omega arith)

both : (a b : Bool) → a ≡ true → b ≡ true → (a && b) ≡ true
both a b h k = rw (h, k) refl

digits_are : (bs : List ℕ) → list_all is_digit bs ≡ true → are_field_bytes bs ≡ true
digits_are [] h = refl
digits_are (b ∷ bs) h = both (is_field_byte b) (are_field_bytes bs) (digit_byte_is b (both_left (is_digit b) (list_all is_digit bs) h)) (digits_are bs (both_right (is_digit b) (list_all is_digit bs) h))

joined_are : (xs ys : List ℕ) → are_field_bytes xs ≡ true → are_field_bytes ys ≡ true → are_field_bytes (xs ++ ys) ≡ true
joined_are xs ys h k = list_all-append is_field_byte xs ys ∙ both (are_field_bytes xs) (are_field_bytes ys) h k

pub decimal_are : (value places : ℕ) → are_field_bytes (decimal_text value places) ≡ true
decimal_are value zero = rw (decimal_text_whole value 0 refl) (digits_are (natural_text value) (natural_text_all value))
decimal_are value (suc k) =
    rw (decimal_text_parts value (suc k) (omega arith))
    (joined_are (natural_text (value / 10 ^ suc k)) (46 ∷ last_digits (suc k) value) (digits_are (natural_text (value / 10 ^ suc k)) (natural_text_all (value / 10 ^ suc k)))
    (digits_are (last_digits (suc k) value) (last_digits_all (suc k) value)))

day_are : (day : DayNo) → are_field_bytes (day_text day) ≡ true
unfolding day_text
day_are day = simp digit_at_is

clock_are : (time : ℕ) → time ≤ 1439 → are_field_bytes (clock_text time) ≡ true
clock_are time most =
    let h1 = digit_is (time / 60 / 10) (omega arith) in
    let h2 = digit_is (time / 60 % 10) (omega arith) in
    let m1 = digit_is (time % 60 / 10) (omega arith) in
    let m2 = digit_is (time % 60 % 10) (omega arith) in
    rw (h1, h2, m1, m2) refl

symbol_are_by : (root : Root) (side : Side) (s : Symbol) → s.root ≡ root → s.side ≡ side → are_field_bytes (symbol_text s) ≡ true
unfolding symbol_text
symbol_are_by Spx Call s r e = rw (r, e) (simp digit_at_is)
symbol_are_by Spx Put s r e = rw (r, e) (simp digit_at_is)
symbol_are_by Spxw Call s r e = rw (r, e) (simp digit_at_is)
symbol_are_by Spxw Put s r e = rw (r, e) (simp digit_at_is)

symbol_are : (s : Symbol) → are_field_bytes (symbol_text s) ≡ true
symbol_are s = symbol_are_by s.root s.side s refl refl

root_are : (root : Root) → are_field_bytes (bare_root_text root) ≡ true
root_are Spx = refl
root_are Spxw = refl

rate_are : (rate : ℤ) → are_field_bytes (rate_text rate) ≡ true
rate_are (pos n) = decimal_are n 6
rate_are (negsuc n) = decimal_are (suc n) 6

kind_are : (e : Event) → are_field_bytes (kind_text (kind_of_event e)) ≡ true
kind_are (event.Header day) = refl
kind_are (event.Expiry x) = refl
kind_are (event.Rate x rate) = refl
kind_are (event.Series s) = refl
kind_are (event.Quote time s bid ask) = refl
kind_are (event.Trade time s price) = refl
kind_are (event.Tick time) = refl
kind_are (event.Opening time) = refl
kind_are (event.End count) = refl

values_are : (e : Event) → IsEventInRange e → list_all are_field_bytes (value_fields e) ≡ true
values_are (event.Header day) is = rw (day_are day) refl
values_are (event.Expiry x) is = rw (root_are x.root, day_are x.date) refl
values_are (event.Rate x rate) is = rw (root_are x.root, day_are x.date, rate_are rate) refl
values_are (event.Series s) is = rw (symbol_are s) refl
values_are (event.Quote time s bid ask) is = rw (clock_are time is.0, symbol_are s, decimal_are bid 2, decimal_are ask 2) refl
values_are (event.Trade time s price) is = rw (clock_are time is.0, symbol_are s, decimal_are price 2) refl
values_are (event.Tick time) is = rw (clock_are time is) refl
values_are (event.Opening time) is = rw (clock_are time is) refl
values_are (event.End count) is = rw (decimal_are count 0) refl

-- ---- the fields of a line

abbrev pub is_comma : ℕ → Bool
is_comma b = b == comma

not_comma : (b : ℕ) → is_field_byte b ≡ true → is_comma b ≡ false
not_comma b h = grind (arith, nat_tests)

no_commas : (text : List ℕ) → are_field_bytes text ≡ true → All (λ b. is_comma b ≡ false) text
no_commas [] h = All-nil (λ b. is_comma b ≡ false)
no_commas (b ∷ bs) h =
    All-cons (λ x. is_comma x ≡ false) b bs (not_comma b (both_left (is_field_byte b) (are_field_bytes bs) h)) (no_commas bs (both_right (is_field_byte b) (are_field_bytes bs) h))

-- a line of fields is cut into them
pub fields_back : (field : List ℕ) (fields : List (List ℕ)) → are_field_bytes field ≡ true → list_all are_field_bytes fields ≡ true → fields_of_line (field ++ behind_commas fields) ≡ field ∷ fields
fields_back field [] h all = rw append-nil (slice_split_none is_comma field (no_commas field h))
fields_back field (next ∷ fields) h all =
    slice_split_at is_comma field comma (next ++ behind_commas fields) (no_commas field h) refl
    ∙ ap (λ fs. field ∷ fs) (fields_back next fields (both_left (are_field_bytes next) (list_all are_field_bytes fields) all) (both_right (are_field_bytes next) (list_all are_field_bytes fields) all))

field_byte_is_plain : (b : ℕ) → is_field_byte b ≡ true → is_plain b ≡ true
field_byte_is_plain b h = both_left (is_plain b) (not (b == comma)) h

plain_field : (text : List ℕ) → are_field_bytes text ≡ true → list_all is_plain text ≡ true
plain_field [] h = refl
plain_field (b ∷ bs) h =
    both (is_plain b) (list_all is_plain bs) (field_byte_is_plain b (both_left (is_field_byte b) (are_field_bytes bs) h)) (plain_field bs (both_right (is_field_byte b) (are_field_bytes bs) h))

plain_joined : (xs ys : List ℕ) → list_all is_plain xs ≡ true → list_all is_plain ys ≡ true → list_all is_plain (xs ++ ys) ≡ true
plain_joined xs ys h k = list_all-append is_plain xs ys ∙ both (list_all is_plain xs) (list_all is_plain ys) h k

plain_behind : (fields : List (List ℕ)) → list_all are_field_bytes fields ≡ true → list_all is_plain (behind_commas fields) ≡ true
plain_behind [] h = refl
plain_behind (field ∷ fields) h =
    plain_joined (comma ∷ field) (behind_commas fields) (plain_field field (both_left (are_field_bytes field) (list_all are_field_bytes fields) h))
    (plain_behind fields (both_right (are_field_bytes field) (list_all are_field_bytes fields) h))

-- ---- each part is read back

date_back : (day : DayNo) → IsDayInRange day → date_of_text (day_text day) ≡ Some day
date_back day is = ap result_ok (read_back_day day is)

series_back : (s : Symbol) → IsSymbolInRange s → series_of_text (symbol_text s) ≡ Some s
series_back s is = ap result_ok (read_back_symbol s is)

price_back : (price : ℕ) → price ≤ 5000000 → price_of_text (price_text price) ≡ Some price
price_back price most = ap result_ok (read_back_decimal price 2 5000000 most)

trade_price_back : (price : ℕ) → 1 ≤ price → price ≤ 5000000 → if_positive (price_of_text (price_text price)) ≡ Some price
trade_price_back price low most =
    let test : nat_le 1 price ≡ true = grind (arith, nat_tests) in
    ap if_positive (price_back price most) ∙ rw test refl

count_back : (count : ℕ) → count ≤ 10000000 → count_of_text (decimal_text count 0) ≡ Some count
count_back count most = ap result_ok (read_back_decimal count 0 10000000 most)

rate_back : (rate : ℤ) → IsRateInRange rate → rate_of_text (rate_text rate) ≡ Some rate
rate_back rate is = read_back_signed rate 6 5000000 25000000 is.0 is.1

-- ---- the event of a line

event_back : (e : Event) → IsEventInRange e → event_of_fields (kind_text (kind_of_event e) ∷ value_fields e) ≡ Ok e
event_back (event.Header day) is = rw (date_back day is) refl
event_back (event.Expiry x) is = rw (read_back_root x.root, date_back x.date is) refl
event_back (event.Rate x rate) is = rw (read_back_root x.root, date_back x.date is.0, rate_back rate is.1) refl
event_back (event.Series s) is = rw (series_back s is) refl
event_back (event.Quote time s bid ask) is = rw (read_back_clock time is.0, series_back s is.1, price_back bid is.2, price_back ask is.3) refl
event_back (event.Trade time s price) is = rw (read_back_clock time is.0, series_back s is.1, trade_price_back price is.2 is.3) refl
event_back (event.Tick time) is = rw (read_back_clock time is) refl
event_back (event.Opening time) is = rw (read_back_clock time is) refl
event_back (event.End count) is = rw (count_back count is) refl

kind_some : (e : Event) (rest : List ℕ) → (length (kind_text (kind_of_event e) ++ rest) == 0) ≡ false
kind_some e rest =
    elim (kind_of_event e) as (λ k. (length (kind_text k ++ rest) == 0) ≡ false) [
      | kind.Header ↦ grind (arith, nat_tests)
      | kind.Expiry ↦ grind (arith, nat_tests)
      | kind.Rate ↦ grind (arith, nat_tests)
      | kind.Series ↦ grind (arith, nat_tests)
      | kind.Quote ↦ grind (arith, nat_tests)
      | kind.Trade ↦ grind (arith, nat_tests)
      | kind.Tick ↦ grind (arith, nat_tests)
      | kind.Opening ↦ grind (arith, nat_tests)
      | kind.End ↦ grind (arith, nat_tests)
    ]

-- a plain line that is not empty is read by its fields
by_fields : (before : List Event) (line : List ℕ) (fields : List (List ℕ)) (e : Event) → (length line == 0) ≡ false → list_all is_plain line ≡ true → fields_of_line line ≡ fields
    → event_of_fields fields ≡ Ok e → order_fault before e ≡ None → event_of_line before line ≡ Ok e
by_fields before line fields e some plain cut said order =
    rw (some, plain) (ap (λ fs. event_in_order before (event_of_fields fs)) cut ∙ ap (event_in_order before) said ∙ ap (λ f. event_unless f e) order)

-- the line of an event that may come next is read as the event
pub line_back : (before : List Event) (e : Event) → IsLawfulNext before e → event_of_line before (event_line e) ≡ Ok e
unfolding event_line
line_back before e is =
    let kind = kind_text (kind_of_event e) in
    let first = kind_are e in
    let others = values_are e is.in_range in
    let plain = plain_joined kind (behind_commas (value_fields e)) (plain_field kind first) (plain_behind (value_fields e) others) in
    by_fields before (kind ++ behind_commas (value_fields e)) (kind ∷ value_fields e) e (kind_some e (behind_commas (value_fields e))) plain (fields_back kind (value_fields e) first others) (event_back e is.in_range) is.in_order
