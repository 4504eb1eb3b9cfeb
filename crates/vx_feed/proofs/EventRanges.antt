-- The event that a line says is in range.
use Rattle.std.proofs.Common.{◌≡◌, subst, refl, ℕ, ◌+◌, ◌≤◌, Bool, true, false, cond, not, ◌&&◌, List, [], ◌∷◌, take, drop, slice_range}
use Rattle.std.proofs.Common.{slice_index, length, ℤ, pos, neg_ℤ, Option, Some, None, Result, Ok, Err, arith}
use Rattle.std.specs.Prelude.{nat_le, nat_lt, ◌==◌}
use Rattle.std.specs.Option.{option_map}
use Rattle.std.specs.Result.{result_ok}
use Rattle.std.proofs.lemmas.Bool.{and_parts, leb-true, ltb-false}
use Rattle.std.proofs.lemmas.Int.{ints}
use Rattle.vx_num.specs.Decimal.{decimal_of, is_decimal, places_of, scaled_value}
use Rattle.vx_num.specs.declared.fault.DecimalFault.{DecimalFault}
use Rattle.vx_num.specs.declared.fault.DecimalFault.TheVariants.{NotDigit, Places, TooLarge}
use Rattle.vx_clock.specs.declared.days.DayNo.{DayNo}
use Rattle.vx_clock.specs.declared.terms.Root.{Root}
use Rattle.vx_clock.specs.Day.{IsDayInRange, day_of_date, day_of_text}
use Rattle.vx_clock.specs.Digits.{are_digits, digits_value}
use Rattle.vx_clock.proofs.TextRanges.{day_of_date_range, day_of_text_range, past_fault, past_test, some_test, time_of_text_range}
use Rattle.vx_symbol.specs.Rows.{IsRateInRange}
use Rattle.vx_symbol.specs.Symbol.{date_of_digits, strike_of, side_of, root_of, is_strike_in_range, IsStrikeInRange, IsSymbolInRange}
use Rattle.vx_symbol.specs.Symbol.{symbol_of_fields, symbol_of_text}
use Rattle.vx_symbol.specs.declared.symbols.Side.{Side}
use Rattle.vx_symbol.specs.declared.symbols.Symbol.{Symbol}
use Rattle.vx_symbol.specs.declared.symbols.SymbolFault.TheVariants.{Length}
use Rattle.vx_feed.specs.declared.events.Event.{Event}
use Rattle.vx_feed.specs.declared.events.Event.TheVariants as event
use Rattle.vx_feed.specs.declared.faults.FeedFault.TheVariants as fault
use Rattle.vx_feed.specs.declared.kinds.Kind.{Kind}
use Rattle.vx_feed.specs.declared.kinds.Kind.TheVariants as kind
use Rattle.vx_clock.specs.Clock.{time_of_text}
use Rattle.vx_clock.specs.RootText.{root_of_text}
use Rattle.vx_feed.specs.Form.{is_version, date_of_text, rate_of_text, price_of_text, if_positive, count_of_text, series_of_text, header_event}
use Rattle.vx_fields.specs.Lines.{field}
use Rattle.vx_feed.specs.Form.{expiry_event, rate_event, series_event, quote_event, trade_event, tick_event, opening_event, end_event}
use Rattle.vx_feed.specs.Form.{field_count, kind_of_text, event_of_kind, event_if_counted, event_of_fields}
use Rattle.vx_feed.specs.Ranges.{IsMinute, IsPrice, IsEventInRange}

-- ---- what an answer says of the tests before it

ok_of : {A E : Type 0} (r : Result A E) (v : A) → result_ok r ≡ Some v → r ≡ Ok v
ok_of (Ok x) v h = let same : x ≡ v = cc in cc
ok_of (Err x) v h = absurd cc

-- what is mapped
mapped : {A B : Type 0} (f : A → B) (o : Option A) (v : B) → option_map f o ≡ Some v → (x : A) × (o ≡ Some x) × (f x ≡ v)
mapped f None v h = absurd cc
mapped f (Some x) v h = (x, refl, cc)

-- ---- numbers

decimal_max : (text : List ℕ) (places max v : ℕ) → decimal_of text places max ≡ Ok v → v ≤ max
unfolding decimal_of
decimal_max [] places max v h = absurd cc
decimal_max (b ∷ bs) places max v h =
    let value : Result ℕ DecimalFault = Ok (scaled_value (b ∷ bs) places) in
    let form = past_fault (not (is_decimal (b ∷ bs))) NotDigit (cond (nat_lt places (places_of (b ∷ bs))) (Err Places) (cond (nat_lt max (scaled_value (b ∷ bs) places)) (Err TooLarge) value)) v h in
    let few = past_fault (nat_lt places (places_of (b ∷ bs))) Places (cond (nat_lt max (scaled_value (b ∷ bs) places)) (Err TooLarge) value) v form.1 in
    let small = past_fault (nat_lt max (scaled_value (b ∷ bs) places)) TooLarge value v few.1 in
    let is : scaled_value (b ∷ bs) places ≡ v = cc in
    let low = ltb-false max (scaled_value (b ∷ bs) places) small.0 in
    omega arith

decimal_some : (text : List ℕ) (places max v : ℕ) → result_ok (decimal_of text places max) ≡ Some v → v ≤ max
decimal_some text places max v h = decimal_max text places max v (ok_of (decimal_of text places max) v h)

-- ---- days

date_range : (text : List ℕ) (x : DayNo) → date_of_text text ≡ Some x → IsDayInRange x
date_range text x h = day_of_text_range text x (ok_of (day_of_text text) x h)

-- ---- times, rates, prices, series

below_zero_range : (o : Option ℕ) (v : ℤ) → ((n : ℕ) → o ≡ Some n → n ≤ 5000000) → option_map (λ units. neg_ℤ (pos units)) o ≡ Some v → IsRateInRange v
below_zero_range o v most h =
    let found = mapped (λ units. neg_ℤ (pos units)) o v h in
    let high = most found.0 found.1 in
    subst IsRateInRange found.2 (omega (arith, ints), omega (arith, ints))

from_zero_range : (o : Option ℕ) (v : ℤ) → ((n : ℕ) → o ≡ Some n → n ≤ 25000000) → option_map pos o ≡ Some v → IsRateInRange v
from_zero_range o v most h =
    let found = mapped pos o v h in
    let high = most found.0 found.1 in
    subst IsRateInRange found.2 (omega (arith, ints), omega (arith, ints))

either_sign : (minus : Bool) (a b : Option ℤ) (v : ℤ) → (a ≡ Some v → IsRateInRange v) → (b ≡ Some v → IsRateInRange v) → cond minus a b ≡ Some v
    → IsRateInRange v
either_sign true a b v f g h = f h
either_sign false a b v f g h = g h

rate_range : (text : List ℕ) (v : ℤ) → rate_of_text text ≡ Some v → IsRateInRange v
rate_range text v h =
    let low = result_ok (decimal_of (drop 1 text) 6 5000000) in
    let high = result_ok (decimal_of text 6 25000000) in
    either_sign (slice_index text 0 == 45) (option_map (λ units. neg_ℤ (pos units)) low) (option_map pos high) v
    (below_zero_range low v (decimal_some (drop 1 text) 6 5000000))
    (from_zero_range high v (decimal_some text 6 25000000)) h

price_range : (text : List ℕ) (v : ℕ) → price_of_text text ≡ Some v → IsPrice v
price_range text v h = decimal_some text 2 5000000 v h

positive_range : (o : Option ℕ) (v : ℕ) → ((n : ℕ) → o ≡ Some n → IsPrice n) → if_positive o ≡ Some v → (1 ≤ v) × IsPrice v
positive_range None v most h = absurd cc
positive_range (Some n) v most h =
    let found = some_test (nat_le 1 n) (Some n) v h in
    let same : n ≡ v = cc in
    let P : ℕ → Type 0 = λ k. (1 ≤ k) × IsPrice k in
    subst P same (leb-true 1 n found.0, most n refl)

strike_range : (text : List ℕ) (v : ℕ) → strike_of text ≡ Some v → IsStrikeInRange v
strike_range text v h =
    let n = digits_value text in
    let found = some_test (are_digits text && is_strike_in_range n) (Some n) v h in
    let parts = and_parts (nat_le 100000 n) (nat_le n 50000000) (and_parts (are_digits text) (is_strike_in_range n) found.0).1 in
    let same : n ≡ v = cc in
    subst IsStrikeInRange same (leb-true 100000 n parts.0, leb-true n 50000000 parts.1)

symbol_date_range : (text : List ℕ) (x : DayNo) → date_of_digits text ≡ Some x → IsDayInRange x
symbol_date_range text x h =
    let y = 2000 + digits_value (take 2 text) in
    let m = digits_value (slice_range text 2 4) in
    let d = digits_value (slice_range text 4 6) in
    day_of_date_range y m d x (ok_of (day_of_date y m d) x (some_test (are_digits text) (result_ok (day_of_date y m d)) x h).1)

symbol_range : (r : Option Root) (d : Option DayNo) (s : Option Side) (k : Option ℕ) (x : Symbol)
    → ((y : DayNo) → d ≡ Some y → IsDayInRange y) → ((n : ℕ) → k ≡ Some n → IsStrikeInRange n) → symbol_of_fields r d s k ≡ Ok x → IsSymbolInRange x
symbol_range None d s k x f g h = absurd cc
symbol_range (Some r) None s k x f g h = absurd cc
symbol_range (Some r) (Some d) None k x f g h = absurd cc
symbol_range (Some r) (Some d) (Some s) None x f g h = absurd cc
symbol_range (Some r) (Some d) (Some s) (Some k) x f g h =
    let is : record { root = r; date = d; side = s; strike = k } ≡ x = cc in
    subst IsSymbolInRange is (record { date = f d refl; strike = g k refl })

series_range : (text : List ℕ) (x : Symbol) → series_of_text text ≡ Some x → IsSymbolInRange x
series_range text x h =
    let root = root_of (take 6 text) in
    let date = date_of_digits (slice_range text 6 12) in
    let side = side_of (slice_index text 12) in
    let strike = strike_of (slice_range text 13 21) in
    symbol_range root date side strike x (symbol_date_range (slice_range text 6 12)) (strike_range (slice_range text 13 21))
    (past_test (length text == 21) Length (symbol_of_fields root date side strike) x (ok_of (symbol_of_text text) x h)).1

-- ---- events

abbrev IsRanged : {A : Type 0} → (A → Type 0) → Option A → Type 0
IsRanged {A} P o = (x : A) → o ≡ Some x → P x

header_range : (b : Bool) (d : Option DayNo) (e : Event) → IsRanged IsDayInRange d → header_event b d ≡ Ok e → IsEventInRange e
header_range false d e f h = absurd cc
header_range true None e f h = absurd cc
header_range true (Some d) e f h = let is : event.Header d ≡ e = cc in subst IsEventInRange is (f d refl)

expiry_range : (r : Option Root) (d : Option DayNo) (e : Event) → IsRanged IsDayInRange d → expiry_event r d ≡ Ok e → IsEventInRange e
expiry_range None d e f h = absurd cc
expiry_range (Some r) None e f h = absurd cc
expiry_range (Some r) (Some d) e f h = let is : event.Expiry (record { root = r; date = d }) ≡ e = cc in subst IsEventInRange is (f d refl)

rate_line_range : (r : Option Root) (d : Option DayNo) (v : Option ℤ) (e : Event) → IsRanged IsDayInRange d → IsRanged IsRateInRange v
    → rate_event r d v ≡ Ok e → IsEventInRange e
rate_line_range None d v e f g h = absurd cc
rate_line_range (Some r) None v e f g h = absurd cc
rate_line_range (Some r) (Some d) None e f g h = absurd cc
rate_line_range (Some r) (Some d) (Some v) e f g h = let is : event.Rate (record { root = r; date = d }) v ≡ e = cc in subst IsEventInRange is (f d refl, g v refl)

series_line_range : (s : Option Symbol) (e : Event) → IsRanged IsSymbolInRange s → series_event s ≡ Ok e → IsEventInRange e
series_line_range None e f h = absurd cc
series_line_range (Some s) e f h = let is : event.Series s ≡ e = cc in subst IsEventInRange is (f s refl)

quote_range : (t : Option ℕ) (s : Option Symbol) (a b : Option ℕ) (e : Event) → IsRanged IsMinute t → IsRanged IsSymbolInRange s → IsRanged IsPrice a
    → IsRanged IsPrice b → quote_event t s a b ≡ Ok e → IsEventInRange e
quote_range None s a b e f g p q h = absurd cc
quote_range (Some t) None a b e f g p q h = absurd cc
quote_range (Some t) (Some s) None b e f g p q h = absurd cc
quote_range (Some t) (Some s) (Some a) None e f g p q h = absurd cc
quote_range (Some t) (Some s) (Some a) (Some b) e f g p q h =
    let is : event.Quote t s a b ≡ e = cc in subst IsEventInRange is (f t refl, g s refl, p a refl, q b refl)

trade_range : (t : Option ℕ) (s : Option Symbol) (a : Option ℕ) (e : Event) → IsRanged IsMinute t → IsRanged IsSymbolInRange s
    → IsRanged (λ n. (1 ≤ n) × IsPrice n) a → trade_event t s a ≡ Ok e → IsEventInRange e
trade_range None s a e f g p h = absurd cc
trade_range (Some t) None a e f g p h = absurd cc
trade_range (Some t) (Some s) None e f g p h = absurd cc
trade_range (Some t) (Some s) (Some a) e f g p h =
    let is : event.Trade t s a ≡ e = cc in
    let price = p a refl in
    subst IsEventInRange is (f t refl, g s refl, price.0, price.1)

tick_range : (t : Option ℕ) (e : Event) → IsRanged IsMinute t → tick_event t ≡ Ok e → IsEventInRange e
tick_range None e f h = absurd cc
tick_range (Some t) e f h = let is : event.Tick t ≡ e = cc in subst IsEventInRange is (f t refl)

opening_range : (t : Option ℕ) (e : Event) → IsRanged IsMinute t → opening_event t ≡ Ok e → IsEventInRange e
opening_range None e f h = absurd cc
opening_range (Some t) e f h = let is : event.Opening t ≡ e = cc in subst IsEventInRange is (f t refl)

end_range : (n : Option ℕ) (e : Event) → IsRanged (λ k. k ≤ 10000000) n → end_event n ≡ Ok e → IsEventInRange e
end_range None e f h = absurd cc
end_range (Some n) e f h = let is : event.End n ≡ e = cc in subst IsEventInRange is (f n refl)

kind_range : (k : Kind) (f : List (List ℕ)) (e : Event) → event_of_kind k f ≡ Ok e → IsEventInRange e
kind_range kind.Header f e h = header_range (is_version (field f 2)) (date_of_text (field f 3)) e (date_range (field f 3)) h
kind_range kind.Expiry f e h = expiry_range (root_of_text (field f 2)) (date_of_text (field f 3)) e (date_range (field f 3)) h
kind_range kind.Rate f e h =
    rate_line_range (root_of_text (field f 2)) (date_of_text (field f 3)) (rate_of_text (field f 4)) e (date_range (field f 3)) (rate_range (field f 4)) h
kind_range kind.Series f e h = series_line_range (series_of_text (field f 2)) e (series_range (field f 2)) h
kind_range kind.Quote f e h =
    quote_range (time_of_text (field f 2)) (series_of_text (field f 3)) (price_of_text (field f 4)) (price_of_text (field f 5)) e
    (time_of_text_range (field f 2)) (series_range (field f 3)) (price_range (field f 4)) (price_range (field f 5)) h
kind_range kind.Trade f e h =
    trade_range (time_of_text (field f 2)) (series_of_text (field f 3)) (if_positive (price_of_text (field f 4))) e
    (time_of_text_range (field f 2)) (series_range (field f 3)) (λ v. positive_range (price_of_text (field f 4)) v (price_range (field f 4))) h
kind_range kind.Tick f e h = tick_range (time_of_text (field f 2)) e (time_of_text_range (field f 2)) h
kind_range kind.Opening f e h = opening_range (time_of_text (field f 2)) e (time_of_text_range (field f 2)) h
kind_range kind.End f e h = end_range (count_of_text (field f 2)) e (decimal_some (field f 2) 0 10000000) h

counted_range : (k : Option Kind) (f : List (List ℕ)) (e : Event) → event_if_counted k f ≡ Ok e → IsEventInRange e
counted_range None f e h = absurd cc
counted_range (Some k) f e h = kind_range k f e (past_test (length f == field_count k) fault.Fields (event_of_kind k f) e h).1

-- the event that fields say is in range
pub event_in_range : (f : List (List ℕ)) (e : Event) → event_of_fields f ≡ Ok e → IsEventInRange e
event_in_range f e h = counted_range (kind_of_text (field f 1)) f e h
