-- The first trades of every series after one more event.
use Rattle.std.proofs.Common.{◌≡◌, ◌≢◌, ℕ, Bool, true, false, cond, List, [], ◌∷◌, ◌++◌, Option, Some, None, option_and_then, refl, sym, ◌∙◌, ap}
use Rattle.std.proofs.Common.{subst, inl, inr}
use Rattle.std.specs.Prelude.{option_map, find}
use Rattle.std.specs.List.{list_any}
use Rattle.std.specs.Option.{option_or, option_map_or}
use Rattle.std.proofs.lemmas.Bool.{cases_eq, cases_Bool}
use Rattle.vx_clock.specs.declared.terms.Expiry.{Expiry}
use Rattle.vx_symbol.specs.declared.symbols.Side.{Side}
use Rattle.vx_symbol.specs.declared.symbols.Side.TheVariants.{Call, Put}
use Rattle.vx_symbol.specs.declared.symbols.Symbol.{Symbol}
use Rattle.vx_symbol.specs.declared.rows.Price.{Price}
use Rattle.vx_symbol.specs.declared.rows.StrikeRow.{StrikeRow}
use Rattle.vx_feed.specs.declared.events.Event.{Event}
use Rattle.vx_feed.specs.declared.events.Event.TheVariants as event
use Rattle.vx_feed.specs.Same.{is_same_side, is_same_series, is_same_expiry}
use Rattle.vx_feed.specs.Standing.{is_opening, opening_trade, trade_of}
use Rattle.vx_feed.specs.Listed.{expiry_of, is_listed, series_at, standing_price}
use Rattle.vx_feed.specs.Next.{trade_after}
use Rattle.vx_feed.specs.Order.{IsLawfulNext}
use Rattle.vx_feed.specs.Ranges.{IsPrice}
use Rattle.vx_feed.proofs.NextEvent.{next_trade}
use Rattle.vx_check.specs.declared.table.Half.{Half}
use Rattle.vx_check.specs.declared.table.Table.{Table}
use Rattle.vx_check.specs.declared.trades.FirstTrades.{FirstTrades}
use Rattle.vx_check.specs.Rising.{item_at}
use Rattle.vx_check.specs.Kept.{is_table_of}
use Rattle.vx_check.specs.Trades.{SetsTrade, is_listed_in, price_of_trade, traded_at, traded_on, trades_strike, trades_when_traded}
use Rattle.vx_check.specs.Tables.{row_strike, half_strike, AreBoth, AreRising, IsEmptyTable, IsTableKept, SetsRate, ListsInTable, QuotesInTable}
use Rattle.vx_check.specs.Tables.{TradesInTable, ChangesTable, SameTables, TakesTables, is_listed_in_table}
use Rattle.vx_check.specs.StandsFor.{AreFirstTrades, only_side, listed_half}
use Rattle.vx_check.specs.NextRows.{both_sides, listed_row}
use Rattle.vx_check.proofs.Rising.{with_same}
use Rattle.vx_feed.proofs.SameLemmas.{expiry_from_same}
use Rattle.vx_feed.proofs.NextRows.{apart_series, other_strike}
use Rattle.vx_feed.proofs.SameAfter.{trade_opened, trade_same}
use Rattle.vx_check.proofs.NextSeries.{Keeps, row_item, listed_rows_still_rise, same_strike}
use Rattle.vx_check.proofs.NextTables.{AllSay, Says}

-- ---- whether a series is listed

listed_of : Side → Bool → Bool → Bool
listed_of Put put call = put
listed_of Call put call = call

listed_by_sides : (side : Side) (k : ℕ) (lp lc : Bool) (pp pc : Price)
    → is_listed_in side (both_sides k lp lc pp pc) (only_side k lp lc pp pc) ≡ listed_of side lp lc
unfolding listed_of
listed_by_sides Put k true true pp pc = refl
listed_by_sides Put k true false pp pc = refl
listed_by_sides Put k false true pp pc = refl
listed_by_sides Put k false false pp pc = refl
listed_by_sides Call k true true pp pc = refl
listed_by_sides Call k true false pp pc = refl
listed_by_sides Call k false true pp pc = refl
listed_by_sides Call k false false pp pc = refl

listed_at : (x : Expiry) (events : List Event) (side : Side) (k : ℕ)
    → is_listed_in side (listed_row x events k) (listed_half x events k) ≡ is_listed (series_at x side k) events
unfolding listed_of
listed_at x events Put k =
    listed_by_sides Put k (is_listed (series_at x Put k) events) (is_listed (series_at x Call k) events)
    (standing_price events (series_at x Put k)) (standing_price events (series_at x Call k))
listed_at x events Call k =
    listed_by_sides Call k (is_listed (series_at x Put k) events) (is_listed (series_at x Call k) events)
    (standing_price events (series_at x Put k)) (standing_price events (series_at x Call k))

-- a series is listed where the rows and the single sides that are kept say so
kept_listed : (x : Expiry) (events : List Event) (rows : List StrikeRow) (halves : List Half) → Keeps x events rows halves
    → (side : Side) (k : ℕ)
    → is_listed_in side (item_at row_strike k rows) (item_at half_strike k halves) ≡ is_listed (series_at x side k) events
kept_listed x events rows halves h side k =
    ap (λ o. is_listed_in side o (item_at half_strike k halves)) (row_item x events rows halves h k)
    ∙ ap (is_listed_in side (listed_row x events k)) (h.halves_are.each k) ∙ listed_at x events side k

-- ---- trades that stay

still_traded : (x : Expiry) (events later : List Event) (trades : List FirstTrades)
    → ((side : Side) (k : ℕ) → opening_trade (series_at x side k) later ≡ opening_trade (series_at x side k) events)
    → AreFirstTrades x events trades → AreFirstTrades x later trades
still_traded x events later trades same h = record {
  rises = h.rises;
  each = λ side k. h.each side k
      ∙ sym (ap (option_map price_of_trade) (same side k));
}

-- ---- a trade of a series that is listed or not

first_some : (o : Option ℕ) (cents : ℕ) → option_or (option_map price_of_trade o)
    (Some (price_of_trade cents)) ≡ option_map price_of_trade (option_or o (Some cents))
first_some None cents = refl
first_some (Some n) cents = refl

own_side : (listed : Bool) (side : Side) (k cents : ℕ) (o : Option FirstTrades) (first : Option ℕ)
    → option_and_then (traded_on side) o ≡ option_map price_of_trade first
    → option_and_then (traded_on side) (trades_when_traded listed side k (price_of_trade cents) o) ≡ option_map price_of_trade
    (trade_after false listed first (Some cents))
own_side false side k cents o first h = h
own_side true Put k cents None first h = ap (λ q. option_or q (Some (price_of_trade cents))) h ∙ first_some first cents
own_side true Call k cents None first h = ap (λ q. option_or q (Some (price_of_trade cents))) h ∙ first_some first cents
own_side true Put k cents (Some t) first h = ap (λ q. option_or q (Some (price_of_trade cents))) h ∙ first_some first cents
own_side true Call k cents (Some t) first h = ap (λ q. option_or q (Some (price_of_trade cents))) h ∙ first_some first cents

abbrev opposite_of : Side → Side
opposite_of Put = Call
opposite_of Call = Put

other_side : (listed : Bool) (side : Side) (k : ℕ) (price : Price) (o : Option FirstTrades)
    → option_and_then (traded_on (opposite_of side)) (trades_when_traded listed side k price o) ≡ option_and_then
    (traded_on (opposite_of side)) o
other_side false side k price o = refl
other_side true Put k price None = refl
other_side true Call k price None = refl
other_side true Put k price (Some t) = refl
other_side true Call k price (Some t) = refl

said_if : (b : Bool) (cents : ℕ) → b ≡ true → cond b (Some cents) None ≡ Some cents
said_if true cents h = refl
said_if false cents h = absurd (cc h)

unsaid_if : (b : Bool) (cents : ℕ) → b ≡ false → cond b (Some cents) None ≡ None
unsaid_if true cents h = absurd (cc h)
unsaid_if false cents h = refl

-- a trade says nothing of other expiries
apart_trade : (x : Expiry) (time : ℕ) (s : Symbol) (cents : ℕ) → is_same_expiry x (expiry_of s) ≡ false → (side : Side) (k : ℕ)
    → trade_of (series_at x side k) (event.Trade time s cents) ≡ None
apart_trade x time s cents apart side k = unsaid_if (is_same_series (series_at x side k) s) cents (apart_series x s side k apart)

module _ (x : Expiry) (own : Side) (k time cents : ℕ) (events : List Event) where
  abbrev traded : Symbol
  traded = series_at x own k

  abbrev trade_event : Event
  trade_event = event.Trade time traded cents

  own_trade : list_any is_opening events ≡ false → (side : Side) → (is_same_side side own ≡ true)
      → opening_trade (series_at x side k) (events ++ trade_event ∷ []) ≡ trade_after false (is_listed (series_at x side k) events)
      (opening_trade (series_at x side k) events) (Some cents)
  own_trade unopened side same =
      next_trade (series_at x side k) events trade_event
      ∙ ap (λ b. trade_after b (is_listed (series_at x side k) events) (opening_trade (series_at x side k) events)
      (trade_of (series_at x side k) trade_event)) unopened
      ∙ ap (trade_after false (is_listed (series_at x side k) events) (opening_trade (series_at x side k) events))
      (said_if (is_same_series (series_at x side k) traded) cents (same_strike traded side ∙ same))

  other_trade : (side : Side) → is_same_side side own ≡ false → opening_trade (series_at x side k)
      (events ++ trade_event ∷ []) ≡ opening_trade (series_at x side k) events
  other_trade side apart =
      trade_same (series_at x side k) events trade_event (unsaid_if (is_same_series (series_at x side k) traded) cents
      (same_strike traded side ∙ apart))

  far_trade : (side : Side) (j : ℕ) → j ≢ k → opening_trade (series_at x side j) (events ++ trade_event ∷ []) ≡ opening_trade
      (series_at x side j) events
  far_trade side j past =
      trade_same (series_at x side j) events trade_event (unsaid_if (is_same_series (series_at x side j) traded) cents
      (other_strike (expiry_of traded) traded side j past))

abbrev Shows : Expiry → Side → ℕ → List Event → List FirstTrades → Type 0
Shows x side k events trades = traded_at side k trades ≡ option_map price_of_trade (opening_trade (series_at x side k) events)

-- at the strike of the trade
shows_at : (x : Expiry) (own side : Side) (k time cents : ℕ) (events : List Event) (trades new : List FirstTrades)
    → list_any is_opening events ≡ false
    → item_at trades_strike k new ≡ trades_when_traded (is_listed (series_at x own k) events) own k (price_of_trade cents)
    (item_at trades_strike k trades)
    → Shows x side k events trades → Shows x side k (events ++ event.Trade time (series_at x own k) cents ∷ []) new
shows_at x Put Put k time cents events trades new unopened at h =
    ap (option_and_then (traded_on Put)) at ∙ own_side (is_listed (series_at x Put k) events) Put k cents (item_at trades_strike k trades)
    (opening_trade (series_at x Put k) events) h
    ∙ sym (ap (option_map price_of_trade) (own_trade x Put k time cents events unopened Put refl))
shows_at x Call Call k time cents events trades new unopened at h =
    ap (option_and_then (traded_on Call)) at ∙ own_side (is_listed (series_at x Call k) events) Call k cents
    (item_at trades_strike k trades) (opening_trade (series_at x Call k) events) h
    ∙ sym (ap (option_map price_of_trade) (own_trade x Call k time cents events unopened Call refl))
shows_at x Put Call k time cents events trades new unopened at h =
    ap (option_and_then (traded_on Call)) at ∙ other_side (is_listed (series_at x Put k) events) Put k (price_of_trade cents)
    (item_at trades_strike k trades) ∙ h
    ∙ sym (ap (option_map price_of_trade) (other_trade x Put k time cents events Call refl))
shows_at x Call Put k time cents events trades new unopened at h =
    ap (option_and_then (traded_on Put)) at ∙ other_side (is_listed (series_at x Call k) events) Call k (price_of_trade cents)
    (item_at trades_strike k trades) ∙ h
    ∙ sym (ap (option_map price_of_trade) (other_trade x Call k time cents events Put refl))

traded_now : (time : ℕ) (s : Symbol) (cents : ℕ) (events : List Event) (trades new : List FirstTrades) → list_any is_opening events ≡ false
    → SetsTrade (is_listed s events) s.side s.strike (price_of_trade cents) trades new
    → AreFirstTrades (expiry_of s) events trades → AreFirstTrades (expiry_of s) (events ++ event.Trade time s cents ∷ []) new
traded_now time s cents events trades new unopened sets h =
    let x = expiry_of s in
    let later = events ++ event.Trade time s cents ∷ [] in
    record {
      rises = sets.rises;
      each = λ side k. elim (cases_eq k s.strike) [
        | inl at ↦ subst (λ n. Shows x side n later new) (sym at)
            (shows_at x s.side side s.strike time cents events trades new unopened sets.at_key (h.each side s.strike))
        | inr past ↦
            ap (option_and_then (traded_on side)) (sets.others k past) ∙ h.each side k
            ∙ sym (ap (option_map price_of_trade) (far_trade x s.side s.strike time cents events side k past))
      ];
    }

-- ---- the trades of all expiries

abbrev pub trades_in : Option Table → List FirstTrades
trades_in o = option_map_or (λ (table : Table). table.trades.items) o []

abbrev pub AllTraded : List Table → List Event → Type 0
AllTraded tables events = (x : Expiry) → AreFirstTrades x events (trades_in (find (is_table_of x) tables))

abbrev AreTradesAsBefore : List Table → List Table → Type 0
AreTradesAsBefore old new = (x : Expiry) → trades_in (find (is_table_of x) new) ≡ trades_in (find (is_table_of x) old)

all_still : (old new : List Table) (events later : List Event) → AreTradesAsBefore old new
    → ((s : Symbol) → opening_trade s later ≡ opening_trade s events) → AllTraded old events → AllTraded new later
all_still old new events later same trades all x =
    subst (AreFirstTrades x later) (sym (same x)) (still_traded x events later (trades_in (find (is_table_of x) old))
    (λ side k. trades (series_at x side k)) (all x))

both_as_before : (R : Table → Table → Type 0) → ((t u : Table) → R t u → u.trades.items ≡ t.trades.items) → (o new : Option Table)
    → AreBoth R o new → trades_in new ≡ trades_in o
both_as_before R same None None both = refl
both_as_before R same None (Some u) both = absurd both
both_as_before R same (Some t) None both = absurd both
both_as_before R same (Some t) (Some u) both = same t u both

changed_as_before : (y : Expiry) (R : Table → Table → Type 0) → ((t u : Table) → R t u → u.trades.items ≡ t.trades.items)
    → (old new : List Table) → ChangesTable y R old new → AreTradesAsBefore old new
changed_as_before y R same old new h x =
    elim (cases_Bool (is_same_expiry x y)) [
      | inl is ↦ subst (λ z. trades_in (find (is_table_of z) new) ≡ trades_in (find (is_table_of z) old)) (sym (expiry_from_same x y is))
          (both_as_before R same (find (is_table_of y) old) (find (is_table_of y) new) h.own)
      | inr apart ↦ ap trades_in (h.others x apart)
    ]

added_as_before : (y : Expiry) (t : Table) → IsEmptyTable y t → (old : List Table) → AreTradesAsBefore old (old ++ t ∷ [])
added_as_before y t empty [] x = by_test (is_table_of x t) where
  by_test : (b : Bool) → trades_in (cond b (Some t) None) ≡ []
  by_test true = empty.trades
  by_test false = refl
added_as_before y t empty (z ∷ zs) x = by_test (is_table_of x z) (added_as_before y t empty zs x) where
  by_test : (b : Bool) → trades_in (find (is_table_of x) (zs ++ t ∷ [])) ≡ trades_in (find (is_table_of x) zs)
      → trades_in (cond b (Some z) (find (is_table_of x) (zs ++ t ∷ []))) ≡ trades_in (cond b (Some z) (find (is_table_of x) zs))
  by_test true more = refl
  by_test false more = more

-- ---- a trade

own_traded : (o new : Option Table) (time : ℕ) (s : Symbol) (cents : ℕ) (events : List Event) → list_any is_opening events ≡ false
    → IsPrice cents
    → AreBoth (TradesInTable s.side s.strike cents) o new → Says o (expiry_of s) events
    → AreFirstTrades (expiry_of s) events (trades_in o) → AreFirstTrades (expiry_of s) (events ++ event.Trade time s cents ∷ [])
    (trades_in new)
own_traded None None time s cents events unopened range both says h =
    let listed : false ≡ is_listed s events = kept_listed (expiry_of s) events [] [] says.keeps s.side s.strike in
    let Sets : Bool → Type 0 = λ b. SetsTrade b s.side s.strike (price_of_trade cents) [] [] in
    traded_now time s cents events [] [] unopened (subst Sets listed (with_same trades_strike s.strike [] tt)) h
own_traded None (Some u) time s cents events unopened range both says h = absurd both
own_traded (Some t) None time s cents events unopened range both says h = absurd both
own_traded (Some t) (Some u) time s cents events unopened range both says h =
    let x = expiry_of s in
    let listed : is_listed_in_table s.side s.strike t ≡ is_listed s events = kept_listed x events t.rows.items t.halves.items says.keeps s.side s.strike in
    let rising : AreRising t = record { rows = listed_rows_still_rise x events t.rows.items t.halves.items says.keeps; halves = says.keeps.halves_are.rises } in
    let Sets : Bool → Type 0 = λ b. SetsTrade b s.side s.strike (price_of_trade cents) t.trades.items u.trades.items in
    traded_now time s cents events t.trades.items u.trades.items unopened (subst Sets listed (both.sets range rising h.rises)) h

all_traded : (old new : List Table) (time : ℕ) (s : Symbol) (cents : ℕ) (events : List Event) → list_any is_opening events ≡ false
    → IsPrice cents
    → ChangesTable (expiry_of s) (TradesInTable s.side s.strike cents) old new → AllSay old events → AllTraded old events
    → AllTraded new (events ++ event.Trade time s cents ∷ [])
all_traded old new time s cents events unopened range h say all x =
    let y = expiry_of s in
    let e = event.Trade time s cents in
    elim (cases_Bool (is_same_expiry x y)) [
      | inl same ↦
          subst (λ z. AreFirstTrades z (events ++ e ∷ []) (trades_in (find (is_table_of z) new))) (sym (expiry_from_same x y same))
          (own_traded (find (is_table_of y) old) (find (is_table_of y) new) time s cents events unopened range h.own (say y) (all y))
      | inr apart ↦
          subst (λ (o : Option Table). AreFirstTrades x (events ++ e ∷ []) (trades_in o)) (sym (h.others x apart))
          (still_traded x events (events ++ e ∷ []) (trades_in (find (is_table_of x) old))
          (λ side k. trade_same (series_at x side k) events e (apart_trade x time s cents apart side k)) (all x))
    ]

-- ---- any event

same_as_before : (old new : List Table) → new ≡ old → AreTradesAsBefore old new
same_as_before old new same x = ap (λ (l : List Table). trades_in (find (is_table_of x) l)) same

pub all_traded_after : (opened : Bool) (old new : List Table) (events : List Event) (e : Event) → list_any is_opening events ≡ opened
    → IsLawfulNext events e
    → TakesTables opened e old new → AllSay old events → AllTraded old events → AllTraded new (events ++ e ∷ [])
all_traded_after opened old new events (event.Header day) is lawful h say all =
    all_still old new events (events ++ event.Header day ∷ []) (same_as_before old new h)
    (λ s. trade_same s events (event.Header day) refl) all
all_traded_after opened old new events (event.Tick time) is lawful h say all =
    all_still old new events (events ++ event.Tick time ∷ []) (same_as_before old new h)
    (λ s. trade_same s events (event.Tick time) refl) all
all_traded_after opened old new events (event.Opening time) is lawful h say all =
    all_still old new events (events ++ event.Opening time ∷ []) (same_as_before old new h)
    (λ s. trade_same s events (event.Opening time) refl) all
all_traded_after opened old new events (event.End count) is lawful h say all =
    all_still old new events (events ++ event.End count ∷ []) (same_as_before old new h)
    (λ s. trade_same s events (event.End count) refl) all
all_traded_after opened old new events (event.Expiry y) is lawful h say all =
    all_still old new events (events ++ event.Expiry y ∷ [])
    (λ x. ap (λ (l : List Table). trades_in (find (is_table_of x) l)) h.added ∙ added_as_before y h.table h.is_empty old x)
    (λ s. trade_same s events (event.Expiry y) refl) all
all_traded_after opened old new events (event.Rate y rate) is lawful h say all =
    all_still old new events (events ++ event.Rate y rate ∷ []) (changed_as_before y (SetsRate rate) (λ t u r. r.trades) old new h)
    (λ s. trade_same s events (event.Rate y rate) refl) all
all_traded_after opened old new events (event.Series t) is lawful h say all =
    all_still old new events (events ++ event.Series t ∷ [])
    (changed_as_before (expiry_of t) (ListsInTable t.side t.strike) (λ a b r. r.trades) old new h)
    (λ s. trade_same s events (event.Series t) refl) all
all_traded_after opened old new events (event.Quote time t bid ask) is lawful h say all =
    all_still old new events (events ++ event.Quote time t bid ask ∷ [])
    (changed_as_before (expiry_of t) (QuotesInTable t.side t.strike bid ask) (λ a b r. r.trades) old new h)
    (λ s. trade_same s events (event.Quote time t bid ask) refl) all
all_traded_after true old new events (event.Trade time t cents) is lawful h say all =
    all_still old new events (events ++ event.Trade time t cents ∷ []) (same_as_before old new h)
    (λ s. trade_opened s events (event.Trade time t cents) is) all
all_traded_after false old new events (event.Trade time t cents) is lawful h say all =
    all_traded old new time t cents events is lawful.in_range.3 h say all

-- ---- nothing changed

pub all_traded_still : (old new : List Table) (events : List Event) → SameTables old new → AllTraded old events → AllTraded new events
all_traded_still old new events h all =
    all_still old new events events (λ x. both_as_before IsTableKept (λ t u r. r.trades) (find (is_table_of x) old)
    (find (is_table_of x) new) (h.each x)) (λ s. refl) all
