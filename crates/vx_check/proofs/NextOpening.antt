-- The opening after one more event.
use Rattle.std.proofs.Common.{◌≡◌, ℕ, ◌+◌, ◌<◌, true, false, cond, List, [], ◌∷◌, ◌++◌, map, length, Option, Some, None, option_and_then, refl, sym}
use Rattle.std.proofs.Common.{◌∙◌, ap, subst}
use Rattle.std.specs.Prelude.{ℤ, MatchOption, IsSomeAnd, is_some, option_map, find}
use Rattle.std.specs.List.{list_any}
use Rattle.std.specs.Option.{option_or}
use Rattle.vx_clock.specs.declared.days.DayNo.{DayNo}
use Rattle.vx_clock.specs.declared.terms.Expiry.{Expiry}
use Rattle.vx_symbol.specs.declared.symbols.Side.{Side}
use Rattle.vx_symbol.specs.declared.symbols.Side.TheVariants.{Call, Put}
use Rattle.vx_symbol.specs.declared.symbols.Symbol.{Symbol}
use Rattle.vx_symbol.specs.declared.rows.Price.{Price}
use Rattle.vx_symbol.specs.declared.rows.StrikeRow.{StrikeRow}
use Rattle.vx_feed.specs.declared.events.Event.{Event}
use Rattle.vx_feed.specs.declared.events.Event.TheVariants as event
use Rattle.vx_feed.specs.declared.limits.TheConstants.{LINES_MAX}
use Rattle.vx_feed.specs.Same.{is_same_expiry}
use Rattle.vx_feed.specs.Said.{first_said}
use Rattle.vx_feed.specs.Standing.{before_opening, is_opening, opening_trade, since_listed, standing_rate, trade_of}
use Rattle.vx_feed.specs.Listed.{declared_expiries, header_day, is_declared, listed_strikes, row_of, series_at, standing_price, trade_date}
use Rattle.vx_feed.specs.Opening.{opening_minute, opening_time, traded_price}
use Rattle.vx_feed.specs.Order.{IsLawfulNext}
use Rattle.vx_feed.proofs.NextEvent.{before_opening-all, first_said-push}
use Rattle.vx_feed.proofs.OpeningLemmas.{before_kept, before_now, not_opened, time_is}
use Rattle.vx_formula.specs.declared.limits.TheConstants.{THIRTY_DAYS}
use Rattle.vx_formula.specs.Term.{TermFacts}
use Rattle.vx_claims.specs.Seen.{opening_expiry}
use Rattle.vx_check.specs.declared.book.PlainBook.{PlainBook}
use Rattle.vx_check.specs.declared.opening.Opening.{Opening}
use Rattle.vx_check.specs.declared.opening.OpeningTerm.{OpeningTerm}
use Rattle.vx_check.specs.declared.table.Table.{Table}
use Rattle.vx_check.specs.declared.trades.FirstTrades.{FirstTrades}
use Rattle.vx_check.specs.Kept.{is_table_of}
use Rattle.vx_check.specs.Trades.{price_at_opening, price_of_trade, row_at_opening, traded_at}
use Rattle.vx_check.specs.Opening.{IsOpeningOfEvents, IsTermOfTable, OpensAt, ChangesOpening, facts_of_term, opening_table}
use Rattle.vx_check.specs.Tables.{AreBoth, expiry_of_table}
use Rattle.vx_check.specs.StandsFor.{AreFirstTrades, PlainStandsFor}
use Rattle.vx_check.proofs.Pushes.{header_is_first, not_second, one_line_more, trade_date-push}
use Rattle.vx_check.proofs.NextTables.{AllSay, Says, declared_if_there, none_declared}
use Rattle.vx_check.proofs.NextTrades.{AllTraded, trades_in}

-- ---- whether the opening was taken

-- what is kept of the opening after some events
abbrev pub Keeps : Option Opening → List Event → Type 0
Keeps opening events = MatchOption opening (opening_time events ≡ None) (IsOpeningOfEvents events)

-- the opening is kept just where one was taken
pub is_opened : (opening : Option Opening) (events : List Event) → Keeps opening events → list_any is_opening events ≡ is_some opening
is_opened None events h = sym (time_is events) ∙ ap is_some h
is_opened (Some opening) events h = sym (time_is events) ∙ ap is_some h.time

-- ---- the term by the events before the opening

abbrev price_by : List Event → Symbol → Price
price_by before s = traded_price (first_said (trade_of s) (since_listed s before)) (standing_price before s)

abbrev facts_by : Expiry → List Event → TermFacts
facts_by x before = record {
  rows = map (row_of (price_by before) x) (listed_strikes x before);
  rate = standing_rate x before;
  minutes = THIRTY_DAYS;
}

abbrev term_by : List Event → DayNo → Option TermFacts
term_by before day = cond (is_declared (opening_expiry day) before) (Some (facts_by (opening_expiry day) before)) None

-- ---- after the opening

no_header : (events : List Event) (e : Event) → list_any is_opening events ≡ true → IsLawfulNext events e → header_day e ≡ None
no_header events (event.Header day) opened lawful =
    let none : events ≡ [] = header_is_first events (event.Header day) refl lawful in
    let q : true ≡ false = sym opened ∙ ap (list_any is_opening) none in
    absurd (cc q)
no_header events (event.Expiry x) opened lawful = refl
no_header events (event.Rate x rate) opened lawful = refl
no_header events (event.Series s) opened lawful = refl
no_header events (event.Quote time s bid ask) opened lawful = refl
no_header events (event.Trade time s price) opened lawful = refl
no_header events (event.Tick time) opened lawful = refl
no_header events (event.Opening time) opened lawful = refl
no_header events (event.End count) opened lawful = refl

trade_date_stays : (events : List Event) (e : Event) → list_any is_opening events ≡ true → IsLawfulNext events e
    → trade_date (events ++ e ∷ []) ≡ trade_date events
trade_date_stays events e opened lawful =
    trade_date-push events e lawful ∙ ap (λ o. option_or o (trade_date events)) (no_header events e opened lawful)

pub opening_kept : (events : List Event) (e : Event) (opening : Opening) → list_any is_opening events ≡ true → IsLawfulNext events e
    → IsOpeningOfEvents events opening → IsOpeningOfEvents (events ++ e ∷ []) opening
opening_kept events e opening opened lawful h =
    let before = before_kept events e opened in
    record {
      line = h.line ∙ sym (ap (λ l. length l + 1) before);
      time = first_said-push opening_minute events e ∙ ap (λ o. option_or o (opening_minute e)) h.time;
      expiries = h.expiries ∙ sym (ap (λ l. length (declared_expiries l)) before);
      term = h.term ∙ sym (ap (λ l. option_and_then (term_by l) (trade_date (events ++ e ∷ []))) before
          ∙ ap (option_and_then (term_by (before_opening events))) (trade_date_stays events e opened lawful));
    }

-- ---- the opening is taken

price_is : (o : Option ℕ) (quoted : Price) → price_at_opening (option_map price_of_trade o) quoted ≡ traded_price o quoted
price_is None quoted = refl
price_is (Some cents) quoted = refl

abbrev row_at : ℕ → Price → Price → StrikeRow
row_at strike put call = record { strike = strike; put = put; call = call }

-- a series at the opening
price_opening : (x : Expiry) (events : List Event) (trades : List FirstTrades) → list_any is_opening events ≡ false
    → AreFirstTrades x events trades
    → (side : Side) (k : ℕ) → price_at_opening (traded_at side k trades) (standing_price events (series_at x side k))
    ≡ price_by events (series_at x side k)
price_opening x events trades unopened h side k =
    let s = series_at x side k in
    ap (λ o. price_at_opening o (standing_price events s)) (h.each side k) ∙ price_is (opening_trade s events) (standing_price events s)
    ∙ ap (λ l. traded_price (first_said (trade_of s) (since_listed s l)) (standing_price events s)) (before_opening-all events unopened)

-- listed rows with the prices of first trades are those of the opening
rows_opening : (x : Expiry) (events : List Event) (trades : List FirstTrades) → list_any is_opening events ≡ false
    → AreFirstTrades x events trades
    → (ks : List ℕ) → map (row_at_opening trades) (map (row_of (standing_price events) x) ks) ≡ map (row_of (price_by events) x) ks
rows_opening x events trades unopened h [] = refl
rows_opening x events trades unopened h (k ∷ ks) =
    let rest = map (row_at_opening trades) (map (row_of (standing_price events) x) ks) in
    let call = price_at_opening (traded_at Call k trades) (standing_price events (series_at x Call k)) in
    ap (λ p. row_at k p call ∷ rest) (price_opening x events trades unopened h Put k)
    ∙ ap (λ p. row_at k (price_by events (series_at x Put k)) p ∷ rest) (price_opening x events trades unopened h Call k)
    ∙ ap (λ l. row_of (price_by events) x k ∷ l) (rows_opening x events trades unopened h ks)

abbrev facts_with : List StrikeRow → Option ℤ → TermFacts
facts_with rows rate = record { rows = rows; rate = rate; minutes = THIRTY_DAYS }

-- a table that shows what the events say shows the term at the opening
facts_of_table : (x : Expiry) (events : List Event) (table : Table) (term : OpeningTerm) → list_any is_opening events ≡ false
    → Says (Some table) x events → AreFirstTrades x events table.trades.items → IsTermOfTable table term
    → facts_of_term term ≡ facts_by x events
facts_of_table x events table term unopened says traded h =
    ap (λ r. facts_with term.rows.items r) (h.rate_is ∙ says.rate_is)
    ∙ ap (λ l. facts_with l (standing_rate x events))
    (h.rows_are traded.rises ∙ ap (map (row_at_opening table.trades.items)) says.keeps.rows_are
    ∙ rows_opening x events table.trades.items unopened traded (listed_strikes x events))

term_from : (x : Expiry) (events : List Event) (tables : List Table) (term : Option OpeningTerm) (o : Option Table)
    → list_any is_opening events ≡ false
    → map expiry_of_table tables ≡ declared_expiries events → find (is_table_of x) tables ≡ o
    → Says o x events → AreFirstTrades x events (trades_in o) → AreBoth IsTermOfTable o term
    → option_map facts_of_term term ≡ cond (is_declared x events) (Some (facts_by x events)) None
term_from x events tables None None unopened same found says traded both =
    let undeclared : is_declared x events ≡ false = sym (ap (list_any (is_same_expiry x)) same) ∙ none_declared x tables found in
    sym (ap (λ b. cond b (Some (facts_by x events)) None) undeclared)
term_from x events tables (Some term) None unopened same found says traded both = absurd both
term_from x events tables None (Some table) unopened same found says traded both = absurd both
term_from x events tables (Some term) (Some table) unopened same found says traded both =
    let declared : is_declared x events ≡ true = sym (ap (list_any (is_same_expiry x)) same) ∙ declared_if_there x tables table found in
    ap Some (facts_of_table x events table term unopened says traded both) ∙ sym (ap (λ b. cond b (Some (facts_by x events)) None) declared)

term_taken : (day : Option DayNo) (events : List Event) (tables : List Table) (term : Option OpeningTerm)
    → list_any is_opening events ≡ false
    → map expiry_of_table tables ≡ declared_expiries events → AllSay tables events → AllTraded tables events
    → AreBoth IsTermOfTable (opening_table day tables) term
    → option_map facts_of_term term ≡ option_and_then (term_by events) day
term_taken None events tables None unopened same say traded both = refl
term_taken None events tables (Some term) unopened same say traded both = absurd both
term_taken (Some day) events tables term unopened same say traded both =
    let x = opening_expiry day in
    term_from x events tables term (find (is_table_of x) tables) unopened same refl (say x) (traded x) both

pub opening_of_events : (old : PlainBook) (events : List Event) (time : ℕ) (opening : Opening) → list_any is_opening events ≡ false
    → IsLawfulNext events (event.Opening time)
    → PlainStandsFor old events → AllSay old.tables.items events → OpensAt old time opening
    → IsOpeningOfEvents (events ++ event.Opening time ∷ []) opening
opening_of_events old events time opening unopened lawful h say opens =
    let e = event.Opening time in
    let before = before_now events time unopened in
    let room = one_line_more events e lawful in
    let lines = h.lines in
    record {
      line = opens.line (subst (λ n. n < LINES_MAX) (sym lines) room) ∙ ap (λ n. n + 1) lines ∙ sym (ap (λ l. length l + 1) before);
      time = first_said-push opening_minute events e ∙ ap (λ o. option_or o (Some time)) (not_opened events unopened)
          ∙ ap Some (sym opens.time_is);
      expiries = opens.expiries ∙ ap length h.expiries ∙ sym (ap (λ l. length (declared_expiries l)) before);
      term = term_taken old.day events old.tables.items opening.term unopened h.tables say h.trades opens.term
          ∙ ap (option_and_then (term_by events)) (h.day ∙ sym (trade_date-push events e lawful))
          ∙ sym (ap (λ l. option_and_then (term_by l) (trade_date (events ++ e ∷ []))) before);
    }

-- ---- any event

keeps_none : (events : List Event) (e : Event) → opening_time events ≡ None → opening_minute e ≡ None
    → opening_time (events ++ e ∷ []) ≡ None
keeps_none events e none quiet = first_said-push opening_minute events e ∙ ap (λ o. option_or o (opening_minute e)) none ∙ quiet

keeps_quiet : (opening : Option Opening) (events : List Event) (e : Event) → opening_minute e ≡ None → IsLawfulNext events e
    → Keeps opening events → Keeps opening (events ++ e ∷ [])
keeps_quiet None events e quiet lawful h = keeps_none events e h quiet
keeps_quiet (Some opening) events e quiet lawful h = opening_kept events e opening (is_opened (Some opening) events h) lawful h

keeps_same : (old new : Option Opening) (events : List Event) (e : Event) → opening_minute e ≡ None → IsLawfulNext events e → new ≡ old
    → Keeps old events → Keeps new (events ++ e ∷ [])
keeps_same old new events e quiet lawful same h =
    subst (λ (o : Option Opening). Keeps o (events ++ e ∷ [])) (sym same) (keeps_quiet old events e quiet lawful h)

keeps_taken : (old : PlainBook) (new : Option Opening) (events : List Event) (time : ℕ) → IsLawfulNext events (event.Opening time)
    → PlainStandsFor old events → AllSay old.tables.items events → IsSomeAnd new (OpensAt old time)
    → Keeps new (events ++ event.Opening time ∷ [])
keeps_taken old None events time lawful h say opens = absurd opens
keeps_taken old (Some opening) events time lawful h say opens =
    opening_of_events old events time opening (not_second events (event.Opening time) lawful) lawful h say opens

pub opening_after : (old : PlainBook) (new : Option Opening) (events : List Event) (e : Event) → IsLawfulNext events e
    → PlainStandsFor old events → AllSay old.tables.items events → ChangesOpening old e new → Keeps new (events ++ e ∷ [])
opening_after old new events (event.Opening time) lawful h say takes = keeps_taken old new events time lawful h say takes
opening_after old new events (event.Header day) lawful h say takes =
    keeps_same old.opening new events (event.Header day) refl lawful takes h.opening
opening_after old new events (event.Expiry x) lawful h say takes =
    keeps_same old.opening new events (event.Expiry x) refl lawful takes h.opening
opening_after old new events (event.Rate x rate) lawful h say takes =
    keeps_same old.opening new events (event.Rate x rate) refl lawful takes h.opening
opening_after old new events (event.Series s) lawful h say takes =
    keeps_same old.opening new events (event.Series s) refl lawful takes h.opening
opening_after old new events (event.Quote time s bid ask) lawful h say takes =
    keeps_same old.opening new events (event.Quote time s bid ask) refl lawful takes h.opening
opening_after old new events (event.Trade time s cents) lawful h say takes =
    keeps_same old.opening new events (event.Trade time s cents) refl lawful takes h.opening
opening_after old new events (event.Tick time) lawful h say takes =
    keeps_same old.opening new events (event.Tick time) refl lawful takes h.opening
opening_after old new events (event.End count) lawful h say takes =
    keeps_same old.opening new events (event.End count) refl lawful takes h.opening
