-- The book stands for the events with one more at their end, event by event.
use Rattle.std.proofs.Common.{◌≡◌, ◌≢◌, ◌∙◌, sym, ap, subst, refl, inl, inr, ℕ, ℤ, ◌+◌, true, false, cond, List, [], ◌∷◌, ◌++◌, set, Option, Some, None, arith}
use Rattle.std.specs.Prelude.{slice_get, option_and_then}
use Rattle.std.specs.List.{list_any}
use Rattle.std.specs.Option.{option_or, option_to_list}
use Rattle.std.proofs.lemmas.Bool.{cases_Bool, cases_eq}
use Rattle.std.proofs.lemmas.List.{append-nil, length_push}
use Rattle.std.proofs.lemmas.Map.Keys.{any_passes_from_place}
use Rattle.std.proofs.lemmas.Option.{option_and_then_some, slice_get_within}
use Rattle.vx_clock.specs.declared.days.DayNo.{DayNo}
use Rattle.vx_clock.specs.declared.terms.Expiry.{Expiry}
use Rattle.vx_symbol.specs.declared.symbols.Side.{Side}
use Rattle.vx_symbol.specs.declared.symbols.Symbol.{Symbol}
use Rattle.vx_symbol.specs.declared.rows.StrikeRow.{StrikeRow}
use Rattle.vx_feed.specs.declared.events.Event.{Event}
use Rattle.vx_feed.specs.declared.events.Event.TheVariants as event
use Rattle.vx_feed.specs.Same.{is_same_expiry}
use Rattle.vx_feed.specs.Standing.{is_opening, lists_series, quote_of, rate_of, standing_rate, trade_of}
use Rattle.vx_feed.specs.Listed.{declared_expiries, declared_expiry, header_day, is_declared, is_listed, listed_rows, listed_strike, other_side, series_at, trade_date}
use Rattle.vx_feed.proofs.NextEvent.{next_declared, next_rate, next_trade_date, option_or-none}
use Rattle.vx_feed.proofs.FaultLemmas.{header_first}
use Rattle.vx_feed.proofs.NoCauses.{no_causes}
use Rattle.vx_feed.proofs.SameLemmas.{expiry_from_same}
use Rattle.vx_book.specs.declared.book.Book.{Book}
use Rattle.vx_book.specs.declared.series.Series.{Series}
use Rattle.vx_book.specs.declared.table.Table.{Table}
use Rattle.vx_feed.specs.NextRows.{is_listing}
use Rattle.vx_book.specs.Series.{kept}
use Rattle.vx_book.specs.Tables.{ArePlaces, strike_of_row}
use Rattle.vx_book.specs.StandsFor.{AreDistinct, AreOrderly, MayApply, OpeningStandsFor, SeriesStandsFor, Shows, BookStandsFor, TableStandsFor, TablesStandFor, counted, strike_kept}
use Rattle.vx_book.proofs.Places.{get_before, get_unwritten, get_written}
use Rattle.vx_feed.proofs.SameAfter.{rate_same}
use Rattle.vx_book.proofs.Quiet.{rows_same}
use Rattle.vx_book.proofs.Terms.{LeavesTerm, and_there, distinct_added, expiry_itself, tables_added, tables_changed, tables_left}
use Rattle.vx_book.proofs.Kept.{keeps_all, says_nothing, series_left}
use Rattle.vx_book.proofs.Room.{few_still, orderly_next}
use Rattle.vx_book.proofs.Openings.{no_rows, opened_same, opening_added, opening_left, shows_nothing}

-- ---- what is said beside prices and rates

module _ (events : List Event) (e : Event) where
  pub day_same : header_day e ≡ None → trade_date (events ++ e ∷ []) ≡ trade_date events
  day_same none = next_trade_date events e ∙ ap (option_or (trade_date events)) none ∙ option_or-none (trade_date events)

  pub expiries_same : declared_expiry e ≡ None → declared_expiries (events ++ e ∷ []) ≡ declared_expiries events
  expiries_same none = next_declared events e ∙ ap (λ o. declared_expiries events ++ option_to_list o) none ∙ append-nil (declared_expiries events)

  pub leaves_term : (x : Expiry) → rate_of x e ≡ None → is_listing e ≡ false → ((side : Side) (k : ℕ) → quote_of (series_at x side k) e ≡ None) → LeavesTerm x events e
  leaves_term x rate listing quotes = record { rate = rate_same x events e rate; rows = rows_same x events e listing quotes }

-- a new book has what the old one had, beside its tables and its series
abbrev pub with_terms_of : Book → Book → Book
with_terms_of new old = record old { tables = new.tables; series = new.series }

pub stands_rest : (old new : Book) (events : List Event) (e : Event) → header_day e ≡ None → declared_expiry e ≡ None → is_opening e ≡ false
    → TablesStandFor old.expiries.items new.tables.items (events ++ e ∷ [])
    → ((s : Symbol) → SeriesStandsFor old.expiries.items new.tables.items (events ++ e ∷ []) s (kept new.series s))
    → AreOrderly (events ++ e ∷ []) → BookStandsFor old events → BookStandsFor (counted (with_terms_of new old)) (events ++ e ∷ [])
stands_rest old new events e header declared opening tables series orderly h = record {
  lines = ap (λ n. n + 1) h.lines ∙ sym (length_push events e);
  day = h.day ∙ sym (day_same events e header);
  opened = h.opened ∙ sym (opened_same events e opening);
  expiries = h.expiries ∙ sym (expiries_same events e declared);
  distinct = h.distinct;
  tables = tables;
  opening = opening_left old.expiries.items old.opening.items events e opening h.opening;
  series = series;
  orderly = orderly;
}

-- ---- a header, a tick, the end

-- the event says nothing beside the trade date
pub record IsQuiet (e : Event) : Type 0 where
  pub declared : declared_expiry e ≡ None
  pub opening : is_opening e ≡ false
  pub listing : is_listing e ≡ false
  pub lists : (s : Symbol) → lists_series s e ≡ false
  pub strikes : (x : Expiry) → listed_strike x e ≡ None
  pub quotes : (s : Symbol) → quote_of s e ≡ None
  pub trades : (s : Symbol) → trade_of s e ≡ None
  pub rates : (x : Expiry) → rate_of x e ≡ None

abbrev pub with_day : Option DayNo → Book → Book
with_day day book = record book { day = day }

pub stands_quiet : (old : Book) (events : List Event) (e : Event) (day : Option DayNo) → IsQuiet e → day ≡ trade_date (events ++ e ∷ [])
    → BookStandsFor old events → BookStandsFor (counted (with_day day old)) (events ++ e ∷ [])
stands_quiet old events e day quiet day_is h = record {
  lines = ap (λ n. n + 1) h.lines ∙ sym (length_push events e);
  day = day_is;
  opened = h.opened ∙ sym (opened_same events e quiet.opening);
  expiries = h.expiries ∙ sym (expiries_same events e quiet.declared);
  distinct = h.distinct;
  tables = tables_left old.expiries.items old.tables.items events e (λ x. leaves_term events e x (quiet.rates x) quiet.listing (λ side k. quiet.quotes (series_at x side k))) h.tables;
  opening = opening_left old.expiries.items old.opening.items events e quiet.opening h.opening;
  series = λ s. series_left old.expiries.items old.expiries.items old.tables.items old.tables.items (keeps_all old.expiries.items old.tables.items) events e s (kept old.series s)
      (says_nothing s events e (quiet.lists s) (quiet.lists (other_side s)) (quiet.quotes s) (quiet.trades s)) (h.series s);
  orderly = orderly_next events e (few_still events e quiet.strikes h.orderly) (λ x none. quiet.rates x) h.orderly;
}

pub stands_header : (old : Book) (day : DayNo) → MayApply old (event.Header day) → (events : List Event) → BookStandsFor old events
    → BookStandsFor (counted (with_day (Some day) old)) (events ++ event.Header day ∷ [])
stands_header old day may events h =
    let none : trade_date events ≡ None = sym h.day ∙ (may.1).day ∙ header_first may.0 day (no_causes may.0 (event.Header day) (may.2).in_order).placed in
    stands_quiet old events (event.Header day) (Some day)
    (record { declared = refl; opening = refl; listing = refl; lists = λ s. refl; strikes = λ x. refl; quotes = λ s. refl; trades = λ s. refl; rates = λ x. refl })
    (sym (next_trade_date events (event.Header day) ∙ ap (λ o. option_or o (Some day)) none)) h

pub stands_tick : (old : Book) (time : ℕ) (events : List Event) → BookStandsFor old events → BookStandsFor (counted old) (events ++ event.Tick time ∷ [])
stands_tick old time events h =
    stands_quiet old events (event.Tick time) old.day
    (record { declared = refl; opening = refl; listing = refl; lists = λ s. refl; strikes = λ x. refl; quotes = λ s. refl; trades = λ s. refl; rates = λ x. refl })
    (h.day ∙ sym (day_same events (event.Tick time) refl)) h

pub stands_end : (old : Book) (count : ℕ) (events : List Event) → BookStandsFor old events → BookStandsFor (counted old) (events ++ event.End count ∷ [])
stands_end old count events h =
    stands_quiet old events (event.End count) old.day
    (record { declared = refl; opening = refl; listing = refl; lists = λ s. refl; strikes = λ x. refl; quotes = λ s. refl; trades = λ s. refl; rates = λ x. refl })
    (h.day ∙ sym (day_same events (event.End count) refl)) h

-- ---- an expiry

not_there : (x : Expiry) (xs : List Expiry) → list_any (is_same_expiry x) xs ≡ false → (i : ℕ) → slice_get xs i ≢ Some x
not_there x xs none i at = let both : true ≡ false = sym (any_passes_from_place (is_same_expiry x) xs i x at (expiry_itself x)) ∙ none in cc both

-- no series of an expiry that is not declared is listed
none_listed : (book : Book) (events : List Event) (x : Expiry) → BookStandsFor book events → list_any (is_same_expiry x) book.expiries.items ≡ false
    → (side : Side) (k : ℕ) → is_listed (series_at x side k) events ≡ false
none_listed book events x h none side k = by (kept book.series s) (h.series s)
  where
    s : Symbol
    s = series_at x side k

    by : (o : Option Series) → SeriesStandsFor book.expiries.items book.tables.items events (series_at x side k) o → is_listed (series_at x side k) events ≡ false
    by None stands = stands
    by (Some one) stands = absurd (not_there x book.expiries.items none one.expiry stands.expiry)

strikes_pushed : (tables : List Table) (table : Table) (i n k : ℕ) → strike_kept tables i n ≡ Some k → strike_kept (tables ++ table ∷ []) i n ≡ Some k
strikes_pushed tables table i n k h =
    option_and_then_some (λ (t : Table). strike_of_row t n) (slice_get tables i) k h (λ t at is.
    ap (option_and_then (λ (u : Table). strike_of_row u n)) (get_before tables (table ∷ []) i t at) ∙ is)

-- the expiry and a table that has nothing stand at the end of both lists
pub record Declares (old : Book) (x : Expiry) (new : Book) : Type 0 where
  pub table : Table
  pub rate : table.rate ≡ None
  pub rows : table.rows.items ≡ []
  pub places : table.places.items ≡ []
  pub expiries : new.expiries.items ≡ old.expiries.items ++ x ∷ []
  pub tables : new.tables.items ≡ old.tables.items ++ table ∷ []

abbrev pub with_expiries_of : Book → Book → Book
with_expiries_of new old = record old { expiries = new.expiries; tables = new.tables }

pub stands_declared : (old new : Book) (x : Expiry) → MayApply old (event.Expiry x) → Declares old x new → (events : List Event) → BookStandsFor old events
    → BookStandsFor (counted (with_expiries_of new old)) (events ++ event.Expiry x ∷ [])
stands_declared old new x may adds events h =
    let e = event.Expiry x in
    let xs = old.expiries.items in
    let ts = old.tables.items in
    let fresh : list_any (is_same_expiry x) xs ≡ false = ap (list_any (is_same_expiry x)) (may.1).expiries ∙ (no_causes may.0 e (may.2).in_order).new_expiry in
    let undeclared : is_declared x events ≡ false = ap (list_any (is_same_expiry x)) (sym h.expiries) ∙ fresh in
    let no_rate = h.orderly.undeclared x undeclared in
    let no_series = none_listed old events x h fresh in
    let left : (y : Expiry) → LeavesTerm y events e = λ y. leaves_term events e y refl refl (λ side k. refl) in
    let table = adds.table in
    let own : TableStandsFor x (events ++ e ∷ []) table = record {
      shows = (let Due : Option ℤ → List StrikeRow → Type 0 = Shows (standing_rate x (events ++ e ∷ [])) (listed_rows x (events ++ e ∷ [])) in
          subst (λ (rate : Option ℤ). Due rate table.rows.items) (sym adds.rate) (subst (λ (rows : List StrikeRow). Due None rows) (sym adds.rows)
          (shows_nothing (standing_rate x (events ++ e ∷ [])) (listed_rows x (events ++ e ∷ [])) ((left x).rate ∙ no_rate) ((left x).rows ∙ no_rows x events no_series))));
      placed = subst (λ (places : List ℕ). ArePlaces table.rows.items places) (sym adds.places) (λ n d within. absurd (omega arith));
    } in
    let XS : List Expiry → Type 0 = λ l. AreDistinct l in
    let Open : List Expiry → Type 0 = λ l. OpeningStandsFor l old.opening.items (events ++ e ∷ []) in
    let Series : List Expiry → List Table → Symbol → Type 0 = λ l m s. SeriesStandsFor l m (events ++ e ∷ []) s (kept old.series s) in
    let Tables : List Expiry → List Table → Type 0 = λ l m. TablesStandFor l m (events ++ e ∷ []) in
    record {
      lines = ap (λ n. n + 1) h.lines ∙ sym (length_push events e);
      day = h.day ∙ sym (day_same events e refl);
      opened = h.opened ∙ sym (opened_same events e refl);
      expiries = adds.expiries ∙ ap (λ l. l ++ x ∷ []) h.expiries ∙ sym (next_declared events e);
      distinct = subst XS (sym adds.expiries) (distinct_added xs x h.distinct (not_there x xs fresh));
      tables = subst (λ (l : List Expiry). Tables l new.tables.items) (sym adds.expiries) (subst (λ (m : List Table). Tables (xs ++ x ∷ []) m) (sym adds.tables) (tables_added xs ts events e x table h.tables own left));
      opening = subst Open (sym adds.expiries) (opening_added xs old.opening.items events e x refl no_rate no_series h.opening);
      series = λ s. subst (λ (l : List Expiry). Series l new.tables.items s) (sym adds.expiries) (subst (λ (m : List Table). Series (xs ++ x ∷ []) m s) (sym adds.tables)
          (series_left xs (xs ++ x ∷ []) ts (ts ++ table ∷ []) (record { expiries = λ i y at. get_before xs (x ∷ []) i y at; strikes = strikes_pushed ts table }) events e s (kept old.series s)
          (says_nothing s events e refl refl refl refl) (h.series s)));
      orderly = orderly_next events e (few_still events e (λ y. refl) h.orderly) (λ y none. refl) h.orderly;
    }

-- ---- one table is changed

-- the rows keep their numbers where a table takes the place of another that has them
pub strikes_written : (tables : List Table) (i : ℕ) (old new : Table) → slice_get tables i ≡ Some old → ((n k : ℕ) → strike_of_row old n ≡ Some k → strike_of_row new n ≡ Some k)
    → (j n k : ℕ) → strike_kept tables j n ≡ Some k → strike_kept (set tables i new) j n ≡ Some k
strikes_written tables i old new at keeps j n k h =
    elim (cases_eq j i) [
      | inl same ↦
          let its : strike_of_row old n ≡ Some k = sym (ap (option_and_then (λ (t : Table). strike_of_row t n)) (ap (slice_get tables) same ∙ at)) ∙ h in
          ap (option_and_then (λ (t : Table). strike_of_row t n)) (ap (slice_get (set tables i new)) same ∙ get_written tables i new (slice_get_within tables i old at)) ∙ keeps n k its
      | inr other ↦ ap (option_and_then (λ (t : Table). strike_of_row t n)) (get_unwritten tables i j new other) ∙ h
    ]

pub table_at : (xs : List Expiry) (tables : List Table) (events : List Event) (i : ℕ) (x : Expiry) (table : Table) → TablesStandFor xs tables events
    → slice_get xs i ≡ Some x → slice_get tables i ≡ Some table → TableStandsFor x events table
table_at xs tables events i x table h at there =
    and_there (slice_get tables i) (TableStandsFor x events) (TableStandsFor x events table) (h.each i x at)
    (λ found is stands. (let both : Some found ≡ Some table = sym is ∙ there in let same : found ≡ table = cc both in subst (TableStandsFor x events) same stands))

-- a rate
abbrev pub with_rate : ℤ → Table → Table
with_rate rate table = record table { rate = Some rate }

pub stands_rated : (old new : Book) (i : ℕ) (x : Expiry) (rate : ℤ) (table : Table) → MayApply old (event.Rate x rate) → slice_get old.expiries.items i ≡ Some x
    → slice_get old.tables.items i ≡ Some table → new.tables.items ≡ set old.tables.items i (with_rate rate table)
    → ((s : Symbol) → kept new.series s ≡ kept old.series s)
    → (events : List Event) → BookStandsFor old events → BookStandsFor (counted (with_terms_of new old)) (events ++ event.Rate x rate ∷ [])
stands_rated old new i x rate table may at there tables series events h =
    let e = event.Rate x rate in
    let xs = old.expiries.items in
    let ts = old.tables.items in
    let stands = table_at xs ts events i x table h.tables at there in
    let rows : listed_rows x (events ++ e ∷ []) ≡ listed_rows x events = rows_same x events e refl (λ side k. refl) in
    let own : TableStandsFor x (events ++ e ∷ []) (with_rate rate table) = record {
      shows = record {
        rate_is = sym (next_rate x events e ∙ ap (λ b. option_or (cond b (Some rate) None) (standing_rate x events)) (expiry_itself x));
        rate_in_range = ((may.2).in_range).1;
        rows_are = stands.shows.rows_are ∙ sym rows;
        rows_lawful = stands.shows.rows_lawful;
      };
      placed = stands.placed;
    } in
    let others : (y : Expiry) → is_same_expiry y x ≡ false → LeavesTerm y events e = λ y apart. leaves_term events e y (ap (λ b. cond b (Some rate) None) apart) refl (λ side k. refl) in
    let declared : is_declared x events ≡ true = ap (list_any (is_same_expiry x)) (sym h.expiries) ∙ any_passes_from_place (is_same_expiry x) xs i x at (expiry_itself x) in
    let Tables : List Table → Type 0 = λ m. TablesStandFor xs m (events ++ e ∷ []) in
    stands_rest old new events e refl refl refl
    (subst Tables (sym tables) (tables_changed xs ts events e i x (with_rate rate table) h.distinct at h.tables own others))
    (λ s.
    let P : List Table → Option Series → Type 0 = λ m o. SeriesStandsFor xs m (events ++ e ∷ []) s o in
    subst (λ (m : List Table). P m (kept new.series s)) (sym tables) (subst (P (set ts i (with_rate rate table))) (sym (series s))
    (series_left xs xs ts (set ts i (with_rate rate table)) (record { expiries = λ j y g. g; strikes = strikes_written ts i table (with_rate rate table) there (λ n k g. g) }) events e s (kept old.series s)
    (says_nothing s events e refl refl refl refl) (h.series s))))
    (orderly_next events e (few_still events e (λ y. refl) h.orderly)
    (λ y none. elim (cases_Bool (is_same_expiry y x)) [
      | inl same ↦ (let is : y ≡ x = expiry_from_same y x same in let both : true ≡ false = sym declared ∙ ap (λ z. is_declared z events) (sym is) ∙ none in absurd (cc both))
      | inr apart ↦ ap (λ b. cond b (Some rate) None) apart
    ]) h.orderly)
    h
