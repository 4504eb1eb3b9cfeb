-- The book after a series is listed, quoted or traded, and after the opening.
use Rattle.std.proofs.Common.{◌≡◌, ◌∙◌, sym, ap, subst, refl, inl, inr, ℕ, ℤ, ◌+◌, ◌<◌, true, false, cond, ◌&&◌, ◌||◌, List, [], ◌∷◌, ◌++◌, length, set, Option, Some, None, arith}
use Rattle.std.specs.Prelude.{IfSome, IsSomeAnd, MatchOption, is_some, slice_get, option_map, option_and_then}
use Rattle.std.specs.List.{All, list_any, position}
use Rattle.std.specs.Option.{option_or}
use Rattle.std.proofs.lemmas.Bool.{and_right, cases_Bool, cases_eq, not-false}
use Rattle.std.proofs.Math.Bool.{or-true}
use Rattle.std.proofs.lemmas.List.{length-map, length-set, length_push}
use Rattle.std.proofs.lemmas.Option.{slice_get-map, slice_get_within}
use Rattle.vx_clock.specs.declared.terms.Expiry.{Expiry}
use Rattle.vx_symbol.specs.declared.symbols.Side.{Side}
use Rattle.vx_symbol.specs.declared.symbols.Side.TheVariants.{Call, Put}
use Rattle.vx_symbol.specs.declared.symbols.Symbol.{Symbol}
use Rattle.vx_symbol.specs.declared.rows.Price.{Price}
use Rattle.vx_symbol.specs.declared.rows.StrikeRow.{StrikeRow}
use Rattle.vx_symbol.specs.Rows.{AreLawfulRows, IsLawfulPrice, IsLawfulRow, IsRateInRange}
use Rattle.vx_feed.specs.declared.events.Event.{Event}
use Rattle.vx_feed.specs.declared.events.Event.TheVariants as event
use Rattle.vx_feed.specs.Ranges.{IsPrice}
use Rattle.vx_feed.specs.Same.{is_same_expiry, is_same_series}
use Rattle.vx_feed.specs.Standing.{is_opening, lists_series, opening_trade, standing_rate}
use Rattle.vx_feed.specs.Listed.{expiry_of, is_declared, is_listed, is_strike_listed, listed_rows, no_price, other_side, quoted_price, series_at, standing_price, price_of}
use Rattle.vx_feed.proofs.NextEvent.{next_listed, unlisted_has_none}
use Rattle.vx_feed.proofs.NoCauses.{no_causes}
use Rattle.vx_feed.proofs.SameLemmas.{expiry_from_same}
use Rattle.vx_book.specs.declared.book.Book.{Book}
use Rattle.vx_book.specs.declared.series.Place.{Place}
use Rattle.vx_book.specs.declared.series.Place.TheVariants.{Alone, Row}
use Rattle.vx_book.specs.declared.series.Series.{Series}
use Rattle.vx_book.specs.declared.table.Table.{Table}
use Rattle.vx_feed.specs.NextRows.{insert_row, row_when_listed, row_without}
use Rattle.vx_book.specs.Series.{SetsSeries, kept, kept_trade}
use Rattle.vx_book.specs.Tables.{AddsRow, ArePlaces, IsSameTable, SetsPrice, rows_with, strike_placed, strike_of_row}
use Rattle.vx_feed.specs.Opening.{opening_rate, opening_rows}
use Rattle.vx_book.specs.Opening.{TakesOpening, kept_opening_rate, kept_opening_rows}
use Rattle.vx_book.specs.StandsFor.{AreOrderly, KeptStandsFor, MayApply, PlaceStandsFor, SeriesStandsFor, Shows, BookStandsFor, TableStandsFor, TablesStandFor, counted, strike_kept}
use Rattle.vx_feed.proofs.NextRows.{apart_series, next_rows_listed, sides_without}
use Rattle.vx_book.proofs.Places.{get_unwritten, get_written, position_says}
use Rattle.vx_book.proofs.Rows.{has_row, strike_from_row}
use Rattle.vx_feed.proofs.SameAfter.{listed_same, price_same, rate_same, trade_same}
use Rattle.vx_book.proofs.Quiet.{rows_quoted, rows_with_unlisted}
use Rattle.vx_book.proofs.Lawful.{all_inserted, listed_lawful, no_price-lawful, quoted_lawful, row_if, row_if-strike, row_without-lawful}
use Rattle.vx_book.proofs.Terms.{LeavesTerm, and_here, expiry_itself, tables_changed, tables_left}
use Rattle.vx_book.proofs.Kept.{LeavesSeries, kept_left, place_left, late_trade_leaves, listing_leaves, quote_leaves, row_leaves, series_left, trade_leaves, unlisted_left}
use Rattle.vx_book.proofs.Kept.{after_set, apart_turned, at_same, keeps_all, listed_by, listed_kept, other_apart, other_twice, price_quoted, says_nothing, series_from_same, series_itself, trade_taken, unlisted_kept}
use Rattle.vx_book.proofs.Room.{few_still, few_with_series, orderly_next}
use Rattle.vx_book.proofs.Openings.{opened_is, opened_now, opening_taken}
use Rattle.vx_book.proofs.NextBook.{day_same, expiries_same, leaves_term, stands_rest, strikes_written, table_at, with_terms_of}

-- ---- what the book says of a series

-- a series is listed where something is kept of it, for each list of events for which the book stands
pub listed_alike : (book : Book) (a b : List Event) → BookStandsFor book a → BookStandsFor book b → (s : Symbol) → is_listed s a ≡ is_listed s b
listed_alike book a b h g s =
    listed_by book.expiries.items book.tables.items a s (kept book.series s) (h.series s)
    ∙ sym (listed_by book.expiries.items book.tables.items b s (kept book.series s) (g.series s))

-- a series that may be listed next is not listed
pub unlisted_yet : (book : Book) (s : Symbol) → MayApply book (event.Series s) → (events : List Event) → BookStandsFor book events → is_listed s events ≡ false
unlisted_yet book s may events h = listed_alike book events may.0 h may.1 s ∙ (no_causes may.0 (event.Series s) (may.2).in_order).new_series

orderly_listed : (book : Book) (s : Symbol) → MayApply book (event.Series s) → (events : List Event) → BookStandsFor book events → AreOrderly (events ++ event.Series s ∷ [])
orderly_listed book s may events h =
    orderly_next events (event.Series s) (λ x. few_with_series x events may.0 s (listed_alike book events may.0 h may.1) may.2 (h.orderly.few x)) (λ x none. refl) h.orderly

now_listed : (s : Symbol) (events : List Event) → is_listed s (events ++ event.Series s ∷ []) ≡ true
now_listed s events =
    next_listed s events (event.Series s) ∙ ap (λ b. is_listed s events || b) (series_itself s) ∙ or-true (is_listed s events)

-- a series that was not listed has no trade and no price
first_trade : (s : Symbol) (events : List Event) → is_listed s events ≡ false → None ≡ opening_trade s (events ++ event.Series s ∷ [])
first_trade s events unlisted = sym (trade_same s events (event.Series s) refl ∙ (unlisted_has_none s events unlisted).1)

first_price : (s : Symbol) (events : List Event) → is_listed s events ≡ false → no_price ≡ standing_price (events ++ event.Series s ∷ []) s
first_price s events unlisted = sym (price_same s events (event.Series s) refl ∙ ap quoted_price (unlisted_has_none s events unlisted).0)

-- the rows of an expiry that the series completes no strike of
rows_uncompleted : (x : Expiry) (events : List Event) (s : Symbol) → is_listed s events ≡ false → (is_same_expiry x (expiry_of s) && is_listed (other_side s) events) ≡ false
    → listed_rows x (events ++ event.Series s ∷ []) ≡ listed_rows x events
rows_uncompleted x events s unlisted none =
    next_rows_listed x events s unlisted ∙ ap (λ b. cond b (insert_row (row_when_listed events s) (listed_rows x events)) (listed_rows x events)) none

leaves_listing : (x : Expiry) (events : List Event) (s : Symbol) → is_listed s events ≡ false → (is_same_expiry x (expiry_of s) && is_listed (other_side s) events) ≡ false
    → LeavesTerm x events (event.Series s)
leaves_listing x events s unlisted none = record { rate = rate_same x events (event.Series s) refl; rows = rows_uncompleted x events s unlisted none }

-- ---- a series is listed by itself

abbrev pub alone_at : ℕ → Series
alone_at i = record { expiry = i; place = Alone no_price; traded = None }

pub stands_alone : (old new : Book) (s : Symbol) (i : ℕ) → MayApply old (event.Series s) → slice_get old.expiries.items i ≡ Some (expiry_of s)
    → kept old.series (other_side s) ≡ None → new.tables.items ≡ old.tables.items → SetsSeries s (alone_at i) old.series new.series
    → (events : List Event) → BookStandsFor old events → BookStandsFor (counted (with_terms_of new old)) (events ++ event.Series s ∷ [])
stands_alone old new s i may at none same_tables sets events h =
    let e = event.Series s in
    let xs = old.expiries.items in
    let ts = old.tables.items in
    let unlisted = unlisted_yet old s may events h in
    let other : is_listed (other_side s) events ≡ false = unlisted_kept xs ts events (other_side s) (kept old.series (other_side s)) none (h.series (other_side s)) in
    let other_apart_s : lists_series (other_side s) e ≡ false = other_apart s in
    let own : KeptStandsFor xs ts (events ++ e ∷ []) s (alone_at i) = record {
      listed = now_listed s events;
      expiry = at;
      traded = first_trade s events unlisted;
      trade_in_range = tt;
      place = (listed_same (other_side s) events e other_apart_s ∙ other, first_price s events unlisted, no_price-lawful);
    } in
    let Tables : List Table → Type 0 = λ m. TablesStandFor xs m (events ++ e ∷ []) in
    stands_rest old new events e refl refl refl
    (subst Tables (sym same_tables) (tables_left xs ts events e (λ x. leaves_listing x events s unlisted (and_right (is_same_expiry x (expiry_of s)) (is_listed (other_side s) events) other)) h.tables))
    (λ t.
    let P : Option Series → Type 0 = SeriesStandsFor xs ts (events ++ e ∷ []) t in
    let Q : List Table → Type 0 = λ m. SeriesStandsFor xs m (events ++ e ∷ []) t (kept new.series t) in
    subst Q (sym same_tables)
    (after_set P (is_same_series s t) (alone_at i) (kept old.series t) (kept new.series t) (sets t)
    (λ same. at_same xs ts (events ++ e ∷ []) s t (alone_at i) same own)
    (λ apart. left_alone old s t events none h (apart_turned s t apart) (kept old.series t) refl)))
    (orderly_listed old s may events h) h
  where
    left_alone : (book : Book) (a b : Symbol) (before : List Event) → kept book.series (other_side a) ≡ None → BookStandsFor book before → is_same_series b a ≡ false
        → (o : Option Series) → kept book.series b ≡ o → SeriesStandsFor book.expiries.items book.tables.items (before ++ event.Series a ∷ []) b o
    left_alone book a b before nothing stands apart None is =
        listed_same b before (event.Series a) apart ∙ unlisted_kept book.expiries.items book.tables.items before b (kept book.series b) is (stands.series b)
    left_alone book a b before nothing stands apart (Some one) is =
        let kept_b = listed_kept book.expiries.items book.tables.items before b (kept book.series b) one is (stands.series b) in
        let not_other : is_same_series b (other_side a) ≡ false =
        elim (cases_Bool (is_same_series b (other_side a))) [
          | inl same ↦ (let both : Some one ≡ None = sym is ∙ ap (kept book.series) (series_from_same b (other_side a) same) ∙ nothing in absurd (cc both))
          | inr away ↦ away
        ] in
        kept_left book.expiries.items book.expiries.items book.tables.items book.tables.items (keeps_all book.expiries.items book.tables.items) before (event.Series a) b one
        (listing_leaves b a before apart not_other) kept_b

-- ---- a series completes its strike

abbrev pub in_row : ℕ → ℕ → Option ℕ → Series
in_row i n traded = record { expiry = i; place = Row n; traded = traded }

row_without-strike : (side : Side) (k : ℕ) (price : Price) → (row_without side k price).strike ≡ k
row_without-strike Put k price = refl
row_without-strike Call k price = refl

-- the strike of the row that was added to the table at a place
strike_there : (tables : List Table) (i n k : ℕ) (old new : Table) → slice_get tables i ≡ Some old → strike_of_row new n ≡ Some k → strike_kept (set tables i new) i n ≡ Some k
strike_there tables i n k old new at is =
    ap (option_and_then (λ (t : Table). strike_of_row t n)) (get_written tables i new (slice_get_within tables i old at)) ∙ is

pub stands_completed : (old new : Book) (s : Symbol) (one : Series) (price : Price) (table next : Table) (n : ℕ) → MayApply old (event.Series s)
    → kept old.series (other_side s) ≡ Some one → one.place ≡ Alone price → slice_get old.tables.items one.expiry ≡ Some table
    → AddsRow (row_without s.side s.strike price) table next n → new.tables.items ≡ set old.tables.items one.expiry next
    → ((t : Symbol) → kept new.series t
    ≡ cond (is_same_series (other_side s) t) (Some (in_row one.expiry n one.traded)) (cond (is_same_series s t) (Some (in_row one.expiry n None)) (kept old.series t)))
    → (events : List Event) → BookStandsFor old events → BookStandsFor (counted (with_terms_of new old)) (events ++ event.Series s ∷ [])
stands_completed old new s one price table next n may kept_is place_is there adds tables_are sets events h =
    let e = event.Series s in
    let x = expiry_of s in
    let i = one.expiry in
    let xs = old.expiries.items in
    let ts = old.tables.items in
    let ts_next = set ts i next in
    let unlisted = unlisted_yet old s may events h in
    let other = listed_kept xs ts events (other_side s) (kept old.series (other_side s)) one kept_is (h.series (other_side s)) in
    let at : slice_get xs i ≡ Some x = other.expiry in
    let place : PlaceStandsFor ts events (other_side s) i (Alone price) = subst (PlaceStandsFor ts events (other_side s) i) place_is other.place in
    let stands = table_at xs ts events i x table h.tables at there in
    let row = row_without s.side s.strike price in
    let orderly = orderly_listed old s may events h in
    let due : listed_rows x (events ++ e ∷ []) ≡ insert_row (row_when_listed events s) (listed_rows x events) =
    next_rows_listed x events s unlisted
    ∙ ap (λ b. cond b (insert_row (row_when_listed events s) (listed_rows x events)) (listed_rows x events))
    (ap (λ b. b && is_listed (other_side s) events) (expiry_itself x) ∙ other.listed) in
    let rows_are : next.rows.items ≡ listed_rows x (events ++ e ∷ []) =
    adds.rows ∙ ap (λ p. insert_row (row_without s.side s.strike p) table.rows.items) place.1 ∙ ap (insert_row (row_when_listed events s)) stands.shows.rows_are ∙ sym due in
    let each : All IsLawfulRow (listed_rows x (events ++ e ∷ [])) =
    subst (All IsLawfulRow) rows_are (subst (All IsLawfulRow) (sym adds.rows)
    (all_inserted row table.rows.items (row_without-lawful s.side s.strike price ((may.2).in_range).strike place.2) stands.shows.rows_lawful.each)) in
    let own : TableStandsFor x (events ++ e ∷ []) next = record {
      shows = record {
        rate_is = adds.rate ∙ stands.shows.rate_is ∙ sym (rate_same x events e refl);
        rate_in_range = subst (λ (rate : Option ℤ). IfSome rate IsRateInRange) (sym adds.rate) stands.shows.rate_in_range;
        rows_are = rows_are;
        rows_lawful = subst AreLawfulRows (sym rows_are) (listed_lawful x (events ++ e ∷ []) (orderly.few x) each);
      };
      placed = adds.placed;
    } in
    let its_strike : strike_kept ts_next i n ≡ Some s.strike = strike_there ts i n s.strike table next there (adds.its_strike ∙ ap Some (row_without-strike s.side s.strike price)) in
    let listed = now_listed s events in
    let the_one : KeptStandsFor xs ts_next (events ++ e ∷ []) s (in_row i n None) = record {
      listed = listed;
      expiry = at;
      traded = first_trade s events unlisted;
      trade_in_range = tt;
      place = (listed_still_other s events other.listed, its_strike);
    } in
    let the_other : KeptStandsFor xs ts_next (events ++ e ∷ []) (other_side s) (in_row i n one.traded) = record {
      listed = listed_still_other s events other.listed;
      expiry = at;
      traded = other.traded ∙ sym (trade_same (other_side s) events e refl);
      trade_in_range = other.trade_in_range;
      place = (ap (λ t. is_listed t (events ++ e ∷ [])) (other_twice s) ∙ listed, its_strike);
    } in
    let Tables : List Table → Type 0 = λ m. TablesStandFor xs m (events ++ e ∷ []) in
    stands_rest old new events e refl refl refl
    (subst Tables (sym tables_are) (tables_changed xs ts events e i x next h.distinct at h.tables own
    (λ y apart. leaves_listing y events s unlisted (ap (λ b. b && is_listed (other_side s) events) apart))))
    (λ t.
    let P : Option Series → Type 0 = SeriesStandsFor xs ts_next (events ++ e ∷ []) t in
    let Q : List Table → Type 0 = λ m. SeriesStandsFor xs m (events ++ e ∷ []) t (kept new.series t) in
    subst Q (sym tables_are)
    (after_set P (is_same_series (other_side s) t) (in_row i n one.traded) (cond (is_same_series s t) (Some (in_row i n None)) (kept old.series t)) (kept new.series t) (sets t)
    (λ same. at_same xs ts_next (events ++ e ∷ []) (other_side s) t (in_row i n one.traded) same the_other)
    (λ not_other.
    after_set P (is_same_series s t) (in_row i n None) (kept old.series t) (cond (is_same_series s t) (Some (in_row i n None)) (kept old.series t)) refl
    (λ same. at_same xs ts_next (events ++ e ∷ []) s t (in_row i n None) same the_one)
    (λ apart. series_left xs xs ts ts_next (record { expiries = λ j y g. g; strikes = strikes_written ts i table next there adds.others }) events e t (kept old.series t)
    (listing_leaves t s events (apart_turned s t apart) (apart_turned (other_side s) t not_other)) (h.series t)))))
    orderly h
  where
    listed_still_other : (q : Symbol) (before : List Event) → is_listed (other_side q) before ≡ true → is_listed (other_side q) (before ++ event.Series q ∷ []) ≡ true
    listed_still_other q before was = next_listed (other_side q) before (event.Series q) ∙ ap (λ b. b || lists_series (other_side q) (event.Series q)) was

-- ---- a row that was refused

-- the table says what it said, in the place of itself
table_same : (x : Expiry) (events : List Event) (old new : Table) → IsSameTable old new → TableStandsFor x events old → TableStandsFor x events new
table_same x events old new same h =
    let Due : Option ℤ → List StrikeRow → Type 0 = Shows (standing_rate x events) (listed_rows x events) in
    record {
      shows = subst (λ (rate : Option ℤ). Due rate new.rows.items) (sym same.rate) (subst (Due old.rate) (sym same.rows) h.shows);
      placed = subst (λ (rows : List StrikeRow). ArePlaces rows new.places.items) (sym same.rows) (subst (ArePlaces old.rows.items) (sym same.places) h.placed);
    }

strikes_same_table : (old new : Table) → IsSameTable old new → (n k : ℕ) → strike_of_row old n ≡ Some k → strike_of_row new n ≡ Some k
strikes_same_table old new same n k h =
    ap (λ rows. strike_placed rows new.places.items n) same.rows ∙ ap (λ places. strike_placed old.rows.items places n) same.places ∙ h

tables_same : (xs : List Expiry) (tables : List Table) (events : List Event) (i : ℕ) (old new : Table) → slice_get tables i ≡ Some old → IsSameTable old new
    → TablesStandFor xs tables events → TablesStandFor xs (set tables i new) events
tables_same xs tables events i old new there same h = record {
  as_many = length-set tables i new ∙ h.as_many;
  each = λ j x at.
      let Goal : Type 0 = IsSomeAnd (slice_get (set tables i new) j) (TableStandsFor x events) in
      elim (cases_eq j i) [
        | inl here ↦
            let stands = table_at xs tables events j x old h at (ap (slice_get tables) here ∙ there) in
            and_here (slice_get (set tables i new) j) (TableStandsFor x events) new
            (ap (slice_get (set tables i new)) here ∙ get_written tables i new (slice_get_within tables i old there)) (table_same x events old new same stands)
        | inr elsewhere ↦ subst (λ (o : Option Table). IsSomeAnd o (TableStandsFor x events)) (sym (get_unwritten tables i j new elsewhere)) (h.each j x at)
      ];
}

series_same : (xs : List Expiry) (tables tables_next : List Table) (events : List Event) (s : Symbol) (o : Option Series)
    → ((i n k : ℕ) → strike_kept tables i n ≡ Some k → strike_kept tables_next i n ≡ Some k)
    → SeriesStandsFor xs tables events s o → SeriesStandsFor xs tables_next events s o
series_same xs tables tables_next events s None keeps h = h
series_same xs tables tables_next events s (Some one) keeps h = record {
  listed = h.listed;
  expiry = h.expiry;
  traded = h.traded;
  trade_in_range = h.trade_in_range;
  place = by one.place h.place;
}
  where
    by : (place : Place) → PlaceStandsFor tables events s one.expiry place → PlaceStandsFor tables_next events s one.expiry place
    by (Alone price) stands = stands
    by (Row n) stands = (stands.0, keeps one.expiry n s.strike stands.1)

pub stands_refused : (old new : Book) (i : ℕ) (table next : Table) → slice_get old.tables.items i ≡ Some table → IsSameTable table next
    → new.tables.items ≡ set old.tables.items i next → ((t : Symbol) → kept new.series t ≡ kept old.series t)
    → (events : List Event) → BookStandsFor old events → BookStandsFor (with_terms_of new old) events
stands_refused old new i table next there same tables_are series_are events h =
    let xs = old.expiries.items in
    let ts = old.tables.items in
    let Tables : List Table → Type 0 = λ m. TablesStandFor xs m events in
    record {
      lines = h.lines;
      day = h.day;
      opened = h.opened;
      expiries = h.expiries;
      distinct = h.distinct;
      tables = subst Tables (sym tables_are) (tables_same xs ts events i table next there same h.tables);
      opening = h.opening;
      series = λ t.
          let P : List Table → Option Series → Type 0 = λ m o. SeriesStandsFor xs m events t o in
          subst (λ (m : List Table). P m (kept new.series t)) (sym tables_are) (subst (P (set ts i next)) (sym (series_are t))
          (series_same xs ts (set ts i next) events t (kept old.series t) (strikes_written ts i table next there (strikes_same_table table next same)) (h.series t)));
      orderly = h.orderly;
    }

-- ---- a quote

-- a strike has no row while a series of it is not listed
no_row_without : (s : Symbol) (events : List Event) → is_listed s events ≡ false → is_strike_listed (expiry_of s) events s.strike ≡ false
no_row_without s events none = sides_without (λ side. is_listed (series_at (expiry_of s) side s.strike) events) s.side none

quote_elsewhere : (x : Expiry) (events : List Event) (time : ℕ) (s : Symbol) (bid ask : ℕ) → is_same_expiry x (expiry_of s) ≡ false → LeavesTerm x events (event.Quote time s bid ask)
quote_elsewhere x events time s bid ask other =
    leaves_term events (event.Quote time s bid ask) x refl refl (λ side k. ap (λ b. cond b (Some (record { bid = bid; ask = ask })) None) (apart_series x s side k other))

-- a quote changes no row where the strike has none
quote_leaves_rows : (x : Expiry) (events : List Event) (time : ℕ) (s : Symbol) (bid ask : ℕ) → is_strike_listed (expiry_of s) events s.strike ≡ false
    → LeavesTerm x events (event.Quote time s bid ask)
quote_leaves_rows x events time s bid ask none =
    elim (cases_Bool (is_same_expiry x (expiry_of s))) [
      | inr other ↦ quote_elsewhere x events time s bid ask other
      | inl own ↦
          let is : x ≡ expiry_of s = expiry_from_same x (expiry_of s) own in
          record {
            rate = rate_same x events (event.Quote time s bid ask) refl;
            rows = rows_quoted x events time s bid ask own
                ∙ rows_with_unlisted x events s.strike s.side (price_of bid ask) (ap (λ y. is_strike_listed y events s.strike) is ∙ none);
          }
    ]

orderly_quoted : (events : List Event) (time : ℕ) (s : Symbol) (bid ask : ℕ) → AreOrderly events → AreOrderly (events ++ event.Quote time s bid ask ∷ [])
orderly_quoted events time s bid ask h = orderly_next events (event.Quote time s bid ask) (few_still events (event.Quote time s bid ask) (λ x. refl) h) (λ x none. refl) h

-- of a series that is not listed
pub stands_unquoted : (old : Book) (s : Symbol) (time bid ask : ℕ) → kept old.series s ≡ None → (events : List Event) → BookStandsFor old events
    → BookStandsFor (counted old) (events ++ event.Quote time s bid ask ∷ [])
stands_unquoted old s time bid ask none events h =
    let e = event.Quote time s bid ask in
    let xs = old.expiries.items in
    let ts = old.tables.items in
    let unlisted = unlisted_kept xs ts events s (kept old.series s) none (h.series s) in
    stands_rest old old events e refl refl refl
    (tables_left xs ts events e (λ x. quote_leaves_rows x events time s bid ask (no_row_without s events unlisted)) h.tables)
    (λ t. series_left xs xs ts ts (keeps_all xs ts) events e t (kept old.series t)
    (elim (cases_Bool (is_same_series t s)) [
      | inl same ↦ unlisted_left t events e (λ q. refl) (ap (λ q. is_listed q events) (series_from_same t s same) ∙ unlisted)
      | inr apart ↦ quote_leaves t s events time bid ask apart
    ]) (h.series t))
    (orderly_quoted events time s bid ask h.orderly) h

abbrev pub with_place : Place → Series → Series
with_place place one = record one { place = place }

-- of a series that keeps its price by itself
pub stands_quoted_alone : (old new : Book) (s : Symbol) (one : Series) (before price : Price) (time bid ask : ℕ) → kept old.series s ≡ Some one → one.place ≡ Alone before
    → IsLawfulPrice price → price ≡ price_of bid ask → new.tables.items ≡ old.tables.items → SetsSeries s (with_place (Alone price) one) old.series new.series
    → (events : List Event) → BookStandsFor old events → BookStandsFor (counted (with_terms_of new old)) (events ++ event.Quote time s bid ask ∷ [])
stands_quoted_alone old new s one before price time bid ask kept_is place_is lawful price_is same_tables sets events h =
    let e = event.Quote time s bid ask in
    let xs = old.expiries.items in
    let ts = old.tables.items in
    let was = listed_kept xs ts events s (kept old.series s) one kept_is (h.series s) in
    let place : PlaceStandsFor ts events s one.expiry (Alone before) = subst (PlaceStandsFor ts events s one.expiry) place_is was.place in
    let no_row : is_strike_listed (expiry_of s) events s.strike ≡ false = no_row_without (other_side s) events place.0 in
    let own : KeptStandsFor xs ts (events ++ e ∷ []) s (with_place (Alone price) one) = record {
      listed = next_listed s events e ∙ ap (λ b. b || false) was.listed;
      expiry = was.expiry;
      traded = was.traded ∙ sym (trade_same s events e refl);
      trade_in_range = was.trade_in_range;
      place = (listed_same (other_side s) events e refl ∙ place.0, price_is ∙ sym (price_quoted s events time bid ask was.listed), lawful);
    } in
    let Tables : List Table → Type 0 = λ m. TablesStandFor xs m (events ++ e ∷ []) in
    stands_rest old new events e refl refl refl
    (subst Tables (sym same_tables) (tables_left xs ts events e (λ x. quote_leaves_rows x events time s bid ask no_row) h.tables))
    (λ t.
    let P : Option Series → Type 0 = SeriesStandsFor xs ts (events ++ e ∷ []) t in
    let Q : List Table → Type 0 = λ m. SeriesStandsFor xs m (events ++ e ∷ []) t (kept new.series t) in
    subst Q (sym same_tables)
    (after_set P (is_same_series s t) (with_place (Alone price) one) (kept old.series t) (kept new.series t) (sets t)
    (λ same. at_same xs ts (events ++ e ∷ []) s t (with_place (Alone price) one) same own)
    (λ apart. series_left xs xs ts ts (keeps_all xs ts) events e t (kept old.series t) (quote_leaves t s events time bid ask (apart_turned s t apart)) (h.series t))))
    (orderly_quoted events time s bid ask h.orderly) h

-- rows keep their numbers where a price of them is set
strikes_repriced : (k : ℕ) (side : Side) (price : Price) (old new : Table) → new.places.items ≡ old.places.items → new.rows.items ≡ rows_with k side price old.rows.items
    → (n j : ℕ) → strike_of_row old n ≡ Some j → strike_of_row new n ≡ Some j
strikes_repriced k side price old new places rows n j h =
    let has = has_row old.rows.items old.places.items n j h in
    ap (λ l. strike_placed l new.places.items n) rows ∙ ap (λ l. strike_placed (rows_with k side price old.rows.items) l n) places
    ∙ strike_from_row (rows_with k side price old.rows.items) old.places.items n j (record {
      place = has.place;
      row = row_if k side price has.row;
      at_number = has.at_number;
      at_place = slice_get-map (row_if k side price) old.rows.items has.place ∙ ap (option_map (row_if k side price)) has.at_place;
      strike = row_if-strike k side price has.row ∙ has.strike;
    })

-- of a series whose strike has a row
pub stands_quoted_row : (old new : Book) (s : Symbol) (one : Series) (n : ℕ) (price : Price) (table next : Table) (time bid ask : ℕ) → kept old.series s ≡ Some one → one.place ≡ Row n
    → IsLawfulPrice price → price ≡ price_of bid ask → slice_get old.tables.items one.expiry ≡ Some table → SetsPrice n s.side price table next
    → new.tables.items ≡ set old.tables.items one.expiry next → ((t : Symbol) → kept new.series t ≡ kept old.series t)
    → (events : List Event) → BookStandsFor old events → BookStandsFor (counted (with_terms_of new old)) (events ++ event.Quote time s bid ask ∷ [])
stands_quoted_row old new s one n price table next time bid ask kept_is place_is lawful price_is there sets tables_are series_are events h =
    let e = event.Quote time s bid ask in
    let x = expiry_of s in
    let i = one.expiry in
    let xs = old.expiries.items in
    let ts = old.tables.items in
    let ts_next = set ts i next in
    let was = listed_kept xs ts events s (kept old.series s) one kept_is (h.series s) in
    let place : PlaceStandsFor ts events s i (Row n) = subst (PlaceStandsFor ts events s i) place_is was.place in
    let stands = table_at xs ts events i x table h.tables was.expiry there in
    let strike : strike_of_row table n ≡ Some s.strike = sym (ap (option_and_then (λ (t : Table). strike_of_row t n)) there) ∙ place.1 in
    let rows : next.rows.items ≡ rows_with s.strike s.side price table.rows.items = sets.rows s.strike strike in
    let count : length (rows_with s.strike s.side price table.rows.items) ≡ length table.rows.items = length-map table.rows.items (row_if s.strike s.side price) in
    let own : TableStandsFor x (events ++ e ∷ []) next = record {
      shows = record {
        rate_is = sets.rate ∙ stands.shows.rate_is ∙ sym (rate_same x events e refl);
        rate_in_range = subst (λ (rate : Option ℤ). IfSome rate IsRateInRange) (sym sets.rate) stands.shows.rate_in_range;
        rows_are = rows ∙ ap (rows_with s.strike s.side price) stands.shows.rows_are ∙ ap (λ p. rows_with s.strike s.side p (listed_rows x events)) price_is
            ∙ sym (rows_quoted x events time s bid ask (expiry_itself x));
        rows_lawful = subst AreLawfulRows (sym rows) (quoted_lawful s.strike s.side price table.rows.items lawful stands.shows.rows_lawful);
      };
      placed = subst (ArePlaces next.rows.items) (sym sets.places) (subst (λ (l : List StrikeRow). ArePlaces l table.places.items) (sym rows)
          (subst (λ (m : ℕ). All (λ p. p < m) table.places.items) (sym count) stands.placed));
    } in
    let Tables : List Table → Type 0 = λ m. TablesStandFor xs m (events ++ e ∷ []) in
    stands_rest old new events e refl refl refl
    (subst Tables (sym tables_are) (tables_changed xs ts events e i x next h.distinct was.expiry h.tables own (λ y other. quote_elsewhere y events time s bid ask other)))
    (λ t.
    let P : List Table → Option Series → Type 0 = λ m o. SeriesStandsFor xs m (events ++ e ∷ []) t o in
    subst (λ (m : List Table). P m (kept new.series t)) (sym tables_are) (subst (P ts_next) (sym (series_are t))
    (series_left xs xs ts ts_next (record { expiries = λ j y g. g; strikes = strikes_written ts i table next there (strikes_repriced s.strike s.side price table next sets.places rows) })
    events e t (kept old.series t)
    (elim (cases_Bool (is_same_series t s)) [
      | inl same ↦ (let Leaves : Symbol → Type 0 = λ q. LeavesSeries q events e in subst Leaves (sym (series_from_same t s same)) (row_leaves s events time bid ask place.0))
      | inr apart ↦ quote_leaves t s events time bid ask apart
    ]) (h.series t))))
    (orderly_quoted events time s bid ask h.orderly) h

-- ---- a trade

orderly_traded : (events : List Event) (time : ℕ) (s : Symbol) (price : ℕ) → AreOrderly events → AreOrderly (events ++ event.Trade time s price ∷ [])
orderly_traded events time s price h = orderly_next events (event.Trade time s price) (few_still events (event.Trade time s price) (λ x. refl) h) (λ x none. refl) h

-- one that counts for no series
stands_untraded : (old : Book) (s : Symbol) (time price : ℕ) (events : List Event) → ((t : Symbol) → LeavesSeries t events (event.Trade time s price)) → BookStandsFor old events
    → BookStandsFor (counted old) (events ++ event.Trade time s price ∷ [])
stands_untraded old s time price events leaves h =
    let e = event.Trade time s price in
    let xs = old.expiries.items in
    let ts = old.tables.items in
    stands_rest old old events e refl refl refl
    (tables_left xs ts events e (λ x. leaves_term events e x refl refl (λ side k. refl)) h.tables)
    (λ t. series_left xs xs ts ts (keeps_all xs ts) events e t (kept old.series t) (leaves t) (h.series t))
    (orderly_traded events time s price h.orderly) h

-- after the opening
pub stands_traded_late : (old : Book) (s : Symbol) (time price : ℕ) → is_some old.opened ≡ true → (events : List Event) → BookStandsFor old events
    → BookStandsFor (counted old) (events ++ event.Trade time s price ∷ [])
stands_traded_late old s time price opened events h =
    let taken : list_any is_opening events ≡ true = sym (ap is_some h.opened ∙ opened_is events) ∙ opened in
    stands_untraded old s time price events (λ t. late_trade_leaves t s events time price taken) h

-- of a series that is not listed
pub stands_traded_none : (old : Book) (s : Symbol) (time price : ℕ) → kept old.series s ≡ None → (events : List Event) → BookStandsFor old events
    → BookStandsFor (counted old) (events ++ event.Trade time s price ∷ [])
stands_traded_none old s time price none events h =
    let e = event.Trade time s price in
    let unlisted = unlisted_kept old.expiries.items old.tables.items events s (kept old.series s) none (h.series s) in
    stands_untraded old s time price events
    (λ t. elim (cases_Bool (is_same_series t s)) [
      | inl same ↦ unlisted_left t events e (λ q. refl) (ap (λ q. is_listed q events) (series_from_same t s same) ∙ unlisted)
      | inr apart ↦ trade_leaves t s events time price apart
    ]) h

abbrev pub with_trade : ℕ → Series → Series
with_trade price one = record one { traded = option_or one.traded (Some price) }

first_in_range : (o : Option ℕ) (price : ℕ) → IfSome o IsPrice → IsPrice price → IfSome (option_or o (Some price)) IsPrice
first_in_range None price h p = p
first_in_range (Some first) price h p = h

-- of a listed series before the opening
pub stands_traded : (old new : Book) (s : Symbol) (one : Series) (time price : ℕ) → is_some old.opened ≡ false → kept old.series s ≡ Some one → IsPrice price
    → new.tables.items ≡ old.tables.items → SetsSeries s (with_trade price one) old.series new.series
    → (events : List Event) → BookStandsFor old events → BookStandsFor (counted (with_terms_of new old)) (events ++ event.Trade time s price ∷ [])
stands_traded old new s one time price unopened kept_is in_range same_tables sets events h =
    let e = event.Trade time s price in
    let xs = old.expiries.items in
    let ts = old.tables.items in
    let was = listed_kept xs ts events s (kept old.series s) one kept_is (h.series s) in
    let still : list_any is_opening events ≡ false = sym (ap is_some h.opened ∙ opened_is events) ∙ unopened in
    let own : KeptStandsFor xs ts (events ++ e ∷ []) s (with_trade price one) = record {
      listed = next_listed s events e ∙ ap (λ b. b || false) was.listed;
      expiry = was.expiry;
      traded = ap (λ o. option_or o (Some price)) was.traded ∙ sym (trade_taken s events time price still was.listed);
      trade_in_range = first_in_range one.traded price was.trade_in_range in_range;
      place = place_left xs xs ts ts (keeps_all xs ts) events e s one.expiry one.place refl (λ alone. price_same s events e refl) was.place;
    } in
    let Tables : List Table → Type 0 = λ m. TablesStandFor xs m (events ++ e ∷ []) in
    stands_rest old new events e refl refl refl
    (subst Tables (sym same_tables) (tables_left xs ts events e (λ x. leaves_term events e x refl refl (λ side k. refl)) h.tables))
    (λ t.
    let P : Option Series → Type 0 = SeriesStandsFor xs ts (events ++ e ∷ []) t in
    let Q : List Table → Type 0 = λ m. SeriesStandsFor xs m (events ++ e ∷ []) t (kept new.series t) in
    subst Q (sym same_tables)
    (after_set P (is_same_series s t) (with_trade price one) (kept old.series t) (kept new.series t) (sets t)
    (λ same. at_same xs ts (events ++ e ∷ []) s t (with_trade price one) same own)
    (λ apart. series_left xs xs ts ts (keeps_all xs ts) events e t (kept old.series t) (trade_leaves t s events time price (apart_turned s t apart)) (h.series t))))
    (orderly_traded events time s price h.orderly) h

-- ---- the opening

-- the opening trade that is kept is that of the events, and in range
trade_by_kept : (xs : List Expiry) (ts : List Table) (events : List Event) (s : Symbol) (o : Option Series) → SeriesStandsFor xs ts events s o
    → option_and_then (λ (one : Series). one.traded) o ≡ opening_trade s events
trade_by_kept xs ts events s None h = sym (unlisted_has_none s events h).1
trade_by_kept xs ts events s (Some one) h = h.traded

range_by_kept : (xs : List Expiry) (ts : List Table) (events : List Event) (s : Symbol) (o : Option Series) → SeriesStandsFor xs ts events s o
    → IfSome (option_and_then (λ (one : Series). one.traded) o) IsPrice
range_by_kept xs ts events s None h = tt
range_by_kept xs ts events s (Some one) h = h.trade_in_range

pub trades_in_range : (book : Book) (events : List Event) → BookStandsFor book events → (s : Symbol) → IfSome (kept_trade book.series s) IsPrice
trades_in_range book events h s = range_by_kept book.expiries.items book.tables.items events s (kept book.series s) (h.series s)

abbrev pub with_opening_of : Book → Book → Book
with_opening_of new old = record old { opened = new.opened; opening = new.opening }

pub stands_opened : (old new : Book) (time : ℕ) → MayApply old (event.Opening time)
    → new.opened ≡ Some (record { line = old.lines + 1; time = time; expiries = length old.expiries.items })
    → TakesOpening old.expiries.items old.tables.items (kept_trade old.series) new.opening.items
    → (events : List Event) → BookStandsFor old events → BookStandsFor (counted (with_opening_of new old)) (events ++ event.Opening time ∷ [])
stands_opened old new time may opened takes events h =
    let e = event.Opening time in
    let xs = old.expiries.items in
    let ts = old.tables.items in
    let none : list_any is_opening events ≡ false =
    sym (ap is_some h.opened ∙ opened_is events) ∙ ap is_some (may.1).opened ∙ opened_is may.0 ∙ (no_causes may.0 e (may.2).in_order).first_opening in
    record {
      lines = ap (λ n. n + 1) h.lines ∙ sym (length_push events e);
      day = h.day ∙ sym (day_same events e refl);
      opened = opened ∙ ap (λ n. Some (record { line = n + 1; time = time; expiries = length xs })) h.lines
          ∙ ap (λ l. Some (record { line = length events + 1; time = time; expiries = length l })) h.expiries ∙ sym (opened_now events time none);
      expiries = h.expiries ∙ sym (expiries_same events e refl);
      distinct = h.distinct;
      tables = tables_left xs ts events e (λ x. leaves_term events e x refl refl (λ side k. refl)) h.tables;
      opening = opening_taken xs ts (kept_trade old.series) new.opening.items events time none
          (λ s. trade_by_kept xs ts events s (kept old.series s) (h.series s)) (trades_in_range old events h) h.tables takes;
      series = λ s. series_left xs xs ts ts (keeps_all xs ts) events e s (kept old.series s) (says_nothing s events e refl refl refl refl) (h.series s);
      orderly = orderly_next events e (few_still events e (λ x. refl) h.orderly) (λ x gone. refl) h.orderly;
    }

-- ---- what a series leads to

-- the expiry of a series of which something is kept
pub kept_expiry : (book : Book) (events : List Event) (s : Symbol) (one : Series) → BookStandsFor book events → kept book.series s ≡ Some one
    → slice_get book.expiries.items one.expiry ≡ Some (expiry_of s)
kept_expiry book events s one h is = (listed_kept book.expiries.items book.tables.items events s (kept book.series s) one is (h.series s)).expiry

pub place_within : (book : Book) (events : List Event) (i : ℕ) (x : Expiry) → BookStandsFor book events → slice_get book.expiries.items i ≡ Some x → i < length book.tables.items
place_within book events i x h at = (let many = (h.tables).as_many in let less = slice_get_within book.expiries.items i x at in omega arith)

-- the strike of the row of a series, in the table of its expiry
pub kept_strike : (book : Book) (events : List Event) (s : Symbol) (one : Series) (n : ℕ) (table : Table) → BookStandsFor book events → kept book.series s ≡ Some one → one.place ≡ Row n
    → slice_get book.tables.items one.expiry ≡ Some table → strike_of_row table n ≡ Some s.strike
kept_strike book events s one n table h is place_is there =
    let was = listed_kept book.expiries.items book.tables.items events s (kept book.series s) one is (h.series s) in
    let place : PlaceStandsFor book.tables.items events s one.expiry (Row n) = subst (PlaceStandsFor book.tables.items events s one.expiry) place_is was.place in
    sym (ap (option_and_then (λ (t : Table). strike_of_row t n)) there) ∙ place.1

-- where a declared expiry is found
pub found_at : (x : Expiry) (xs ys : List Expiry) (found : Option ℕ) (i : ℕ) → found ≡ position (is_same_expiry x) xs → xs ≡ ys → found ≡ Some i → slice_get ys i ≡ Some x
found_at x xs ys found i is same at =
    let Says : Option ℕ → Type 0 = λ o. MatchOption o (list_any (is_same_expiry x) ys ≡ false) (λ j. slice_get ys j ≡ Some x) in
    subst Says (sym (is ∙ ap (position (is_same_expiry x)) same) ∙ at) (position_says x ys)

pub not_found : (x : Expiry) (xs ys : List Expiry) (found : Option ℕ) → found ≡ position (is_same_expiry x) xs → xs ≡ ys → found ≡ None → list_any (is_same_expiry x) ys ≡ true → ⊥
not_found x xs ys found is same none some =
    let Says : Option ℕ → Type 0 = λ o. MatchOption o (list_any (is_same_expiry x) ys ≡ false) (λ j. slice_get ys j ≡ Some x) in
    let gone : list_any (is_same_expiry x) ys ≡ false = subst Says (sym (is ∙ ap (position (is_same_expiry x)) same) ∙ none) (position_says x ys) in
    let both : true ≡ false = sym some ∙ gone in
    cc both

-- the expiry of a rate or of a series that may come next is declared
pub rate_declared : (book : Book) (x : Expiry) (rate : ℤ) → MayApply book (event.Rate x rate) → list_any (is_same_expiry x) book.expiries.items ≡ true
rate_declared book x rate may =
    ap (list_any (is_same_expiry x)) (may.1).expiries ∙ not-false (is_declared x may.0) (no_causes may.0 (event.Rate x rate) (may.2).in_order).declared

pub series_declared : (book : Book) (s : Symbol) → MayApply book (event.Series s) → list_any (is_same_expiry (expiry_of s)) book.expiries.items ≡ true
series_declared book s may =
    ap (list_any (is_same_expiry (expiry_of s))) (may.1).expiries ∙ not-false (is_declared (expiry_of s) may.0) (no_causes may.0 (event.Series s) (may.2).in_order).declared

-- what the opening shows of an expiry, once it was taken
pub opening_shown : (book : Book) (events : List Event) (i : ℕ) (x : Expiry) → BookStandsFor book events → is_some book.opened ≡ true → slice_get book.expiries.items i ≡ Some x
    → Shows (opening_rate x events) (opening_rows x events) (kept_opening_rate book.opening.items i) (kept_opening_rows book.opening.items i)
opening_shown book events i x h opened at = (h.opening).each (sym (ap is_some h.opened ∙ opened_is events) ∙ opened) i x at
