-- The opening after one more event.
use Rattle.std.proofs.Common.{◌≡◌, ◌∙◌, sym, ap, subst, refl, inl, inr, ℕ, zero, suc, ℤ, ◌+◌, ◌<◌, ◌≤◌, Bool, true, false, cond, ◌||◌, List, [], ◌∷◌, ◌++◌, map, length, Option, Some, None, arith}
use Rattle.std.specs.Prelude.{IfSome, is_some, slice_get, option_map, option_and_then}
use Rattle.std.specs.List.{filter, list_any}
use Rattle.std.specs.Option.{option_map_or, option_or}
use Rattle.std.proofs.lemmas.Bool.{and_left, cases_Bool, cases_lt, or_parts}
use Rattle.std.proofs.lemmas.Option.{slice_get_past, slice_get_within}
use Rattle.vx_clock.specs.declared.terms.Expiry.{Expiry}
use Rattle.vx_symbol.specs.declared.symbols.Side.{Side}
use Rattle.vx_symbol.specs.declared.symbols.Side.TheVariants.{Call, Put}
use Rattle.vx_symbol.specs.declared.symbols.Symbol.{Symbol}
use Rattle.vx_symbol.specs.declared.rows.Price.{Price}
use Rattle.vx_symbol.specs.declared.rows.StrikeRow.{StrikeRow}
use Rattle.vx_symbol.specs.Rows.{AreLawfulRows, IsRateInRange}
use Rattle.vx_feed.specs.declared.events.Event.{Event}
use Rattle.vx_feed.specs.declared.events.Event.TheVariants as event
use Rattle.vx_feed.specs.Ranges.{IsPrice}
use Rattle.vx_feed.specs.Said.{first_said, last_said}
use Rattle.vx_feed.specs.Standing.{before_opening, is_opening, lists_series, opening_trade, rate_of, since_listed, standing_rate, trade_of}
use Rattle.vx_feed.specs.Listed.{declared_expiries, is_listed, is_strike_listed, listed_rows, listed_strikes, row_of, series_at, standing_price, strikes_of}
use Rattle.vx_feed.specs.Opening.{opening_expiries, opening_line, opening_minute, opening_price, opening_rate, opening_rows, opening_time, traded_price}
use Rattle.vx_feed.proofs.NextEvent.{any-push, before_opening-all, first_said-push, or-false}
use Rattle.vx_feed.proofs.OpeningLemmas.{before_kept, before_now, not_opened, time_is}
use Rattle.vx_book.specs.declared.opening.Opened.{Opened}
use Rattle.vx_book.specs.declared.opening.OpeningTerm.{OpeningTerm}
use Rattle.vx_book.specs.declared.table.Table.{Table}
use Rattle.vx_book.specs.Opening.{TakesOpening, kept_opening_rate, kept_opening_rows, opened_at, rows_with_trades}
use Rattle.vx_book.specs.StandsFor.{OpeningStandsFor, Shows, TableStandsFor, TablesStandFor}
use Rattle.vx_book.proofs.Lawful.{traded_rows_lawful}
use Rattle.vx_feed.proofs.RisingStrikes.{dropped}
use Rattle.vx_book.proofs.Places.{get_of_pushed, get_pushed}
use Rattle.vx_book.proofs.Terms.{and_there, shows_next}

-- ---- whether the opening was taken

abbrev opened_when : ℕ → ℕ → ℕ → Opened
opened_when line time expiries = record { line = line; time = time; expiries = expiries }

mapped_is : {X : Type 0} (f : ℕ → X) (o : Option ℕ) → is_some (option_map f o) ≡ is_some o
mapped_is f None = refl
mapped_is f (Some n) = refl

pub opened_is : (events : List Event) → is_some (opened_at events) ≡ list_any is_opening events
opened_is events = mapped_is (λ time. opened_when (opening_line events) time (length (opening_expiries events))) (opening_time events) ∙ time_is events

or_some : (a b : Option ℕ) → is_some a ≡ true → option_or a b ≡ a
or_some None b h = cc
or_some (Some x) b h = refl

-- the opening by its time and by the events before it
abbrev opened_by : Option ℕ → List Event → Option Opened
opened_by time before = option_map (λ t. opened_when (length before + 1) t (length (declared_expiries before))) time

pub opened_kept : (events : List Event) (e : Event) → list_any is_opening events ≡ true → opened_at (events ++ e ∷ []) ≡ opened_at events
opened_kept events e opened =
    ap (opened_by (opening_time (events ++ e ∷ []))) (before_kept events e opened)
    ∙ ap (λ time. opened_by time (before_opening events))
    (first_said-push opening_minute events e ∙ or_some (opening_time events) (opening_minute e) (time_is events ∙ opened))

-- an event that is no opening
pub opened_same : (events : List Event) (e : Event) → is_opening e ≡ false → opened_at (events ++ e ∷ []) ≡ opened_at events
opened_same events e none =
    elim (cases_Bool (list_any is_opening events)) [
      | inl opened ↦ opened_kept events e opened
      | inr unopened ↦
          ap (λ time. opened_by time (before_opening (events ++ e ∷ []))) (not_opened (events ++ e ∷ []) (any-push is_opening events e ∙ ap (λ b. b || is_opening e) unopened ∙ none))
          ∙ sym (ap (λ time. opened_by time (before_opening events)) (not_opened events unopened))
    ]

pub opened_now : (events : List Event) (time : ℕ) → list_any is_opening events ≡ false
    → opened_at (events ++ event.Opening time ∷ []) ≡ Some (opened_when (length events + 1) time (length (declared_expiries events)))
opened_now events time unopened =
    ap (opened_by (opening_time (events ++ event.Opening time ∷ []))) (before_now events time unopened)
    ∙ ap (λ t. opened_by t events) (first_said-push opening_minute events (event.Opening time) ∙ ap (λ o. option_or o (Some time)) (not_opened events unopened))

-- ---- what the opening shows

-- the opening prices by the events before it
abbrev price_by : List Event → Symbol → Price
price_by before s = traded_price (first_said (trade_of s) (since_listed s before)) (standing_price before s)

abbrev rows_by : Expiry → List Event → List StrikeRow
rows_by x before = map (row_of (price_by before) x) (listed_strikes x before)

pub rate_kept : (x : Expiry) (events : List Event) (e : Event) → list_any is_opening events ≡ true → opening_rate x (events ++ e ∷ []) ≡ opening_rate x events
rate_kept x events e opened = ap (standing_rate x) (before_kept events e opened)

pub rows_kept : (x : Expiry) (events : List Event) (e : Event) → list_any is_opening events ≡ true → opening_rows x (events ++ e ∷ []) ≡ opening_rows x events
rows_kept x events e opened = ap (rows_by x) (before_kept events e opened)

opened_before : (events : List Event) (e : Event) → is_opening e ≡ false → list_any is_opening (events ++ e ∷ []) ≡ true → list_any is_opening events ≡ true
opened_before events e none h =
    sym (any-push is_opening events e ∙ ap (λ b. list_any is_opening events || b) none ∙ or-false (list_any is_opening events)) ∙ h

pub opening_left : (xs : List Expiry) (terms : List OpeningTerm) (events : List Event) (e : Event) → is_opening e ≡ false
    → OpeningStandsFor xs terms events → OpeningStandsFor xs terms (events ++ e ∷ [])
opening_left xs terms events e none h = record {
  no_more = h.no_more;
  each = λ opened i x at.
      let before = opened_before events e none opened in
      shows_next (opening_rate x events) (opening_rate x (events ++ e ∷ [])) (opening_rows x events) (opening_rows x (events ++ e ∷ [])) (kept_opening_rate terms i) (kept_opening_rows terms i)
      (rate_kept x events e before) (rows_kept x events e before) (h.each before i x at);
}

-- ---- an expiry declared after the opening

unsaid : (x : Expiry) (events : List Event) → last_said (rate_of x) events ≡ None → last_said (rate_of x) (before_opening events) ≡ None
unsaid x [] h = refl
unsaid x (e ∷ events) h =
    let parts = neither (last_said (rate_of x) events) (rate_of x e) h in
    elim (is_opening e) as (λ b. last_said (rate_of x) (cond b [] (e ∷ before_opening events)) ≡ None) [
      | true ↦ refl
      | false ↦ ap (λ o. option_or o (rate_of x e)) (unsaid x events parts.0) ∙ parts.1
    ]
  where
    neither : (a b : Option ℤ) → option_or a b ≡ None → (a ≡ None) × (b ≡ None)
    neither None b h = (refl, h)
    neither (Some z) b h = cc

unlisted_before : (s : Symbol) (events : List Event) → is_listed s events ≡ false → is_listed s (before_opening events) ≡ false
unlisted_before s [] h = refl
unlisted_before s (e ∷ events) h =
    let parts = or_parts (lists_series s e) (is_listed s events) h in
    elim (is_opening e) as (λ b. is_listed s (cond b [] (e ∷ before_opening events)) ≡ false) [
      | true ↦ refl
      | false ↦ ap (λ b. b || is_listed s (before_opening events)) parts.0 ∙ unlisted_before s events parts.1
    ]

none_pass : (t : ℕ → Bool) → ((k : ℕ) → t k ≡ false) → (ks : List ℕ) → filter t ks ≡ []
none_pass t fails [] = refl
none_pass t fails (k ∷ ks) = dropped t k ks (fails k) ∙ none_pass t fails ks

no_strikes : (x : Expiry) (events : List Event) → ((side : Side) (k : ℕ) → is_listed (series_at x side k) events ≡ false) → listed_strikes x events ≡ []
no_strikes x events none =
    none_pass (is_strike_listed x events) (λ k. and_left (is_listed (series_at x Put k) events) (is_listed (series_at x Call k) events) (none Put k)) (strikes_of x events)

pub no_rows : (x : Expiry) (events : List Event) → ((side : Side) (k : ℕ) → is_listed (series_at x side k) events ≡ false) → listed_rows x events ≡ []
no_rows x events none = ap (map (row_of (standing_price events) x)) (no_strikes x events none)

no_opening_rows : (x : Expiry) (events : List Event) → ((side : Side) (k : ℕ) → is_listed (series_at x side k) events ≡ false) → opening_rows x events ≡ []
no_opening_rows x events none =
    ap (map (row_of (opening_price events) x)) (no_strikes x (before_opening events) (λ side k. unlisted_before (series_at x side k) events (none side k)))

pub shows_nothing : (rate_due : Option ℤ) (rows_due : List StrikeRow) → rate_due ≡ None → rows_due ≡ [] → Shows rate_due rows_due None []
shows_nothing rate_due rows_due rate rows = record {
  rate_is = sym rate;
  rate_in_range = tt;
  rows_are = sym rows;
  rows_lawful = record { count = omega arith; each = λ k d h. absurd (omega arith); rising = λ i j d lt h. absurd (omega arith) };
}

pub opening_added : (xs : List Expiry) (terms : List OpeningTerm) (events : List Event) (e : Event) (x : Expiry) → is_opening e ≡ false
    → standing_rate x events ≡ None → ((side : Side) (k : ℕ) → is_listed (series_at x side k) events ≡ false)
    → OpeningStandsFor xs terms events → OpeningStandsFor (xs ++ x ∷ []) terms (events ++ e ∷ [])
opening_added xs terms events e x none no_rate no_series h = record {
  no_more = (let few = h.no_more in let m = more xs x in omega arith);
  each = λ opened i y at.
      let before = opened_before events e none opened in
      let due : Expiry → Option ℤ → List StrikeRow → Type 0 = λ z rate rows. Shows (opening_rate z (events ++ e ∷ [])) (opening_rows z (events ++ e ∷ [])) rate rows in
      get_of_pushed (due y (kept_opening_rate terms i) (kept_opening_rows terms i)) xs x i y at
      (λ old. shows_next (opening_rate y events) (opening_rate y (events ++ e ∷ [])) (opening_rows y events) (opening_rows y (events ++ e ∷ [])) (kept_opening_rate terms i) (kept_opening_rows terms i)
      (rate_kept y events e before) (rows_kept y events e before) (h.each before i y old))
      (λ last is.
      let past : slice_get terms i ≡ None = slice_get_past terms i (let few = h.no_more in omega arith) in
      let P : Option OpeningTerm → Type 0 = λ o. due y (option_and_then (λ (term : OpeningTerm). term.rate) o) (option_map_or (λ (term : OpeningTerm). term.rows.items) o []) in
      let Q : Expiry → Type 0 = λ z. due z None [] in
      subst P (sym past) (subst Q is
      (shows_nothing (opening_rate x (events ++ e ∷ [])) (opening_rows x (events ++ e ∷ [])) (rate_kept x events e before ∙ unsaid x events no_rate)
      (rows_kept x events e before ∙ no_opening_rows x events no_series))));
}
  where
    more : {Y : Type 0} (ys : List Y) (y : Y) → length (ys ++ y ∷ []) ≡ length ys + 1
    more [] y = refl
    more (z ∷ ys) y = (let m = more ys y in omega arith)

-- ---- the opening is taken

traded_rows : (trade : Symbol → Option ℕ) (quoted : Symbol → Price) (x : Expiry) (ks : List ℕ)
    → rows_with_trades trade x (map (row_of quoted x) ks) ≡ map (row_of (λ s. traded_price (trade s) (quoted s)) x) ks
traded_rows trade quoted x [] = refl
traded_rows trade quoted x (k ∷ ks) = ap (λ l. row_of (λ s. traded_price (trade s) (quoted s)) x k ∷ l) (traded_rows trade quoted x ks)

abbrev row_at : ℕ → Price → Price → StrikeRow
row_at strike put call = record { strike = strike; put = put; call = call }

same_prices : (a b : Symbol → Price) → ((s : Symbol) → a s ≡ b s) → (x : Expiry) (ks : List ℕ) → map (row_of a x) ks ≡ map (row_of b x) ks
same_prices a b same x [] = refl
same_prices a b same x (k ∷ ks) =
    ap (λ p. row_at k p (a (series_at x Call k)) ∷ map (row_of a x) ks) (same (series_at x Put k))
    ∙ ap (λ p. row_at k (b (series_at x Put k)) p ∷ map (row_of a x) ks) (same (series_at x Call k))
    ∙ ap (λ l. row_of b x k ∷ l) (same_prices a b same x ks)

abbrev with_opening : List Event → ℕ → List Event
with_opening events time = events ++ event.Opening time ∷ []

pub opening_taken : (xs : List Expiry) (tables : List Table) (trade : Symbol → Option ℕ) (terms : List OpeningTerm) (events : List Event) (time : ℕ)
    → list_any is_opening events ≡ false → ((s : Symbol) → trade s ≡ opening_trade s events) → ((s : Symbol) → IfSome (trade s) IsPrice)
    → TablesStandFor xs tables events → TakesOpening xs tables trade terms → OpeningStandsFor xs terms (events ++ event.Opening time ∷ [])
opening_taken xs tables trade terms events time unopened trades ranges h takes = record {
  no_more = takes.no_more;
  each = λ opened i x at.
      and_there (slice_get tables i) (TableStandsFor x events) (Shows (opening_rate x (with_opening events time)) (opening_rows x (with_opening events time)) (kept_opening_rate terms i) (kept_opening_rows terms i)) (h.each i x at)
      (λ table there stands.
      let took = takes.each i x table at there in
      let shows = stands.shows in
      let same_price : (s : Symbol) → traded_price (trade s) (standing_price events s) ≡ price_by events s = λ s.
      ap (λ t. traded_price t (standing_price events s)) (trades s ∙ ap (λ l. first_said (trade_of s) (since_listed s l)) (before_opening-all events unopened)) in
      let rows_due : rows_with_trades trade x (listed_rows x events) ≡ opening_rows x (with_opening events time) =
      traded_rows trade (standing_price events) x (listed_strikes x events)
      ∙ same_prices (λ s. traded_price (trade s) (standing_price events s)) (price_by events) same_price x (listed_strikes x events)
      ∙ sym (ap (rows_by x) (before_now events time unopened)) in
      let rate_due : standing_rate x events ≡ opening_rate x (with_opening events time) = sym (ap (standing_rate x) (before_now events time unopened)) in
      let Lawful : List StrikeRow → Type 0 = AreLawfulRows in
      let InRange : Option ℤ → Type 0 = λ rate. Shows (opening_rate x (with_opening events time)) (opening_rows x (with_opening events time)) rate (kept_opening_rows terms i) in
      record {
        rate_is = took.0 ∙ shows.rate_is ∙ rate_due;
        rate_in_range = subst (λ (rate : Option ℤ). IfSome rate IsRateInRange) (sym took.0) shows.rate_in_range;
        rows_are = took.1 ∙ ap (rows_with_trades trade x) shows.rows_are ∙ rows_due;
        rows_lawful = subst Lawful (sym took.1) (traded_rows_lawful trade ranges x table.rows.items shows.rows_lawful);
      });
}

-- ---- one expiry after another

-- the terms of the first expiries, as many as there are
pub record TakesFirst (n : ℕ) (xs : List Expiry) (tables : List Table) (trade : Symbol → Option ℕ) (terms : List OpeningTerm) : Type 0 where
  pub as_many : length terms ≡ n
  pub each : (i : ℕ) (x : Expiry) (table : Table) → i < n → slice_get xs i ≡ Some x → slice_get tables i ≡ Some table
      → (kept_opening_rate terms i ≡ table.rate) × (kept_opening_rows terms i ≡ rows_with_trades trade x table.rows.items)

abbrev rate_of_term : Option OpeningTerm → Option ℤ
rate_of_term o = option_and_then (λ (term : OpeningTerm). term.rate) o

abbrev rows_of_term : Option OpeningTerm → List StrikeRow
rows_of_term o = option_map_or (λ (term : OpeningTerm). term.rows.items) o []

pub takes_more : (n : ℕ) (xs : List Expiry) (tables : List Table) (trade : Symbol → Option ℕ) (terms : List OpeningTerm) (x : Expiry) (table : Table) (term : OpeningTerm)
    → slice_get xs n ≡ Some x → slice_get tables n ≡ Some table → term.rate ≡ table.rate → term.rows.items ≡ rows_with_trades trade x table.rows.items
    → TakesFirst n xs tables trade terms → TakesFirst (n + 1) xs tables trade (terms ++ term ∷ [])
takes_more n xs tables trade terms x table term at there rate rows h = record {
  as_many = more terms term ∙ ap (λ m. m + 1) h.as_many;
  each = λ i y found less own own_table.
      elim (cases_lt i n) [
        | inl before ↦
            let old = nth_before terms (term ∷ []) i (let many = h.as_many in omega arith) in
            let took = h.each i y found before own own_table in
            (ap rate_of_term old ∙ took.0, ap rows_of_term old ∙ took.1)
        | inr past ↦
            let is : i ≡ n = omega arith in
            let new : slice_get (terms ++ term ∷ []) i ≡ Some term = ap (slice_get (terms ++ term ∷ [])) (is ∙ sym h.as_many) ∙ get_pushed terms term in
            let both : Some y ≡ Some x = sym own ∙ ap (slice_get xs) is ∙ at in
            let both_tables : Some found ≡ Some table = sym own_table ∙ ap (slice_get tables) is ∙ there in
            let same : x ≡ y = sym (cc both) in
            let same_table : table ≡ found = sym (cc both_tables) in (
              ap rate_of_term new ∙ rate ∙ ap (λ (t : Table). t.rate) same_table,
              ap rows_of_term new ∙ rows ∙ ap (λ z. rows_with_trades trade z table.rows.items) same ∙ ap (λ (t : Table). rows_with_trades trade y t.rows.items) same_table,
            )
      ];
}
  where
    more : {Y : Type 0} (ys : List Y) (y : Y) → length (ys ++ y ∷ []) ≡ length ys + 1
    more [] y = refl
    more (z ∷ ys) y = (let m = more ys y in omega arith)

    nth_before : (ys zs : List OpeningTerm) (i : ℕ) → i < length ys → slice_get (ys ++ zs) i ≡ slice_get ys i
    nth_before [] zs i h = absurd (omega arith)
    nth_before (y ∷ ys) zs zero h = refl
    nth_before (y ∷ ys) zs (suc i) h = nth_before ys zs i (omega arith)

pub takes_all : (n : ℕ) (xs : List Expiry) (tables : List Table) (trade : Symbol → Option ℕ) (terms : List OpeningTerm) → length tables ≤ n → length terms ≤ length xs
    → TakesFirst n xs tables trade terms → TakesOpening xs tables trade terms
takes_all n xs tables trade terms all no_more h = record {
  no_more = no_more;
  each = λ i x table at there. h.each i x table (let less = slice_get_within tables i table there in omega arith) at there;
}

-- what is kept of one expiry
pub shown_by : (terms : List OpeningTerm) (i : ℕ) (term : OpeningTerm) (rate : Option ℤ) (rows : List StrikeRow) → slice_get terms i ≡ Some term
    → Shows rate rows (kept_opening_rate terms i) (kept_opening_rows terms i) → Shows rate rows term.rate term.rows.items
shown_by terms i term rate rows is h = (let P : Option OpeningTerm → Type 0 = λ o. Shows rate rows (rate_of_term o) (rows_of_term o) in subst P is h)

pub shown_by_none : (terms : List OpeningTerm) (i : ℕ) (rate : Option ℤ) (rows : List StrikeRow) → slice_get terms i ≡ None
    → Shows rate rows (kept_opening_rate terms i) (kept_opening_rows terms i) → Shows rate rows None []
shown_by_none terms i rate rows is h = (let P : Option OpeningTerm → Type 0 = λ o. Shows rate rows (rate_of_term o) (rows_of_term o) in subst P is h)
