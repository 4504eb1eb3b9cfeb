-- The book stands for a list of events. This project's own.
use Rattle.std.specs.Prelude.{◌≡◌, ℕ, ◌+◌, ◌≤◌, ℤ, true, false, List, [], ◌∷◌, ◌++◌, length, Option, Some, None, MatchOption, IfSome, IsSomeAnd, option_and_then, slice_get}
use Rattle.std.specs.List.{list_any}
use Rattle.vx_clock.specs.declared.terms.Expiry.{Expiry}
use Rattle.vx_symbol.specs.declared.limits.TheConstants.{ROWS_MAX}
use Rattle.vx_symbol.specs.declared.symbols.Symbol.{Symbol}
use Rattle.vx_symbol.specs.declared.rows.Price.{Price}
use Rattle.vx_symbol.specs.declared.rows.StrikeRow.{StrikeRow}
use Rattle.vx_symbol.specs.declared.rows.TermView.{TermView}
use Rattle.vx_symbol.specs.Rows.{AreLawfulRows, IsLawfulPrice, IsRateInRange}
use Rattle.vx_feed.specs.declared.events.Event.{Event}
use Rattle.vx_feed.specs.declared.events.Event.TheVariants as event
use Rattle.vx_feed.specs.Ranges.{IsPrice}
use Rattle.vx_feed.specs.Standing.{is_opening, opening_trade, standing_rate}
use Rattle.vx_feed.specs.Listed.{declared_expiries, expiry_of, is_declared, is_listed, listed_rows, other_side, standing_price, strikes_of, trade_date, price_of}
use Rattle.vx_feed.specs.Opening.{opening_rate, opening_rows}
use Rattle.vx_feed.specs.Order.{IsLawfulNext}
use Rattle.vx_book.specs.declared.book.Book.{Book}
use Rattle.vx_book.specs.declared.opening.OpeningTerm.{OpeningTerm}
use Rattle.vx_book.specs.declared.series.Place.{Place}
use Rattle.vx_book.specs.declared.series.Place.TheVariants.{Alone, Row}
use Rattle.vx_book.specs.declared.series.Series.{Series}
use Rattle.vx_book.specs.declared.table.Table.{Table}
use Rattle.vx_book.specs.Series.{kept, kept_trade}
use Rattle.vx_book.specs.Tables.{ArePlaces, strike_of_row}
use Rattle.vx_book.specs.Opening.{TakesOpening, kept_opening_rate, kept_opening_rows, opened_at}

-- the rate and the rows that are kept are those that are due, and a lawful term
pub record Shows (rate_due : Option ℤ) (rows_due : List StrikeRow) (rate : Option ℤ) (rows : List StrikeRow) : Type 0 where
  pub rate_is : rate ≡ rate_due
  pub rate_in_range : IfSome rate IsRateInRange
  pub rows_are : rows ≡ rows_due
  pub rows_lawful : AreLawfulRows rows

-- no expiry stands at two places
abbrev pub AreDistinct : List Expiry → Type 0
AreDistinct expiries = (i j : ℕ) (x : Expiry) → slice_get expiries i ≡ Some x → slice_get expiries j ≡ Some x → i ≡ j

-- the table shows the standing rate and the listed rows of the expiry, each of which has a place
pub record TableStandsFor (x : Expiry) (events : List Event) (table : Table) : Type 0 where
  pub shows : Shows (standing_rate x events) (listed_rows x events) table.rate table.rows.items
  pub placed : ArePlaces table.rows.items table.places.items

-- there is a table for each expiry, at its place
pub record TablesStandFor (expiries : List Expiry) (tables : List Table) (events : List Event) : Type 0 where
  pub as_many : length tables ≡ length expiries
  pub each : (i : ℕ) (x : Expiry) → slice_get expiries i ≡ Some x → IsSomeAnd (slice_get tables i) (TableStandsFor x events)

-- what is kept of each expiry for the opening, once it was taken
pub record OpeningStandsFor (expiries : List Expiry) (terms : List OpeningTerm) (events : List Event) : Type 0 where
  pub no_more : length terms ≤ length expiries
  pub each : list_any is_opening events ≡ true → (i : ℕ) (x : Expiry) → slice_get expiries i ≡ Some x
      → Shows (opening_rate x events) (opening_rows x events) (kept_opening_rate terms i) (kept_opening_rows terms i)

-- the strike of the row of this number in the table at this place
abbrev pub strike_kept : List Table → ℕ → ℕ → Option ℕ
strike_kept tables i n = option_and_then (λ table. strike_of_row table n) (slice_get tables i)

-- the price of a listed series is kept where it says: by itself while the other side is not listed, and then in the row of its strike
abbrev pub PlaceStandsFor : List Table → List Event → Symbol → ℕ → Place → Type 0
PlaceStandsFor tables events s i (Alone price) =
    (is_listed (other_side s) events ≡ false) × (price ≡ standing_price events s) × IsLawfulPrice price
PlaceStandsFor tables events s i (Row n) = (is_listed (other_side s) events ≡ true) × (strike_kept tables i n ≡ Some s.strike)

-- what is kept of a series: it is listed, and its expiry, its opening trade and the place of its price are so
pub record KeptStandsFor (expiries : List Expiry) (tables : List Table) (events : List Event) (s : Symbol) (one : Series) : Type 0 where
  pub listed : is_listed s events ≡ true
  pub expiry : slice_get expiries one.expiry ≡ Some (expiry_of s)
  pub traded : one.traded ≡ opening_trade s events
  pub trade_in_range : IfSome one.traded IsPrice
  pub place : PlaceStandsFor tables events s one.expiry one.place

-- where nothing is kept of it, it is not listed
abbrev pub SeriesStandsFor : List Expiry → List Table → List Event → Symbol → Option Series → Type 0
SeriesStandsFor expiries tables events s one = MatchOption one (is_listed s events ≡ false) (KeptStandsFor expiries tables events s)

-- no expiry has more strikes than a term, and one that is not declared has no rate
pub record AreOrderly (events : List Event) : Type 0 where
  pub few : (x : Expiry) → length (strikes_of x events) ≤ ROWS_MAX
  pub undeclared : (x : Expiry) → is_declared x events ≡ false → standing_rate x events ≡ None

-- each part that the book keeps is what the list of events says
pub record BookStandsFor (book : Book) (events : List Event) : Type 0 where
  pub lines : book.lines ≡ length events
  pub day : book.day ≡ trade_date events
  pub opened : book.opened ≡ opened_at events
  pub expiries : book.expiries.items ≡ declared_expiries events
  pub distinct : AreDistinct book.expiries.items
  pub tables : TablesStandFor book.expiries.items book.tables.items events
  pub opening : OpeningStandsFor book.expiries.items book.opening.items events
  pub series : (s : Symbol) → SeriesStandsFor book.expiries.items book.tables.items events s (kept book.series s)
  pub orderly : AreOrderly events

-- there is a list of events for which the book stands
abbrev pub BookStandsForSome : Book → Type 0
BookStandsForSome book = (events : List Event) × BookStandsFor book events

-- the event is lawful next after a list of events for which the book stands
abbrev pub MayApply : Book → Event → Type 0
MayApply book e = (events : List Event) × BookStandsFor book events × IsLawfulNext events e

-- the new book stands for the events with this one at their end
abbrev pub Applies : Book → Event → Book → Type 0
Applies old e new = (events : List Event) → BookStandsFor old events → BookStandsFor new (events ++ e ∷ [])

-- the new book stands for the same events
abbrev pub StandsStill : Book → Book → Type 0
StandsStill old new = (events : List Event) → BookStandsFor old events → BookStandsFor new events

-- the book with one line more
abbrev pub counted : Book → Book
counted book = record book { lines = book.lines + 1 }

-- the same once its line is counted
abbrev pub StandsNext : Book → Event → Book → Type 0
StandsNext old e new = Applies old e (counted new)

-- the price is that of a quote of the series, whatever its bid, its ask and its time were
abbrev pub TakesQuote : Book → Symbol → Price → Book → Type 0
TakesQuote old s price new = (time bid ask : ℕ) → price ≡ price_of bid ask → StandsNext old (event.Quote time s bid ask) new

-- the series trades at this price, at whatever time
abbrev pub TakesTrade : Book → Symbol → ℕ → Book → Type 0
TakesTrade old s price new = (time : ℕ) → StandsNext old (event.Trade time s price) new

-- the opening is taken of what the book keeps
abbrev pub TakesOpeningOf : Book → List OpeningTerm → Type 0
TakesOpeningOf book terms = TakesOpening book.expiries.items book.tables.items (kept_trade book.series) terms

-- ---- what the book shows

-- the expiry's standing rate, and its listed rows with the prices of their standing quotes
pub record IsStandingTerm (events : List Event) (term : TermView) : Type 0 where
  pub rate : term.rate ≡ standing_rate term.expiry events
  pub rows : term.rows.now ≡ listed_rows term.expiry events

-- the rate and the rows of the expiry at the opening
pub record IsTermAtOpening (events : List Event) (term : TermView) : Type 0 where
  pub rate : term.rate ≡ opening_rate term.expiry events
  pub rows : term.rows.now ≡ opening_rows term.expiry events
