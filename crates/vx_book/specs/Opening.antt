-- What is kept of the opening. This project's own.
use Rattle.std.specs.Prelude.{◌≡◌, ℕ, ◌≤◌, ℤ, List, [], map, length, Option, Some, option_map, option_and_then, slice_get}
use Rattle.std.specs.Option.{option_map_or}
use Rattle.vx_clock.specs.declared.terms.Expiry.{Expiry}
use Rattle.vx_symbol.specs.declared.symbols.Side.TheVariants.{Call, Put}
use Rattle.vx_symbol.specs.declared.symbols.Symbol.{Symbol}
use Rattle.vx_symbol.specs.declared.rows.StrikeRow.{StrikeRow}
use Rattle.vx_feed.specs.declared.events.Event.{Event}
use Rattle.vx_feed.specs.Listed.{series_at}
use Rattle.vx_feed.specs.Opening.{opening_expiries, opening_line, opening_time, traded_price}
use Rattle.vx_book.specs.declared.opening.Opened.{Opened}
use Rattle.vx_book.specs.declared.opening.OpeningTerm.{OpeningTerm}
use Rattle.vx_book.specs.declared.table.Table.{Table}

-- where and when the opening was taken, and how many expiries were declared before it
abbrev pub opened_at : List Event → Option Opened
opened_at events =
    option_map (λ time. record { line = opening_line events; time = time; expiries = length (opening_expiries events) })
    (opening_time events)

-- a row of the expiry with the prices of opening trades, where its series have any
abbrev pub row_with_trades : (Symbol → Option ℕ) → Expiry → StrikeRow → StrikeRow
row_with_trades trade x row = record {
  strike = row.strike;
  put = traded_price (trade (series_at x Put row.strike)) row.put;
  call = traded_price (trade (series_at x Call row.strike)) row.call;
}

abbrev pub rows_with_trades : (Symbol → Option ℕ) → Expiry → List StrikeRow → List StrikeRow
rows_with_trades trade x rows = map (row_with_trades trade x) rows

-- what is kept for the opening of an expiry is what its table shows, with opening trades first
pub record IsOpeningOf (trade : Symbol → Option ℕ) (x : Expiry) (table : Table) (term : OpeningTerm) : Type 0 where
  pub rate : term.rate ≡ table.rate
  pub rows : term.rows.items ≡ rows_with_trades trade x table.rows.items

-- the rate that is kept for the expiry at this place, in 10^-8 per year; none for one declared after the opening
abbrev pub kept_opening_rate : List OpeningTerm → ℕ → Option ℤ
kept_opening_rate terms i = option_and_then (λ (term : OpeningTerm). term.rate) (slice_get terms i)

-- the rows that are kept for it
abbrev pub kept_opening_rows : List OpeningTerm → ℕ → List StrikeRow
kept_opening_rows terms i = option_map_or (λ (term : OpeningTerm). term.rows.items) (slice_get terms i) []

-- what is kept for the opening is what the tables of the expiries show, with opening trades first
pub record TakesOpening (expiries : List Expiry) (tables : List Table) (trade : Symbol → Option ℕ) (terms : List OpeningTerm) : Type 0 where
  pub no_more : length terms ≤ length expiries
  pub each : (i : ℕ) (x : Expiry) (table : Table) → slice_get expiries i ≡ Some x → slice_get tables i ≡ Some table
      → (kept_opening_rate terms i ≡ table.rate) × (kept_opening_rows terms i ≡ rows_with_trades trade x table.rows.items)
