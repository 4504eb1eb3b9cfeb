-- What the book keeps of an expiry. This project's own.
use Rattle.std.specs.Prelude.{Bool, ℤ, List, [], Option, option_and_then, find}
use Rattle.std.specs.List.{list_any}
use Rattle.std.specs.Option.{option_map_or}
use Rattle.vx_clock.specs.declared.terms.Expiry.{Expiry}
use Rattle.vx_symbol.specs.declared.rows.StrikeRow.{StrikeRow}
use Rattle.vx_feed.specs.Same.{is_same_expiry}
use Rattle.vx_check.specs.declared.book.PlainBook.{PlainBook}
use Rattle.vx_check.specs.declared.table.Half.{Half}
use Rattle.vx_check.specs.declared.table.Table.{Table}
use Rattle.vx_check.specs.declared.trades.FirstTrades.{FirstTrades}

-- the expiry is among the declared ones
abbrev pub is_kept : Expiry → PlainBook → Bool
is_kept x book = list_any (is_same_expiry x) book.expiries.items

-- the table is that of the expiry
abbrev pub is_table_of : Expiry → Table → Bool
is_table_of x table = is_same_expiry x table.expiry

-- its table
abbrev pub kept_table : Expiry → PlainBook → Option Table
kept_table x book = find (is_table_of x) book.tables.items

-- its rate, in 10^-8 per year
abbrev pub kept_rate : Expiry → PlainBook → Option ℤ
kept_rate x book = option_and_then (λ (table : Table). table.rate) (kept_table x book)

-- its listed strikes with their prices; none where the expiry is not declared
abbrev pub kept_rows : Expiry → PlainBook → List StrikeRow
kept_rows x book = option_map_or (λ (table : Table). table.rows.items) (kept_table x book) []

-- its strikes of which one side is listed
abbrev pub kept_halves : Expiry → PlainBook → List Half
kept_halves x book = option_map_or (λ (table : Table). table.halves.items) (kept_table x book) []

-- the first trades of its series
abbrev pub kept_trades : Expiry → PlainBook → List FirstTrades
kept_trades x book = option_map_or (λ (table : Table). table.trades.items) (kept_table x book) []
