-- What a table keeps of its expiry. This project's own.
use Rattle.std.specs.Prelude.{◌≡◌, ℕ, ◌+◌, ◌<◌, ◌≤◌, ◌==◌, nat_le, List, map, length, Option, Some, option_map, option_and_then, slice_get, if◌then◌else◌}
use Rattle.std.specs.List.{All, insert}
use Rattle.vx_symbol.specs.declared.symbols.Side.{Side}
use Rattle.vx_symbol.specs.declared.symbols.Side.TheVariants.{Call, Put}
use Rattle.vx_symbol.specs.declared.rows.Price.{Price}
use Rattle.vx_symbol.specs.declared.rows.StrikeRow.{StrikeRow}
use Rattle.vx_feed.specs.NextRows.{insert_row}
use Rattle.vx_book.specs.declared.table.Table.{Table}

-- a row with this price on one side
abbrev pub row_with : Side → Price → StrikeRow → StrikeRow
row_with Put price row = record { strike = row.strike; put = price; call = row.call }
row_with Call price row = record { strike = row.strike; put = row.put; call = price }

-- the rows with this price on one side of the row of a strike
abbrev pub rows_with : ℕ → Side → Price → List StrikeRow → List StrikeRow
rows_with k side price rows = map (λ (row : StrikeRow). if row.strike == k then row_with side price row else row) rows

-- the row of a strike goes to this place among the rows
abbrev pub IsPlaceFor : ℕ → List StrikeRow → ℕ → Type 0
IsPlaceFor k rows place = (place ≤ length rows) × ((row : StrikeRow) → row.strike ≡ k → insert rows place row ≡ insert_row row rows)

-- a place after one more row stands at another
abbrev pub moved_up : ℕ → ℕ → ℕ
moved_up from place = if nat_le from place then place + 1 else place

-- each place is that of a row
abbrev pub ArePlaces : List StrikeRow → List ℕ → Type 0
ArePlaces rows places = All (λ place. place < length rows) places

-- the strike of the row of a number, which stands at the place of that number
abbrev pub strike_placed : List StrikeRow → List ℕ → ℕ → Option ℕ
strike_placed rows places n = option_and_then (λ place. option_map (λ (row : StrikeRow). row.strike) (slice_get rows place)) (slice_get places n)

abbrev pub strike_of_row : Table → ℕ → Option ℕ
strike_of_row table n = strike_placed table.rows.items table.places.items n

-- a row more under this number; every other row keeps its number
pub record AddsRow (row : StrikeRow) (old new : Table) (number : ℕ) : Type 0 where
  pub rate : new.rate ≡ old.rate
  pub rows : new.rows.items ≡ insert_row row old.rows.items
  pub placed : ArePlaces new.rows.items new.places.items
  pub its_strike : strike_of_row new number ≡ Some row.strike
  pub others : (n k : ℕ) → strike_of_row old n ≡ Some k → strike_of_row new n ≡ Some k

-- another price on one side of the row of this number
pub record SetsPrice (number : ℕ) (side : Side) (price : Price) (old new : Table) : Type 0 where
  pub rate : new.rate ≡ old.rate
  pub places : new.places.items ≡ old.places.items
  pub rows : (k : ℕ) → strike_of_row old number ≡ Some k → new.rows.items ≡ rows_with k side price old.rows.items

-- the table says what it said
pub record IsSameTable (old new : Table) : Type 0 where
  pub rate : new.rate ≡ old.rate
  pub rows : new.rows.items ≡ old.rows.items
  pub places : new.places.items ≡ old.places.items
