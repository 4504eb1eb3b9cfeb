-- The opening: what stood when it was taken (after Cboe's special opening quotation; which quote and
-- which trade of a series count is this project's own).
use Rattle.std.specs.Prelude.{ℕ, ◌+◌, ◌*◌, true, List, map, Option, Some, None, ℤ, length}
use Rattle.vx_clock.specs.declared.terms.Expiry.{Expiry}
use Rattle.vx_symbol.specs.declared.symbols.Symbol.{Symbol}
use Rattle.vx_symbol.specs.declared.rows.Price.{Price}
use Rattle.vx_symbol.specs.declared.rows.StrikeRow.{StrikeRow}
use Rattle.vx_feed.specs.declared.events.Event.{Event}
use Rattle.vx_feed.specs.declared.events.Event.TheVariants as event
use Rattle.vx_feed.specs.Said.{first_said}
use Rattle.vx_feed.specs.Standing.{before_opening, opening_trade, standing_rate}
use Rattle.vx_feed.specs.Listed.{declared_expiries, listed_strikes, row_of, standing_price}

-- the minute at which an event takes the opening
abbrev pub opening_minute : Event → Option ℕ
opening_minute (event.Opening time) = Some time
opening_minute _ = None

-- the minute of the opening, where one was taken
abbrev pub opening_time : List Event → Option ℕ
opening_time events = first_said opening_minute events

-- the line of the opening, where one was taken: the one after those before it
abbrev pub opening_line : List Event → ℕ
opening_line events = length (before_opening events) + 1

-- the price of a series that traded, by its opening trade, and of any other by its opening quote
abbrev pub traded_price : Option ℕ → Price → Price
traded_price None quoted = quoted
traded_price (Some price) quoted = record { there = true; live = true; half = 2 * price }

-- the price of a series at the opening
abbrev pub opening_price : List Event → Symbol → Price
opening_price events s = traded_price (opening_trade s events) (standing_price (before_opening events) s)

-- the rows of an expiry at the opening: the strikes listed before it, with their opening prices
abbrev pub opening_rows : Expiry → List Event → List StrikeRow
opening_rows x events = map (row_of (opening_price events) x) (listed_strikes x (before_opening events))

-- the rate of an expiry at the opening
abbrev pub opening_rate : Expiry → List Event → Option ℤ
opening_rate x events = standing_rate x (before_opening events)

-- the expiries declared before the opening
abbrev pub opening_expiries : List Event → List Expiry
opening_expiries events = declared_expiries (before_opening events)
