-- The first trades of an expiry's series, by strike, and what one more trade changes. This project's own.
use Rattle.std.specs.Prelude.{◌≡◌, ℕ, Bool, true, false, Option, Some, None, option_and_then, List, map}
use Rattle.std.specs.Option.{option_or}
use Rattle.vx_symbol.specs.declared.symbols.Side.{Side}
use Rattle.vx_symbol.specs.declared.symbols.Side.TheVariants.{Call, Put}
use Rattle.vx_symbol.specs.declared.rows.Price.{Price}
use Rattle.vx_symbol.specs.declared.rows.StrikeRow.{StrikeRow}
use Rattle.vx_feed.specs.Listed.{no_price}
use Rattle.vx_feed.specs.Opening.{traded_price}
use Rattle.vx_feed.specs.Same.{is_same_side}
use Rattle.vx_check.specs.declared.table.Half.{Half}
use Rattle.vx_check.specs.declared.trades.FirstTrades.{FirstTrades}
use Rattle.vx_check.specs.Rising.{Rises, item_at, IsWith}

-- the strike by which first trades are kept in order
abbrev pub trades_strike : FirstTrades → ℕ
trades_strike trades = trades.strike

-- the price of a trade at so many cents
abbrev pub price_of_trade : ℕ → Price
price_of_trade cents = traded_price (Some cents) no_price

-- a strike with no trade
abbrev pub no_trades : ℕ → FirstTrades
no_trades strike = record { strike = strike; put = None; call = None }

-- the price of the first trade on one side of a strike
abbrev pub traded_on : Side → FirstTrades → Option Price
traded_on Put trades = trades.put
traded_on Call trades = trades.call

-- the price of the first trade of the series of a side and a strike
abbrev pub traded_at : Side → ℕ → List FirstTrades → Option Price
traded_at side strike trades = option_and_then (traded_on side) (item_at trades_strike strike trades)

-- the trades of a strike after one more on this side: the first one stays
abbrev pub with_trade : Side → Price → FirstTrades → FirstTrades
with_trade Put price trades = record { strike = trades.strike; put = option_or trades.put (Some price); call = trades.call }
with_trade Call price trades = record { strike = trades.strike; put = trades.put; call = option_or trades.call (Some price) }

-- the same where the strike may have had none
abbrev pub with_first_trade : Side → ℕ → Price → Option FirstTrades → FirstTrades
with_first_trade side strike price None = with_trade side price (no_trades strike)
with_first_trade side strike price (Some trades) = with_trade side price trades

-- a series is listed where its strike has a row, or has its side alone
abbrev pub is_listed_in : Side → Option StrikeRow → Option Half → Bool
is_listed_in side (Some row) half = true
is_listed_in side None None = false
is_listed_in side None (Some half) = is_same_side half.side side

-- the trades of a strike after a trade of a series that is listed or not
abbrev pub trades_when_traded : Bool → Side → ℕ → Price → Option FirstTrades → Option FirstTrades
trades_when_traded false side strike price trades = trades
trades_when_traded true side strike price trades = Some (with_first_trade side strike price trades)

-- what a trade of a series that is listed or not changes of the trades of its expiry
abbrev pub SetsTrade : Bool → Side → ℕ → Price → List FirstTrades → List FirstTrades → Type 0
SetsTrade listed side strike price old new =
    IsWith trades_strike strike (trades_when_traded listed side strike price (item_at trades_strike strike old)) old new

-- the same of a listed series, where the trades rise in strike
abbrev pub KeepsTrade : Side → ℕ → Price → List FirstTrades → List FirstTrades → Type 0
KeepsTrade side strike price old new = Rises trades_strike old → SetsTrade true side strike price old new

-- ---- the opening

-- the price of a series at the opening: that of its first trade, or else that of its quote
abbrev pub price_at_opening : Option Price → Price → Price
price_at_opening None quoted = quoted
price_at_opening (Some price) quoted = price

-- a row at the opening
abbrev pub row_at_opening : List FirstTrades → StrikeRow → StrikeRow
row_at_opening trades row = record {
  strike = row.strike;
  put = price_at_opening (traded_at Put row.strike trades) row.put;
  call = price_at_opening (traded_at Call row.strike trades) row.call;
}

-- the rows at the opening, where the trades rise in strike
abbrev pub AreRowsAtOpening : List FirstTrades → List StrikeRow → List StrikeRow → Type 0
AreRowsAtOpening trades rows opening = Rises trades_strike trades → opening ≡ map (row_at_opening trades) rows
