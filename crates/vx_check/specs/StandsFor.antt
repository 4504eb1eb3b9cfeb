-- The book stands for a list of events. This project's own.
use Rattle.std.specs.Prelude.{◌≡◌, ℕ, Bool, true, false, List, [], ◌∷◌, ◌++◌, length, map, Option, Some, None, MatchOption, is_some, option_map, option_and_then, option_to_list}
use Rattle.std.specs.Option.{option_or}
use Rattle.vx_clock.specs.declared.terms.Expiry.{Expiry}
use Rattle.vx_symbol.specs.declared.symbols.Side.{Side}
use Rattle.vx_symbol.specs.declared.symbols.Side.TheVariants.{Call, Put}
use Rattle.vx_symbol.specs.declared.rows.Price.{Price}
use Rattle.vx_feed.specs.declared.events.Event.{Event}
use Rattle.vx_feed.specs.declared.events.Event.TheVariants as event
use Rattle.vx_feed.specs.Standing.{opening_trade, standing_rate}
use Rattle.vx_feed.specs.Listed.{trade_date, header_day, declared_expiries, declared_expiry, is_listed, series_at, standing_price, listed_rows}
use Rattle.vx_feed.specs.Opening.{opening_time}
use Rattle.vx_check.specs.declared.book.PlainBook.{PlainBook}
use Rattle.vx_check.specs.declared.table.Half.{Half}
use Rattle.vx_check.specs.declared.trades.FirstTrades.{FirstTrades}
use Rattle.vx_check.specs.Rising.{Rises, item_at}
use Rattle.vx_check.specs.Kept.{kept_rate, kept_rows, kept_halves, kept_trades}
use Rattle.vx_check.specs.Trades.{trades_strike, price_of_trade, traded_at}
use Rattle.vx_check.specs.Opening.{IsOpeningOfEvents, ChangesOpening}
use Rattle.vx_check.specs.Tables.{half_strike, expiry_of_table, TakesTables, SameTables}
use Rattle.vx_feed.specs.Order.{tick_minute}

-- the last event
abbrev pub last_event : List Event → Option Event
last_event [] = None
last_event (e ∷ []) = Some e
last_event (e ∷ f ∷ events) = last_event (f ∷ events)

-- a strike's only listed side with its price; none where both are listed, or neither
abbrev pub only_side : ℕ → Bool → Bool → Price → Price → Option Half
only_side strike true false put call = Some (record { strike = strike; side = Put; price = put })
only_side strike false true put call = Some (record { strike = strike; side = Call; price = call })
only_side strike _ _ put call = None

-- the same for what the events list and quote
abbrev pub listed_half : Expiry → List Event → ℕ → Option Half
listed_half x events strike =
    let put = series_at x Put strike in
    let call = series_at x Call strike in
    only_side strike (is_listed put events) (is_listed call events) (standing_price events put) (standing_price events call)

-- the strikes of which one side is listed, in rising order, with that side and its price
pub record AreListedHalves (x : Expiry) (events : List Event) (halves : List Half) : Type 0 where
  pub rises : Rises half_strike halves
  pub each : (strike : ℕ) → item_at half_strike strike halves ≡ listed_half x events strike

-- the strikes of which a series traded since it was listed and before the opening, in rising order, with the price of the first
-- such trade of each side
pub record AreFirstTrades (x : Expiry) (events : List Event) (trades : List FirstTrades) : Type 0 where
  pub rises : Rises trades_strike trades
  pub each : (side : Side) (strike : ℕ)
      → traded_at side strike trades ≡ option_map price_of_trade (opening_trade (series_at x side strike) events)

-- the book keeps all that the events say of its number, the trade date, the expiries, their rates, their listed rows and the
-- first trades of their series, of the opening, and whether the last of them is a tick
pub record PlainStandsFor (book : PlainBook) (events : List Event) : Type 0 where
  pub lines : book.lines ≡ length events
  pub day : book.day ≡ trade_date events
  pub tick : book.tick ≡ option_and_then tick_minute (last_event events)
  pub expiries : book.expiries.items ≡ declared_expiries events
  pub tables : map expiry_of_table book.tables.items ≡ declared_expiries events
  pub rate : (x : Expiry) → kept_rate x book ≡ standing_rate x events
  pub rows : (x : Expiry) → kept_rows x book ≡ listed_rows x events
  pub halves : (x : Expiry) → AreListedHalves x events (kept_halves x book)
  pub trades : (x : Expiry) → AreFirstTrades x events (kept_trades x book)
  pub opening : MatchOption book.opening (opening_time events ≡ None) (IsOpeningOfEvents events)

-- what an event changes of the trade date, the expiries, their tables and the opening; the rest stays
pub record PlainTakes (old : PlainBook) (e : Event) (new : PlainBook) : Type 0 where
  pub lines : new.lines ≡ old.lines
  pub day : new.day ≡ option_or (header_day e) old.day
  pub expiries : new.expiries.items ≡ old.expiries.items ++ option_to_list (declared_expiry e)
  pub tables : TakesTables (is_some old.opening) e old.tables.items new.tables.items
  pub opening : ChangesOpening old e new.opening

-- the book says what it said
pub record IsSameBook (old new : PlainBook) : Type 0 where
  pub lines : new.lines ≡ old.lines
  pub day : new.day ≡ old.day
  pub tick : new.tick ≡ old.tick
  pub expiries : new.expiries.items ≡ old.expiries.items
  pub tables : SameTables old.tables.items new.tables.items
  pub opening : new.opening ≡ old.opening
