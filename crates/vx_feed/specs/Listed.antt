-- Expiries that are declared, and the listed strikes of one with their prices (after the Cboe VIX
-- white paper; that both series of a strike must be listed is this project's own).
use Rattle.std.specs.Prelude.{ℕ, ◌+◌, Bool, true, false, ◌&&◌, ◌==◌, nat_le, nat_lt, List, [], ◌∷◌, map, Option, Some, None, if◌then◌else◌}
use Rattle.std.specs.List.{filter, filter_map, list_any}
use Rattle.vx_clock.specs.declared.days.DayNo.{DayNo}
use Rattle.vx_clock.specs.declared.terms.Expiry.{Expiry}
use Rattle.vx_symbol.specs.declared.symbols.Side.{Side}
use Rattle.vx_symbol.specs.declared.symbols.Side.TheVariants.{Call, Put}
use Rattle.vx_symbol.specs.declared.symbols.Symbol.{Symbol}
use Rattle.vx_symbol.specs.declared.rows.Price.{Price}
use Rattle.vx_symbol.specs.declared.rows.StrikeRow.{StrikeRow}
use Rattle.vx_feed.specs.declared.events.Event.{Event}
use Rattle.vx_feed.specs.declared.events.Event.TheVariants as event
use Rattle.vx_feed.specs.Same.{is_same_expiry}
use Rattle.vx_feed.specs.Said.{first_said}
use Rattle.vx_feed.specs.Standing.{BidAsk, if_standing, lists_series, standing_quote}

-- the day that a header names
abbrev pub header_day : Event → Option DayNo
header_day (event.Header day) = Some day
header_day _ = None

-- the trade date: the day of the header
abbrev pub trade_date : List Event → Option DayNo
trade_date events = first_said header_day events

-- the expiry that an event declares
abbrev pub declared_expiry : Event → Option Expiry
declared_expiry (event.Expiry x) = Some x
declared_expiry _ = None

-- the declared expiries, in the order of their lines
abbrev pub declared_expiries : List Event → List Expiry
declared_expiries events = filter_map declared_expiry events

abbrev pub is_declared : Expiry → List Event → Bool
is_declared x events = list_any (is_same_expiry x) (declared_expiries events)

-- the expiry of a series
abbrev pub expiry_of : Symbol → Expiry
expiry_of s = record { root = s.root; date = s.date }

-- the series of an expiry on one side at one strike
abbrev pub series_at : Expiry → Side → ℕ → Symbol
series_at x side strike = record { root = x.root; date = x.date; side = side; strike = strike }

abbrev pub opposite : Side → Side
opposite Call = Put
opposite Put = Call

-- the series of the same strike on the other side
abbrev pub other_side : Symbol → Symbol
other_side s = series_at (expiry_of s) (opposite s.side) s.strike

abbrev pub is_listed : Symbol → List Event → Bool
is_listed s events = list_any (lists_series s) events

-- a strike among rising ones, once
abbrev pub insert_strike : ℕ → List ℕ → List ℕ
insert_strike k [] = k ∷ []
insert_strike k (j ∷ js) =
    if nat_lt k j then k ∷ j ∷ js else (if k == j then j ∷ js else j ∷ insert_strike k js)

-- the strikes with another one, if there is one
abbrev pub with_strike : Option ℕ → List ℕ → List ℕ
with_strike None ks = ks
with_strike (Some k) ks = insert_strike k ks

-- the strike at which an event lists a series of the expiry
abbrev pub listed_strike : Expiry → Event → Option ℕ
listed_strike x (event.Series s) = if is_same_expiry x (expiry_of s) then Some s.strike else None
listed_strike x _ = None

-- the strikes at which a series of the expiry is listed on either side, in rising order, each once
abbrev pub strikes_of : Expiry → List Event → List ℕ
strikes_of x [] = []
strikes_of x (e ∷ events) = with_strike (listed_strike x e) (strikes_of x events)

-- a strike is listed where both its put and its call are
abbrev pub is_strike_listed : Expiry → List Event → ℕ → Bool
is_strike_listed x events k =
    is_listed (series_at x Put k) events && is_listed (series_at x Call k) events

-- the listed strikes of an expiry, in rising order
abbrev pub listed_strikes : Expiry → List Event → List ℕ
listed_strikes x events = filter (is_strike_listed x events) (strikes_of x events)

-- no price
abbrev pub no_price : Price
no_price = record { there = false; live = false; half = 0 }

-- the price that a quote shows: there where one stands, live where its bid is at least a cent
abbrev pub quoted_price : Option BidAsk → Price
quoted_price None = no_price
quoted_price (Some quote) =
    record { there = true; live = nat_le 1 quote.bid; half = quote.bid + quote.ask }

-- the price that a bid and an ask show: none where a quote of them does not stand
abbrev pub price_of : ℕ → ℕ → Price
price_of bid ask = quoted_price (if_standing (record { bid = bid; ask = ask }))

-- the row of a strike, with the price of its put and of its call
abbrev pub row_of : (Symbol → Price) → Expiry → ℕ → StrikeRow
row_of price x k = record { strike = k; put = price (series_at x Put k); call = price (series_at x Call k) }

-- the price of a series by its standing quote
abbrev pub standing_price : List Event → Symbol → Price
standing_price events s = quoted_price (standing_quote s events)

-- the rows of an expiry: its listed strikes in rising order, with the prices of their standing quotes
abbrev pub listed_rows : Expiry → List Event → List StrikeRow
listed_rows x events = map (row_of (standing_price events) x) (listed_strikes x events)
