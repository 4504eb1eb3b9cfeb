-- The quote, the rate and the opening trade that stand after a list of events (bid and ask after the
-- Cboe VIX white paper, the rest this project's own).
use Rattle.std.specs.Prelude.{ℕ, Bool, true, false, ◌&&◌, nat_le, List, [], ◌∷◌, Option, Some, None, ℤ, if◌then◌else◌}
use Rattle.std.specs.Option.{option_and_then}
use Rattle.vx_clock.specs.declared.terms.Expiry.{Expiry}
use Rattle.vx_symbol.specs.declared.symbols.Symbol.{Symbol}
use Rattle.vx_feed.specs.declared.events.Event.{Event}
use Rattle.vx_feed.specs.declared.events.Event.TheVariants as event
use Rattle.vx_feed.specs.Same.{is_same_expiry, is_same_series}
use Rattle.vx_feed.specs.Said.{first_said, last_said}

-- a quote, in cents
pub record BidAsk : Type 0 where
  pub bid : ℕ
  pub ask : ℕ

-- the event lists this series
abbrev pub lists_series : Symbol → Event → Bool
lists_series s (event.Series t) = is_same_series s t
lists_series s _ = false

-- the event takes the opening
abbrev pub is_opening : Event → Bool
is_opening (event.Opening time) = true
is_opening _ = false

-- the events after the one that lists the series; none where none does
abbrev pub since_listed : Symbol → List Event → List Event
since_listed s [] = []
since_listed s (e ∷ events) = if lists_series s e then events else since_listed s events

-- the events before the opening; all of them where none takes it
abbrev pub before_opening : List Event → List Event
before_opening [] = []
before_opening (e ∷ events) = if is_opening e then [] else e ∷ before_opening events

-- what a quote line says of the series
abbrev pub quote_of : Symbol → Event → Option BidAsk
quote_of s (event.Quote time t bid ask) =
    if is_same_series s t then Some (record { bid = bid; ask = ask }) else None
quote_of s _ = None

-- what a rate line says of the expiry, in 10^-8 per year
abbrev pub rate_of : Expiry → Event → Option ℤ
rate_of x (event.Rate y rate) = if is_same_expiry x y then Some rate else None
rate_of x _ = None

-- what a trade line says of the series, in cents
abbrev pub trade_of : Symbol → Event → Option ℕ
trade_of s (event.Trade time t price) = if is_same_series s t then Some price else None
trade_of s _ = None

-- a quote stands where its ask is at least a cent and its bid is not above its ask
abbrev pub can_stand : BidAsk → Bool
can_stand quote = nat_le 1 quote.ask && nat_le quote.bid quote.ask

-- a quote, where it stands
abbrev pub if_standing : BidAsk → Option BidAsk
if_standing quote = if can_stand quote then Some quote else None

-- the standing quote of a series: that of its last quote line after it was listed, if that stands
abbrev pub standing_quote : Symbol → List Event → Option BidAsk
standing_quote s events = option_and_then if_standing (last_said (quote_of s) (since_listed s events))

-- the standing rate of an expiry: that of its last rate line
abbrev pub standing_rate : Expiry → List Event → Option ℤ
standing_rate x events = last_said (rate_of x) events

-- the opening trade of a series: its first trade after it was listed and before the opening
abbrev pub opening_trade : Symbol → List Event → Option ℕ
opening_trade s events = first_said (trade_of s) (since_listed s (before_opening events))
