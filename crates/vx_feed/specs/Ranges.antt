-- The ranges of what an event may say (this project's own).
use Rattle.std.specs.Prelude.{ℕ, ◌≤◌}
use Rattle.vx_clock.specs.Day.{IsDayInRange}
use Rattle.vx_clock.specs.declared.limits.TheConstants.{MINUTE_MAX}
use Rattle.vx_symbol.specs.Rows.{IsRateInRange}
use Rattle.vx_symbol.specs.declared.limits.TheConstants.{PRICE_MAX}
use Rattle.vx_symbol.specs.Symbol.{IsSymbolInRange}
use Rattle.vx_feed.specs.declared.events.Event.{Event}
use Rattle.vx_feed.specs.declared.events.Event.TheVariants as event
use Rattle.vx_feed.specs.declared.limits.TheConstants.{LINES_MAX}

-- a minute of a day
abbrev pub IsMinute : ℕ → Type 0
IsMinute time = time ≤ MINUTE_MAX

-- a bid or an ask of at most 50,000 points, in cents
abbrev pub IsPrice : ℕ → Type 0
IsPrice price = price ≤ PRICE_MAX

-- each value of the event is in its range; a trade is at a cent at least
abbrev pub IsEventInRange : Event → Type 0
IsEventInRange (event.Header day) = IsDayInRange day
IsEventInRange (event.Expiry x) = IsDayInRange x.date
IsEventInRange (event.Rate x rate) = IsDayInRange x.date × IsRateInRange rate
IsEventInRange (event.Series s) = IsSymbolInRange s
IsEventInRange (event.Quote time s bid ask) = IsMinute time × IsSymbolInRange s × IsPrice bid × IsPrice ask
IsEventInRange (event.Trade time s price) = IsMinute time × IsSymbolInRange s × (1 ≤ price) × IsPrice price
IsEventInRange (event.Tick time) = IsMinute time
IsEventInRange (event.Opening time) = IsMinute time
IsEventInRange (event.End count) = count ≤ LINES_MAX
