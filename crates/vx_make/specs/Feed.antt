-- Sample feeds (this project's own): the terms and series of a day, and then tick after tick the quotes
-- of all series, which are drawn anew at each tick.
use Rattle.std.specs.Prelude.{ℕ, ◌+◌, ◌*◌, List, [], ◌∷◌, ◌++◌, length}
use Rattle.vx_clock.specs.declared.terms.Root.TheVariants.{Spx, Spxw}
use Rattle.vx_clock.specs.declared.terms.Expiry.{Expiry}
use Rattle.vx_symbol.specs.declared.symbols.Side.TheVariants.{Call, Put}
use Rattle.vx_feed.specs.declared.events.Event.{Event}
use Rattle.vx_feed.specs.declared.events.Event.TheVariants as event
use Rattle.vx_feed.specs.Written.{text_of_events}
use Rattle.vx_make.specs.declared.limits.TheConstants.{FIRST_MINUTE, TRADE_DAY, STANDARD_DAY, WEEKLY_DAY, STANDARD_RATE, WEEKLY_RATE, STRIKES}
use Rattle.vx_make.specs.Drawing.{next_state, state_after}
use Rattle.vx_make.specs.Quotes.{for_each, sample_series_at, expiry_quotes, drawn_centre}

-- the two terms
abbrev pub standard_term : Expiry
standard_term = record { root = Spx; date = record { 0 = STANDARD_DAY } }

abbrev pub weekly_term : Expiry
weekly_term = record { root = Spxw; date = record { 0 = WEEKLY_DAY } }

abbrev pub header : Event
header = event.Header (record { 0 = TRADE_DAY })

-- the terms and their rates
abbrev pub declared_terms : List Event
declared_terms =
    event.Expiry standard_term ∷ event.Expiry weekly_term ∷ event.Rate standard_term STANDARD_RATE
    ∷ event.Rate weekly_term WEEKLY_RATE ∷ []

-- the call and the put of a term at a strike
abbrev pub strike_series : Expiry → ℕ → List Event
strike_series x i = event.Series (sample_series_at x Call i) ∷ event.Series (sample_series_at x Put i) ∷ []

-- the series of a term, strike by strike
abbrev pub listed_series : Expiry → List Event
listed_series x = for_each STRIKES (strike_series x)

-- what stands before the first tick
abbrev pub head_events : List Event
head_events = header ∷ (declared_terms ++ listed_series standard_term ++ listed_series weekly_term)

-- how many draws a tick takes: one for the centre and two for each series
abbrev pub tick_draws : ℕ
tick_draws = 1 + 2 * (4 * STRIKES)

-- the quotes of a tick and the tick, at a minute and from a state on
unfoldable pub tick_events : ℕ → ℕ → List Event
tick_events time state =
    let first = next_state state in
    let centre = drawn_centre first in
    expiry_quotes time centre standard_term first
    ++ expiry_quotes time centre weekly_term (state_after (4 * STRIKES) first)
    ++ event.Tick time ∷ []

-- the quotes of a tick by its place, from 0, and the tick, a minute apart; the number is the state before the first
abbrev pub tick_events_at : ℕ → ℕ → List Event
tick_events_at number t = tick_events (FIRST_MINUTE + t) (state_after (tick_draws * t) number)

-- the first so many ticks with their quotes
abbrev pub ticks_events : ℕ → ℕ → List Event
ticks_events number ticks = for_each ticks (λ t. tick_events_at number t)

-- what stands between the header and the end
abbrev pub body_events : ℕ → ℕ → List Event
body_events number ticks =
    declared_terms ++ listed_series standard_term ++ listed_series weekly_term ++ ticks_events number ticks

-- the last line, which counts what stands between it and the header
abbrev pub closing_event : ℕ → ℕ → Event
closing_event number ticks = event.End (length (body_events number ticks))

-- the events of the sample feed with a number and so many ticks
abbrev pub make_events : ℕ → ℕ → List Event
make_events number ticks =
    header ∷ (body_events number ticks ++ closing_event number ticks ∷ [])

-- its text
abbrev pub make_text : ℕ → ℕ → List ℕ
make_text number ticks = text_of_events (make_events number ticks)
