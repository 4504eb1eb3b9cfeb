-- The quotes of a sample feed (this project's own). Prices are in cents. A quote is drawn in two draws:
-- the first for its bid, the second for its ask.
use Rattle.std.specs.Prelude.{ℕ, zero, suc, ◌+◌, ◌-◌, ◌*◌, ◌/◌, List, [], ◌∷◌, ◌++◌}
use Rattle.vx_clock.specs.declared.terms.Expiry.{Expiry}
use Rattle.vx_symbol.specs.declared.symbols.Side.{Side}
use Rattle.vx_symbol.specs.declared.symbols.Side.TheVariants.{Call, Put}
use Rattle.vx_symbol.specs.declared.symbols.Symbol.{Symbol}
use Rattle.vx_feed.specs.declared.events.Event.{Event}
use Rattle.vx_feed.specs.declared.events.Event.TheVariants as event
use Rattle.vx_make.specs.declared.limits.TheConstants.{STRIKES, STRIKE_FIRST, STRIKE_STEP, CENTRE_MIN, CENTRES, TIME_VALUE_MAX, TIME_VALUE_LOSS, BID_DRAWS, BID_DRAW_MIDDLE, SPREAD_MIN, SPREADS}
use Rattle.vx_make.specs.Drawing.{next_state, state_after, value_below}

-- what stands for the numbers from 0 to below n, one after another
unfoldable pub for_each : {A : Type 0} → ℕ → (ℕ → List A) → List A
for_each zero part = []
for_each (suc n) part = for_each n part ++ part n

-- the i-th strike, from 0, in thousandths of a point
abbrev pub sample_strike_at : ℕ → ℕ
sample_strike_at i = STRIKE_FIRST + STRIKE_STEP * i

-- a series of an expiry by the place of its strike
abbrev pub sample_series_at : Expiry → Side → ℕ → Symbol
sample_series_at x side i = record { root = x.root; date = x.date; side = side; strike = sample_strike_at i }

-- a series' strike in cents
abbrev pub strike_cents : Symbol → ℕ
strike_cents s = s.strike / 10

-- what a series would pay at the centre
abbrev pub intrinsic_value : ℕ → Symbol → ℕ
intrinsic_value centre s = pays s.side
  where
    pays : Side → ℕ
    pays Call = centre - strike_cents s
    pays Put = strike_cents s - centre

-- how far the strike lies from the centre
abbrev pub distance : ℕ → Symbol → ℕ
distance centre s = (centre - strike_cents s) + (strike_cents s - centre)

-- what a series is worth above that: the less, the farther its strike lies from the centre
abbrev pub time_value : ℕ → Symbol → ℕ
time_value centre s = TIME_VALUE_MAX - distance centre s / TIME_VALUE_LOSS

-- the bid that is drawn from a state
unfoldable pub drawn_bid : ℕ → Symbol → ℕ → ℕ
drawn_bid centre s state =
    intrinsic_value centre s + (time_value centre s + value_below BID_DRAWS state - BID_DRAW_MIDDLE)

-- the ask that is drawn from a state above a bid
unfoldable pub drawn_ask : ℕ → ℕ → ℕ
drawn_ask bid state = bid + SPREAD_MIN + value_below SPREADS state

-- the quote of a series at a minute, about a centre, from a state on
unfoldable pub drawn_quote : ℕ → ℕ → Symbol → ℕ → Event
drawn_quote time centre s state =
    let bid = drawn_bid centre s (next_state state) in
    event.Quote time s bid (drawn_ask bid (next_state (next_state state)))

-- the quotes of an expiry's call and put at a strike
abbrev pub strike_quotes : ℕ → ℕ → Expiry → ℕ → ℕ → List Event
strike_quotes time centre x i state =
    drawn_quote time centre (sample_series_at x Call i) state
    ∷ drawn_quote time centre (sample_series_at x Put i) (next_state (next_state state)) ∷ []

-- the quotes of all series of an expiry, strike by strike, with four draws for each strike
abbrev pub expiry_quotes : ℕ → ℕ → Expiry → ℕ → List Event
expiry_quotes time centre x state =
    for_each STRIKES (λ i. strike_quotes time centre x i (state_after (4 * i) state))

-- the centre that is drawn from a state
abbrev pub drawn_centre : ℕ → ℕ
drawn_centre state = CENTRE_MIN + value_below CENTRES state
