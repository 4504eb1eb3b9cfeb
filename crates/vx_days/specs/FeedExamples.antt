-- Worked days: small feeds of one expiry, and what they show.
use Rattle.std.specs.Prelude.{◌≡◌, ℕ, pos, List, [], ◌∷◌, ◌++◌, Some, None}
use Rattle.vx_num.specs.Fraction.{whole, ◌≃ᶠ◌}
use Rattle.vx_clock.specs.declared.days.DayNo.{DayNo}
use Rattle.vx_clock.specs.declared.terms.Expiry.{Expiry}
use Rattle.vx_clock.specs.declared.terms.Root.TheVariants.{Spx}
use Rattle.vx_symbol.specs.declared.symbols.Side.TheVariants.{Call, Put}
use Rattle.vx_symbol.specs.declared.symbols.Symbol.{Symbol}
use Rattle.vx_feed.specs.declared.events.Event.{Event}
use Rattle.vx_feed.specs.declared.events.Event.TheVariants as event
use Rattle.vx_feed.specs.Standing.{standing_quote}
use Rattle.vx_feed.specs.Listed.{series_at, no_price, listed_rows}
use Rattle.vx_feed.specs.Order.{AreLawful}
use Rattle.vx_formula.specs.Pair.{Pair, live_pairs, IsClosestPair}
use Rattle.vx_formula.specs.Forward.{forward_at}
use Rattle.vx_formula.specs.Level.{IsGreatestBelow}
use Rattle.vx_formula.specs.Refusal.{LacksMoney}
use Rattle.vx_formula.specs.Examples.{at_cents, row_at, at_rate_zero, sample_rows}

-- the trade date 2014-09-17
abbrev pub september_17 : DayNo
september_17 = record { 0 = pos 16330 }

-- the standard expiry 30 days ahead, 2014-10-17
abbrev pub standard : Expiry
standard = record { root = Spx; date = record { 0 = pos 16360 } }

-- its call at a strike
abbrev pub call_at : ℕ → Symbol
call_at strike = series_at standard Call strike

-- its put at a strike
abbrev pub put_at : ℕ → Symbol
put_at strike = series_at standard Put strike

-- 8:30
abbrev pub half_past_eight : ℕ
half_past_eight = 510

-- a quote then, in cents
abbrev pub quote_at : Symbol → ℕ → ℕ → Event
quote_at s bid ask = event.Quote half_past_eight s bid ask

-- the first nine lines of the feed: the expiry with rate 0, and the strikes 1900, 2000 and 2100
abbrev pub listing : List Event
listing =
    event.Header september_17 ∷ event.Expiry standard ∷ event.Rate standard (pos 0)
    ∷ event.Series (call_at 1900000) ∷ event.Series (put_at 1900000)
    ∷ event.Series (call_at 2000000) ∷ event.Series (put_at 2000000)
    ∷ event.Series (call_at 2100000) ∷ event.Series (put_at 2100000) ∷ []

-- four quotes
abbrev pub quotes : List Event
quotes =
    quote_at (put_at 1900000) 1000 1000 ∷ quote_at (call_at 2000000) 5000 5000
    ∷ quote_at (put_at 2000000) 5000 5000 ∷ quote_at (call_at 2100000) 1000 1000 ∷ []

-- the fifteen lines of the feed: those, a tick, and the end
abbrev pub sample_feed : List Event
sample_feed = listing ++ quotes ++ event.Tick half_past_eight ∷ event.End 13 ∷ []

-- each line may come after those before it
abbrev pub SampleIsLawful : Type 0
SampleIsLawful = AreLawful sample_feed

-- and the feed shows the rows of the sample figure, 20.66
abbrev pub SampleShowsRows : Type 0
SampleShowsRows = listed_rows standard sample_feed ≡ sample_rows

-- ---- a crossed quote takes the standing quote away: the call of 2000 at 50.00 on both sides, and then bid 51.00 with ask 50.00

-- the feed up to the quote of the call of 2000
abbrev pub uncrossed : List Event
uncrossed = listing ++ quote_at (call_at 2000000) 5000 5000 ∷ []

-- before, the call's quote stands
abbrev pub UncrossedStands : Type 0
UncrossedStands = standing_quote (call_at 2000000) uncrossed ≡ Some (record { bid = 5000; ask = 5000 })

-- a quote of the call and of the put of 2000, and then a crossed one of the call
abbrev pub crossed_call : List Event
crossed_call =
    quote_at (call_at 2000000) 5000 5000 ∷ quote_at (put_at 2000000) 5000 5000 ∷ quote_at (call_at 2000000) 5100 5000 ∷ []

-- the feed up to the crossed quote
abbrev pub crossed : List Event
crossed = listing ++ crossed_call

-- each line may come after those before it
abbrev pub CrossedIsLawful : Type 0
CrossedIsLawful = AreLawful crossed

-- no quote of the call stands
abbrev pub CrossedStandsNot : Type 0
CrossedStandsNot = standing_quote (call_at 2000000) crossed ≡ None

-- the row of 2000 shows its put alone
abbrev pub CrossedShowsNoCall : Type 0
CrossedShowsNoCall =
    listed_rows standard crossed
    ≡ row_at 1900000 no_price no_price ∷ (row_at 2000000 (at_cents 5000) no_price ∷ (row_at 2100000 no_price no_price ∷ []))

-- no strike has both sides live
abbrev pub CrossedHasNoPair : Type 0
CrossedHasNoPair = live_pairs (listed_rows standard crossed) ≡ []

-- ---- the same after quotes of 1900: its call at 110.00, its put at 10.00

-- the feed with quotes of 1900 before those of 2000
abbrev pub crossed_beside : List Event
crossed_beside = listing ++ quote_at (call_at 1900000) 11000 11000 ∷ quote_at (put_at 1900000) 1000 1000 ∷ crossed_call

-- the pair of 1900, whose call is 100 points above its put
abbrev pub pair_of_1900 : Pair
pair_of_1900 = record { strike = 1900000; d = pos 20000 }

-- that pair is the closest
abbrev pub CrossedPairIsBeside : Type 0
CrossedPairIsBeside = IsClosestPair (listed_rows standard crossed_beside) pair_of_1900

-- at rate zero the forward is 2000.000
abbrev pub CrossedForward : Type 0
CrossedForward = forward_at pair_of_1900 at_rate_zero ≃ᶠ whole (pos 2000000)

-- the level is 2000
abbrev pub CrossedLevel : Type 0
CrossedLevel = IsGreatestBelow (listed_rows standard crossed_beside) (forward_at pair_of_1900 at_rate_zero) 2000000

-- whose row lacks the price of its call
abbrev pub CrossedLacksMoney : Type 0
CrossedLacksMoney = LacksMoney (listed_rows standard crossed_beside) 2000000
