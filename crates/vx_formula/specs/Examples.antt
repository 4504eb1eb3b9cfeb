-- Worked examples of the definitions, over small terms.
use Rattle.std.specs.Prelude.{◌≡◌, ℕ, ◌*◌, ◌^◌, true, false, pos, negsuc, List, [], ◌∷◌}
use Rattle.vx_num.specs.Fraction.{Fraction, whole, ◌≃ᶠ◌}
use Rattle.vx_symbol.specs.declared.rows.Price.{Price}
use Rattle.vx_symbol.specs.declared.rows.StrikeRow.{StrikeRow}
use Rattle.vx_formula.specs.Pair.{Pair, IsClosestPair}
use Rattle.vx_formula.specs.Term.{Term}
use Rattle.vx_formula.specs.Forward.{forward_at}
use Rattle.vx_formula.specs.Level.{IsGreatestBelow}
use Rattle.vx_formula.specs.Strip.{StripEntry, strip, upper_total}
use Rattle.vx_formula.specs.Variance.{variance_at}
use Rattle.vx_formula.specs.Index.{single_square}
use Rattle.vx_formula.specs.Rounds.{RoundsAt}
use Rattle.vx_formula.specs.Between.{BetweenAt}
use Rattle.vx_formula.specs.Refusal.{HasNoneAbove, HasNoPut}
use Rattle.vx_formula.specs.Undecided.{Straddles, StrikeStraddles}
use Rattle.vx_formula.specs.Touched.{touched_count}
use Rattle.vx_formula.specs.Settlement.{IsSettlementAmount}

-- a price whose bid and ask are so many cents, one whose bid is 0, and none
abbrev pub at_cents : ℕ → Price
at_cents cents = record { there = true; live = true; half = 2 * cents }

abbrev pub zero_bid : ℕ → Price
zero_bid ask = record { there = true; live = false; half = ask }

abbrev pub no_price : Price
no_price = record { there = false; live = false; half = 0 }

abbrev pub row_at : ℕ → Price → Price → StrikeRow
row_at strike put call = record { strike = strike; put = put; call = call }

abbrev pub entry_at : ℕ → ℕ → ℕ → StripEntry
entry_at strike d q4 = record { strike = strike; d = d; q4 = q4 }

-- the exponential at rate zero
abbrev pub at_rate_zero : Fraction
at_rate_zero = whole (pos 1)

-- ---- zero bids: strikes 1940 to 2010 with the level 2000, where the put of 1950 has this price

abbrev pub rows_with_zero_bids : Price → List StrikeRow
rows_with_zero_bids put =
    row_at 1940000 (at_cents 30) no_price ∷ (row_at 1950000 put no_price ∷ (row_at 1960000 (zero_bid 5) no_price
    ∷ (row_at 1970000 (at_cents 50) no_price ∷ (row_at 1980000 (zero_bid 5) no_price ∷ (row_at 1990000 (at_cents 100) no_price
    ∷ (row_at 2000000 (at_cents 100) (at_cents 100) ∷ (row_at 2010000 no_price (at_cents 100) ∷ [])))))))

-- one zero bid is left out, and nothing beyond two in a row is taken
abbrev pub StopsAtTwoZeroBids : Type 0
StopsAtTwoZeroBids =
    strip (rows_with_zero_bids (zero_bid 5)) 2000000
    ≡ entry_at 1970000 40000 200 ∷ (entry_at 1990000 30000 400 ∷ (entry_at 2000000 20000 400 ∷ (entry_at 2010000 20000 400 ∷ [])))

abbrev pub PassesSingleZeroBids : Type 0
PassesSingleZeroBids =
    strip (rows_with_zero_bids (at_cents 40)) 2000000
    ≡ entry_at 1940000 20000 120 ∷ (entry_at 1950000 30000 160 ∷ (entry_at 1970000 40000 200
    ∷ (entry_at 1990000 30000 400 ∷ (entry_at 2000000 20000 400 ∷ (entry_at 2010000 20000 400 ∷ [])))))

-- ---- a tie: strikes 1950 and 1960, whose prices lie 5 points apart, one way and the other

abbrev pub tied_rows : List StrikeRow
tied_rows = row_at 1950000 (at_cents 2500) (at_cents 3000) ∷ (row_at 1960000 (at_cents 3000) (at_cents 2500) ∷ [])

abbrev pub tied_pair : Pair
tied_pair = record { strike = 1950000; d = pos 1000 }

-- the lower strike is taken
abbrev pub TieTakesLowestStrike : Type 0
TieTakesLowestStrike = IsClosestPair tied_rows tied_pair

-- at rate zero the forward is 1955.000 and the level 1950
abbrev pub TiedForward : Type 0
TiedForward = forward_at tied_pair at_rate_zero ≃ᶠ whole (pos 1955000)

abbrev pub TiedLevel : Type 0
TiedLevel = IsGreatestBelow tied_rows (forward_at tied_pair at_rate_zero) 1950000

-- and no put is below it
abbrev pub TiedHasNoPut : Type 0
TiedHasNoPut = HasNoPut tied_rows 1950000

-- ---- a next strike of twice the level counts, and one above does not

abbrev pub TwiceTheLevelCounts : Type 0
TwiceTheLevelCounts = HasNoneAbove (row_at 1000000 no_price no_price ∷ (row_at 2000000 no_price no_price ∷ [])) 1000000 → ⊥

abbrev pub MoreDoesNotCount : Type 0
MoreDoesNotCount = HasNoneAbove (row_at 1000000 no_price no_price ∷ (row_at 2000001 no_price no_price ∷ [])) 1000000

-- ---- boundaries, in millionths of a point

-- the half cent 13.685 is a boundary above 13.684990, and not above itself
abbrev pub HalfCentStraddles : Type 0
HalfCentStraddles = Straddles (pos 13684990) (pos 13685010)

abbrev pub HalfCentBelongsAbove : Type 0
HalfCentBelongsAbove = Straddles (pos 13685000) (pos 13685010) → ⊥

-- half a cent is the first boundary above zero, and zero one above the negative numbers
abbrev pub NoneBelowHalfCent : Type 0
NoneBelowHalfCent = Straddles (pos 0) (pos 4999) → ⊥

abbrev pub ZeroStraddles : Type 0
ZeroStraddles = Straddles (negsuc 4) (pos 3)

abbrev pub NoneBelowZero : Type 0
NoneBelowZero = Straddles (negsuc 8) (negsuc 1) → ⊥

-- the exact value 13.685 rounds to 13.69
abbrev pub thirteen : Fraction
thirteen = record { top = pos (13685000 * 13685000); bottom = 10 ^ 16 }

abbrev pub HalfRoundsUp : Type 0
HalfRoundsUp = RoundsAt 1369 thirteen

-- ---- a strike between two forward ends: 1960.000 alone of 1950.000, 1960.000 and 1970.000

abbrev pub StrikeIsBetween : Type 0
StrikeIsBetween = StrikeStraddles (pos 1959999999999999) (pos 1960000000000001) 1960000

abbrev pub OthersAreNot : Type 0
OthersAreNot =
    (StrikeStraddles (pos 1959999999999999) (pos 1960000000000001) 1950000 → ⊥)
    × (StrikeStraddles (pos 1959999999999999) (pos 1960000000000001) 1970000 → ⊥)

-- ---- the greatest sum of a strip: exactly 2 at one row, and the next price is too much

abbrev pub SumOfTwo : Type 0
SumOfTwo = upper_total 60 (entry_at 100000 200000 80000 ∷ []) ≡ 2 * 2 ^ 60

abbrev pub SumAboveTwo : Type 0
SumAboveTwo = upper_total 60 (entry_at 100000 200000 80001 ∷ []) ≡ 2305871832251309124

-- ---- a whole figure: strikes 1900, 2000 and 2100, 43,200 minutes at rate zero

abbrev pub sample_rows : List StrikeRow
sample_rows =
    row_at 1900000 (at_cents 1000) no_price ∷ (row_at 2000000 (at_cents 5000) (at_cents 5000) ∷ (row_at 2100000 no_price (at_cents 1000) ∷ []))

abbrev pub sample_term : Term
sample_term = record { rows = sample_rows; rate = pos 0; minutes = 43200; pair = record { strike = 2000000; d = pos 0 } }

abbrev pub SampleStrip : Type 0
SampleStrip = strip sample_rows 2000000 ≡ entry_at 1900000 200000 4000 ∷ (entry_at 2000000 200000 20000 ∷ (entry_at 2100000 200000 4000 ∷ []))

-- the index is 20.66, and lies from 20.657919 to 20.657920
abbrev pub sample_square : Fraction
sample_square = single_square (variance_at sample_term 2000000 at_rate_zero)

abbrev pub SampleRounds : Type 0
SampleRounds = RoundsAt 2066 sample_square

abbrev pub SampleIsBetween : Type 0
SampleIsBetween = BetweenAt (pos 20657919) (pos 20657920) sample_square

-- ---- a strip of four entries, kept: it has four touched entries at first and none the second time; without its third strike
-- the widths of two neighbours change

abbrev pub first_strip : List StripEntry
first_strip =
    entry_at 1900000 200000 4000 ∷ (entry_at 2000000 200000 20000 ∷ (entry_at 2100000 300000 4000 ∷ (entry_at 2300000 400000 800 ∷ [])))

abbrev pub thinned_strip : List StripEntry
thinned_strip = entry_at 1900000 200000 4000 ∷ (entry_at 2000000 400000 20000 ∷ (entry_at 2300000 600000 800 ∷ []))

abbrev pub AllAreTouched : Type 0
AllAreTouched = touched_count [] first_strip ≡ 4

abbrev pub NoneIsTouched : Type 0
NoneIsTouched = touched_count first_strip first_strip ≡ 0

abbrev pub NeighboursAreTouched : Type 0
NeighboursAreTouched = touched_count first_strip thinned_strip ≡ 2

-- ---- the figure 20.66 settles five contracts at 20.0000 to 3300.00 dollars, five sold to the opposite, and three minis sold
-- at 21.0000 to 102.00

abbrev pub BoughtGain : Type 0
BoughtGain = IsSettlementAmount 2066 (record { multiplier = 1000; quantity = pos 5; last = 200000 }) (pos 330000)

abbrev pub SoldLose : Type 0
SoldLose = IsSettlementAmount 2066 (record { multiplier = 1000; quantity = negsuc 4; last = 200000 }) (negsuc 329999)

abbrev pub SoldMinisGain : Type 0
SoldMinisGain = IsSettlementAmount 2066 (record { multiplier = 100; quantity = negsuc 2; last = 210000 }) (pos 10200)
