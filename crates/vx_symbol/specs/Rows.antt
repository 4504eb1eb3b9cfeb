-- Prices, and the rows of a term.
use Rattle.std.specs.Prelude.{◌≡◌, ◌<◌, ◌≤◌, ℤ, ◌≤ℤ◌, false, List, length, All, AllPairs, IfSome}
use Rattle.vx_clock.specs.declared.limits.TheConstants.{RATE_MIN, RATE_MAX}
use Rattle.vx_symbol.specs.declared.limits.TheConstants.{STRIKE_MIN, STRIKE_MAX, HALF_MAX, ROWS_MAX}
use Rattle.vx_symbol.specs.declared.rows.Price.{Price}
use Rattle.vx_symbol.specs.declared.rows.StrikeRow.{StrikeRow}
use Rattle.vx_symbol.specs.declared.rows.TermView.{TermView}

-- the half price is in range, and a price that is not there is not live and is 0
pub record IsLawfulPrice (price : Price) : Type 0 where
  pub in_range : price.half ≤ HALF_MAX
  pub absent : price.there ≡ false → (price.live ≡ false) × (price.half ≡ 0)

-- the strike is in range, and both prices are lawful
pub record IsLawfulRow (row : StrikeRow) : Type 0 where
  pub strike_min : STRIKE_MIN ≤ row.strike
  pub strike_max : row.strike ≤ STRIKE_MAX
  pub put : IsLawfulPrice row.put
  pub call : IsLawfulPrice row.call

-- each strike is below all later ones
abbrev pub StrikesRise : List StrikeRow → Type 0
StrikesRise rows = AllPairs (λ a b. a.strike < b.strike) rows

-- at most 2,000 lawful rows, their strikes strictly rising
pub record AreLawfulRows (rows : List StrikeRow) : Type 0 where
  pub count : length rows ≤ ROWS_MAX
  pub each : All IsLawfulRow rows
  pub rising : StrikesRise rows

-- the rate is in range
abbrev pub IsRateInRange : ℤ → Type 0
IsRateInRange rate = (RATE_MIN ≤ℤ rate) × (rate ≤ℤ RATE_MAX)

-- the view is lawful: its rows are, and a rate that is there is in range
pub record IsLawfulTerm (term : TermView) : Type 0 where
  pub rate : IfSome term.rate IsRateInRange
  pub rows : AreLawfulRows term.rows.now
