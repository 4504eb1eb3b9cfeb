-- One term: what the formula reads of it.
use Rattle.std.specs.Prelude.{◌≡◌, ℕ, ◌*◌, ℤ, pos, ◌*ℤ◌, List, Option, Some}
use Rattle.vx_num.specs.Fraction.{Fraction}
use Rattle.vx_bracket.specs.Bracket.{Bracket, IsWithinOne}
use Rattle.vx_symbol.specs.declared.rows.StrikeRow.{StrikeRow}
use Rattle.vx_formula.specs.declared.limits.TheConstants.{YEAR_MINUTES, RATE_UNITS}
use Rattle.vx_formula.specs.Pair.{Pair, IsClosestPair}

-- what is known of a term: its listed rows in rising order of strike, the rate that stands, in 10^-8 per year, and the
-- minutes to its settlement
pub record TermFacts : Type 0 where
  pub rows : List StrikeRow
  pub rate : Option ℤ
  pub minutes : ℕ

-- a term with a rate and a closest pair
pub record Term : Type 0 where
  pub rows : List StrikeRow
  pub rate : ℤ
  pub minutes : ℕ
  pub pair : Pair

-- the term is the one of these facts
pub record IsTermOf (facts : TermFacts) (term : Term) : Type 0 where
  pub rows_are : term.rows ≡ facts.rows
  pub rate_stands : facts.rate ≡ Some term.rate
  pub minutes_are : term.minutes ≡ facts.minutes
  pub pair_is_closest : IsClosestPair term.rows term.pair

-- the exponent R*T: the rate times the time to settlement in years
abbrev pub exponent : ℤ → ℕ → Fraction
exponent rate minutes = record { top = rate *ℤ pos minutes; bottom = YEAR_MINUTES * RATE_UNITS }

-- e is in the term's bracket of depth n: Taylor's sum of n + 1 terms and its remainder leave room for e^(R*T) to be e
abbrev pub InBracket : Term → ℕ → Fraction → Type 0
InBracket term n e = Bracket n (exponent term.rate term.minutes) e

-- the exponent is from -1 to 1, as it is for every rate and every number of minutes in range
abbrev pub HasSmallExponent : Term → Type 0
HasSmallExponent term = IsWithinOne (exponent term.rate term.minutes)
