-- The ranges of variances and of squares of the index, in units of 2^-P. This project's own.
use Rattle.std.specs.Prelude.{ℕ, ◌+◌, ◌*◌, ◌-◌, ◌≤◌, ℤ, pos, neg_ℤ, nat_abs, ◌-ℤ◌, ◌*ℤ◌, ◌≤ℤ◌, IfSome}
use Rattle.vx_clock.specs.declared.limits.TheConstants.{MINUTES_MIN, MINUTES_MAX, FIGURE_DAYS_MIN, FIGURE_DAYS_MAX}
use Rattle.vx_symbol.specs.Rows.{AreLawfulRows, IsRateInRange}
use Rattle.vx_interval.specs.Ends.{Ends, unit, width}
use Rattle.vx_formula.specs.declared.limits.TheConstants.{VARIANCE_MAX, SQUARE_MAX}
use Rattle.vx_formula.specs.Term.{TermFacts}
use Rattle.vx_term.specs.declared.limits.TheConstants.{VARIANCE_WIDTH_MAX, SQUARE_WIDTH_MAX}

-- both ends are within so many units in absolute value
pub record AreEndsWithin (limit : ℤ) (x : Ends) : Type 0 where
  pub low : neg_ℤ limit ≤ℤ x.lo
  pub high : x.hi ≤ℤ limit

-- a variance times its term's time is within 6
abbrev pub IsVarianceInRange : ℕ → Ends → Type 0
IsVarianceInRange P w = AreEndsWithin (pos VARIANCE_MAX *ℤ unit P) w

-- and at most 37,000 units wide
abbrev pub IsVarianceNarrow : Ends → Type 0
IsVarianceNarrow w = width w ≤ℤ pos VARIANCE_WIDTH_MAX

-- the square of the index over 100 is within 1024
abbrev pub IsSquareInRange : ℕ → Ends → Type 0
IsSquareInRange P x = AreEndsWithin (pos SQUARE_MAX *ℤ unit P) x

-- and at most 5,788,000 units wide
abbrev pub IsSquareNarrow : Ends → Type 0
IsSquareNarrow x = width x ≤ℤ pos SQUARE_WIDTH_MAX

-- minutes to a settlement, from 1 to 262,800
abbrev pub AreMinutesInRange : ℕ → Type 0
AreMinutesInRange minutes = (MINUTES_MIN ≤ minutes) × (minutes ≤ MINUTES_MAX)

-- what is known of a term: lawful rows, a rate in range where one stands, and minutes in range
pub record AreFactsLawful (facts : TermFacts) : Type 0 where
  pub rows : AreLawfulRows facts.rows
  pub rate : IfSome facts.rate IsRateInRange
  pub minutes : AreMinutesInRange facts.minutes

-- the days ahead of a figure, from 7 to 120
abbrev pub AreDaysInRange : ℕ → Type 0
AreDaysInRange days = (FIGURE_DAYS_MIN ≤ days) × (days ≤ FIGURE_DAYS_MAX)

-- the weights that take two terms to a time ahead, in absolute value, are together at most three times the terms' distance
abbrev pub AreWeightsInRange : ℕ → ℕ → ℕ → Type 0
AreWeightsInRange target n1 n2 = nat_abs (pos n2 -ℤ pos target) + nat_abs (pos target -ℤ pos n1) ≤ 3 * (n2 - n1)
