-- The strip: the selected strikes with their widths and prices, and its sum. After the Cboe VIX white paper.
-- This project's own: the neighbours of a strike are taken among the selected strikes.
use Rattle.std.specs.Prelude.{ℕ, ◌+◌, ◌-◌, ◌*◌, ◌/◌, ◌^◌, pos, nat_lt, if◌then◌else◌, List, [], ◌∷◌, Option, Some, None, sum_by}
use Rattle.vx_num.specs.Fraction.{Fraction, whole, ◌+ᶠ◌}
use Rattle.vx_symbol.specs.declared.rows.StrikeRow.{StrikeRow}
use Rattle.vx_formula.specs.Selection.{selected_rows}

-- a selected strike and its doubled width, in thousandths of a point, and its price, in quarter cents
pub record StripEntry : Type 0 where
  pub strike : ℕ
  pub d : ℕ
  pub q4 : ℕ

-- twice the width of a strike, by the selected strikes next to it: the distance of its two neighbours, and at an end of the
-- strip twice the distance to the one neighbour
abbrev pub doubled_width : Option ℕ → ℕ → Option ℕ → ℕ
doubled_width None strike None = 0
doubled_width None strike (Some above) = 2 * (above - strike)
doubled_width (Some below) strike None = 2 * (strike - below)
doubled_width (Some below) strike (Some above) = above - below

-- the price of a row: the midpoint of its put below the level and of its call above it, and at the level the average of both;
-- a midpoint is half a `half`, so in quarter cents it is twice that
abbrev pub strip_price : ℕ → StrikeRow → ℕ
strip_price level row =
    if nat_lt row.strike level then 2 * row.put.half
    else (if nat_lt level row.strike then 2 * row.call.half else row.put.half + row.call.half)

abbrev pub first_strike : List StrikeRow → Option ℕ
first_strike [] = None
first_strike (row ∷ rest) = Some row.strike

-- the entries of selected rows in rising order, of which the first comes after the strike `below`
abbrev pub entries_after : ℕ → Option ℕ → List StrikeRow → List StripEntry
entries_after level below [] = []
entries_after level below (row ∷ rest) =
    record { strike = row.strike; d = doubled_width below row.strike (first_strike rest); q4 = strip_price level row } ∷ entries_after level (Some row.strike) rest

-- the strip of these rows at a level
abbrev pub strip : List StrikeRow → ℕ → List StripEntry
strip rows level = entries_after level None (selected_rows rows level)

-- what an entry adds: its width times its price over the square of its strike, in points
abbrev pub contribution : StripEntry → Fraction
contribution entry = record { top = pos (5 * (entry.d * entry.q4)); bottom = 4 * (entry.strike * entry.strike) }

abbrev pub total_of : List StripEntry → Fraction
total_of [] = whole (pos 0)
total_of (entry ∷ rest) = contribution entry +ᶠ total_of rest

abbrev pub strip_total : List StrikeRow → ℕ → Fraction
strip_total rows level = total_of (strip rows level)

-- an entry's contribution times 2^P, rounded up
abbrev pub upper_end : ℕ → StripEntry → ℕ
upper_end P entry = (5 * (entry.d * entry.q4) * 2 ^ P + (4 * (entry.strike * entry.strike) - 1)) / (4 * (entry.strike * entry.strike))

abbrev pub upper_total : ℕ → List StripEntry → ℕ
upper_total P entries = sum_by (upper_end P) entries
