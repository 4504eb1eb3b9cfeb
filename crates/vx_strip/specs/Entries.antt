-- What a strip holds, and of which rows it is the strip. The ranges are this project's own.
use Rattle.std.specs.Prelude.{◌≡◌, ℕ, ◌<◌, ◌≤◌, List, map, length, All, AllPairs}
use Rattle.vx_symbol.specs.declared.rows.StrikeRow.{StrikeRow}
use Rattle.vx_symbol.specs.Symbol.{IsStrikeInRange}
pub use Rattle.vx_formula.specs.Level.{strike_at}
use Rattle.vx_formula.specs.Strip.{StripEntry, strip}
use Rattle.vx_strip.specs.declared.limits.TheConstants.{STRIP_ROWS_MIN, STRIP_ROWS_MAX, WIDTH_MAX, Q4_MAX}
use Rattle.vx_strip.specs.declared.strip.StripRow.{StripRow}
use Rattle.vx_strip.specs.declared.strip.Strip.{Strip}

-- the entry that a row writes down
abbrev pub entry_of : StripRow → StripEntry
entry_of row = record { strike = row.strike; d = row.d; q4 = row.q4 }

abbrev pub entries_of : Strip → List StripEntry
entries_of s = map entry_of s.rows

-- the strip holds exactly the entries of these rows at a level
abbrev pub IsStripOf : List StrikeRow → ℕ → Strip → Type 0
IsStripOf rows level s = entries_of s ≡ strip rows level

-- a row's numbers are in their ranges
pub record IsRowInRange (row : StripRow) : Type 0 where
  pub strike : IsStrikeInRange row.strike
  pub d_min : 1 ≤ row.d
  pub d_max : row.d ≤ WIDTH_MAX
  pub q4_max : row.q4 ≤ Q4_MAX

-- there are 1 to 2,000 rows, each in range
pub record IsStripInRange (s : Strip) : Type 0 where
  pub some : 1 ≤ length s.rows
  pub count : length s.rows ≤ STRIP_ROWS_MAX
  pub each : All IsRowInRange s.rows

-- each strike is below all later ones
abbrev pub DoStrikesRise : Strip → Type 0
DoStrikesRise s = AllPairs (λ a b. a.strike < b.strike) s.rows

-- a row below the level, the level's own and one above it
abbrev pub HasBothSides : Strip → Type 0
HasBothSides s = STRIP_ROWS_MIN ≤ length s.rows
