-- Which of a strip's rows stand in a strip that was kept, found by one walk over both. This project's own.
use Rattle.std.specs.Prelude.{◌≡◌, ℕ, ◌<◌, ◌≤◌, Bool, false, List, Option, Some, None, slice_get}
use Rattle.vx_formula.specs.Touched.{is_same_entry}
use Rattle.vx_strip.specs.declared.strip.StripRow.{StripRow}
use Rattle.vx_strip.specs.Entries.{entry_of}

-- the row is the one found
abbrev pub is_found : Option StripRow → StripRow → Bool
is_found None row = false
is_found (Some kept) row = is_same_entry (entry_of row) (entry_of kept)

-- the row is the one at a place of the kept rows
abbrev pub is_kept_at : List StripRow → ℕ → StripRow → Bool
is_kept_at kept place row = is_found (slice_get kept place) row

-- the first place from `from` on whose strike is not below this one
pub record IsFirstFrom (kept : List StripRow) (from strike place : ℕ) : Type 0 where
  pub from_on : from ≤ place
  pub below : (k : ℕ) (row : StripRow) → from ≤ k → k < place → slice_get kept k ≡ Some row → row.strike < strike
  pub stops : (row : StripRow) → slice_get kept place ≡ Some row → strike ≤ row.strike
