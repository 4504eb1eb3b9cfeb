-- The rounded contributions of a strip's entries, in units of 2^-P, and their sums. This project's own; the exact contribution is
-- that of the formula.
use Rattle.std.specs.Prelude.{◌≡◌, ℕ, ◌*◌, ◌/◌, ◌^◌, ◌<◌, ◌≤◌, pos, List, map, sum_by}
use Rattle.vx_interval.specs.Ends.{Ends}
use Rattle.vx_formula.specs.declared.limits.TheConstants.{STRIP_TOTAL_MAX}
use Rattle.vx_formula.specs.Strip.{StripEntry, upper_end, upper_total}
use Rattle.vx_sum.specs.declared.fault.SumRefusal.{SumRefusal}
use Rattle.vx_sum.specs.declared.fault.SumRefusal.TheVariants.{NoMemory, StripTooLarge}
use Rattle.vx_sum.specs.declared.sum.SumRow.{SumRow}
use Rattle.vx_sum.specs.declared.sum.StripSum.{StripSum}

-- an entry's contribution times 2^P, rounded down
abbrev pub lower_end : ℕ → StripEntry → ℕ
lower_end P entry = (5 * (entry.d * entry.q4) * 2 ^ P) / (4 * (entry.strike * entry.strike))

abbrev pub lower_total : ℕ → List StripEntry → ℕ
lower_total P entries = sum_by (lower_end P) entries

-- an entry's contribution rounded down and up
abbrev pub row_ends : ℕ → StripEntry → SumRow
row_ends P entry = record { lo = lower_end P entry; hi = upper_end P entry }

-- the two ends of the entries' sum
abbrev pub total_ends : ℕ → List StripEntry → Ends
total_ends P entries = record { lo = pos (lower_total P entries); hi = pos (upper_total P entries) }

-- the rounded-up contributions add to at most 2, the greatest accepted sum
abbrev pub IsAccepted : ℕ → List StripEntry → Type 0
IsAccepted P entries = upper_total P entries ≤ STRIP_TOTAL_MAX * 2 ^ P

-- the sum holds exactly the ends of these entries and their sums, which are accepted
pub record IsSumOf (P : ℕ) (entries : List StripEntry) (s : StripSum P) : Type 0 where
  pub rows : s.rows ≡ map (row_ends P) entries
  pub total : s.total ≡ total_ends P entries
  pub accepted : IsAccepted P entries

-- `upper` is the sum of the rounded-up contributions, and is too much
pub record IsTooLargeBy (P : ℕ) (entries : List StripEntry) (upper : ℕ) : Type 0 where
  pub upper_is : upper ≡ upper_total P entries
  pub too_large : STRIP_TOTAL_MAX * 2 ^ P < upper

-- why the entries have no sum; want of memory has no cause
abbrev pub IsSumRefusal : ℕ → List StripEntry → SumRefusal → Type 0
IsSumRefusal P entries NoMemory = Unit {0}
IsSumRefusal P entries (StripTooLarge upper) = IsTooLargeBy P entries upper
