use Rattle.std.proofs.Common.{◌≡◌, ℕ, ◌-◌, ◌<◌, ◌≤◌, length, slice_get, Some}
use Rattle.vx_strip.specs.declared.strip.StripRow.{StripRow}
use Rattle.vx_sum.proofs.matching.first_from.Given as goal

abbrev pub invariant-loop-place : goal.invariant-loop-place
invariant-loop-place l = record {
  from_on : l.fn.from ≤ l.place;
  within : l.place ≤ length l.kept;
  below : (k : ℕ) (row : StripRow) → l.fn.from ≤ k → k < l.place → slice_get l.kept k ≡ Some row → row.strike < l.strike;
}

abbrev pub decreases-loop-place : goal.decreases-loop-place
decreases-loop-place l = length l.kept - l.place
