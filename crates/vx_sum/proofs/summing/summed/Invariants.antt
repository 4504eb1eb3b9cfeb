use Rattle.std.proofs.Common.{◌≡◌, ◌+◌, ◌*◌, ◌^◌, ◌≤◌, take, length, map}
use Rattle.vx_formula.specs.declared.limits.TheConstants.{STRIP_TOTAL_MAX}
use Rattle.vx_formula.specs.Strip.{upper_total}
use Rattle.vx_formula.specs.Touched.{touched_count}
use Rattle.vx_strip.specs.Entries.{entry_of}
use Rattle.vx_sum.specs.Sums.{lower_total, row_ends}
use Rattle.vx_sum.proofs.Matches.{Rises, IsPassed}
use Rattle.vx_sum.proofs.summing.summed.Given as goal

abbrev pub invariant-loop-row : goal.invariant-loop-row
invariant-loop-row g l = record {
  within : l.place ≤ length l.kept;
  lower : l.totals.lower ≡ lower_total l.scale (map entry_of (take l.row-index l.rows));
  upper : l.totals.upper ≡ upper_total l.scale (map entry_of (take l.row-index l.rows));
  lower_small : l.totals.lower ≤ l.row-index * 2 ^ 116;
  upper_small : l.totals.upper ≤ l.row-index * 2 ^ 116;
  ends : l.totals.upper ≤ STRIP_TOTAL_MAX * 2 ^ l.scale → l.totals.rows ≡ map (row_ends l.scale) (map entry_of (take l.row-index l.rows));
  passed : Rises l.rows → IsPassed l.kept l.place l.rows l.row-index;
  counted : Rises l.kept → Rises l.rows → l.steps ≡ l.fn.steps + touched_count (map entry_of l.kept) (map entry_of (take l.row-index l.rows));
  least : l.fn.steps ≤ l.steps;
  most : l.steps ≤ l.fn.steps + l.row-index;
}
