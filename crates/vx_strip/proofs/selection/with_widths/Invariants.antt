use Rattle.std.proofs.Common.{◌≡◌, ◌<◌, ◌++◌, map, drop, None}
use Rattle.std.specs.List.{All}
use Rattle.std.specs.Option.{IfSome}
use Rattle.vx_formula.specs.Strip.{entries_after}
use Rattle.vx_strip.specs.Entries.{entry_of}
use Rattle.vx_strip.proofs.selection.with_widths.Given as goal

abbrev pub invariant-loop-place : goal.invariant-loop-place
invariant-loop-place l = record {
  made : map entry_of l.rows ++ entries_after l.level l.below (drop l.place l.selected) ≡ entries_after l.level None l.selected;
  before : IfSome l.below (λ other. All (λ row. other < row.strike) (drop l.place l.selected));
}
