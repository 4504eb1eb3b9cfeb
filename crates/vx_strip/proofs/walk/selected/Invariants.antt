use Rattle.std.proofs.Common.{◌≡◌, take}
use Rattle.std.specs.List.{filter}
use Rattle.vx_formula.specs.Selection.{is_selected}
use Rattle.vx_strip.specs.Entries.{strike_at}
use Rattle.vx_strip.proofs.walk.selected.Given as goal

abbrev pub invariant-loop-place : goal.invariant-loop-place
invariant-loop-place l = l.selected.items ≡ filter (is_selected l.rows (strike_at l.rows l.k0)) (take l.place l.rows)
