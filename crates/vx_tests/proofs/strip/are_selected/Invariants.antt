use Rattle.std.proofs.Common.{◌↔◌, ◌≤◌, length}
use Rattle.vx_formula.specs.Level.{StrikesRise}
use Rattle.vx_tests.specs.Stated.{AreSameFrom}
use Rattle.vx_tests.proofs.strip.are_selected.Given as goal

abbrev pub invariant-loop-place : goal.invariant-loop-place
invariant-loop-place l = record {
  within : l.next ≤ length l.stated;
  rest : StrikesRise l.rows → AreSameFrom l.rows l.reach.level 0 l.stated 0 ↔ AreSameFrom l.rows l.reach.level l.place l.stated l.next;
}
