use Rattle.std.proofs.Common.{ℕ, suc, ◌-◌, ◌<◌, ◌≤◌, length}
use Rattle.vx_formula.specs.Walk.{IsLivePair, is_live_call}
use Rattle.vx_tests.proofs.walk.highest_reached.Given as goal

abbrev pub invariant-loop-high : goal.invariant-loop-high
invariant-loop-high l = record {
  above : l.level ≤ l.high;
  within : l.high < length l.rows;
  goes_on : (p : ℕ) → l.level < p → suc p < l.high → IsLivePair is_live_call l.rows p;
}

abbrev pub decreases-loop-high : goal.decreases-loop-high
decreases-loop-high l = length l.rows - l.high
