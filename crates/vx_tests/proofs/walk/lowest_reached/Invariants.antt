use Rattle.std.proofs.Common.{ℕ, suc, ◌<◌, ◌≤◌}
use Rattle.vx_formula.specs.Walk.{IsLivePair, is_live_put}
use Rattle.vx_tests.proofs.walk.lowest_reached.Given as goal

abbrev pub invariant-loop-low : goal.invariant-loop-low
invariant-loop-low l = record {
  below : l.low ≤ l.level;
  goes_on : (p : ℕ) → l.low < p → suc p < l.level → IsLivePair is_live_put l.rows p;
}

abbrev pub decreases-loop-low : goal.decreases-loop-low
decreases-loop-low l = l.low
