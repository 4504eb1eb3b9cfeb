use Rattle.std.proofs.Common.{ℕ, suc, ◌-◌, ◌<◌, ◌≤◌, length}
use Rattle.vx_formula.specs.Walk.{IsLivePair, is_live_call}
use Rattle.vx_strip.proofs.walk.highest_reached.Given as goal

abbrev pub invariant-loop-place : goal.invariant-loop-place
invariant-loop-place l = record {
  above : l.k0 ≤ l.place;
  within : l.place < length l.rows;
  goes_on : (p : ℕ) → l.k0 < p → suc p < l.place → IsLivePair is_live_call l.rows p;
}

abbrev pub decreases-loop-place : goal.decreases-loop-place
decreases-loop-place l = length l.rows - l.place
