use Rattle.std.proofs.Common.{ℕ, suc, ◌<◌, ◌≤◌}
use Rattle.vx_formula.specs.Walk.{IsLivePair, is_live_put}
use Rattle.vx_strip.proofs.walk.lowest_reached.Given as goal

abbrev pub invariant-loop-place : goal.invariant-loop-place
invariant-loop-place l = record {
  below : l.place ≤ l.k0;
  goes_on : (p : ℕ) → l.place < p → suc p < l.k0 → IsLivePair is_live_put l.rows p;
}

abbrev pub decreases-loop-place : goal.decreases-loop-place
decreases-loop-place l = l.place
