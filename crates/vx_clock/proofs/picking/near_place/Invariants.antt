use Rattle.vx_clock.specs.Terms.{IsInNearWindow, IsTakenBeforeAsNear}
use Rattle.vx_clock.proofs.Best.{IsBestSoFar}
use Rattle.vx_clock.proofs.TermOrder.{some_expiry}
use Rattle.vx_clock.proofs.picking.near_place.Given as goal

abbrev pub invariant-loop-place : goal.invariant-loop-place
invariant-loop-place l =
    IsBestSoFar (IsInNearWindow l.fn.today l.days l.window) IsTakenBeforeAsNear some_expiry l.expiries l.place l.best
