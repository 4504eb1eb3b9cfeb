use Rattle.vx_clock.specs.Terms.{IsInNextWindow, IsTakenBeforeAsNext}
use Rattle.vx_clock.proofs.Best.{IsBestSoFar}
use Rattle.vx_clock.proofs.TermOrder.{some_expiry}
use Rattle.vx_clock.proofs.picking.next_place.Given as goal

abbrev pub invariant-loop-place : goal.invariant-loop-place
invariant-loop-place l =
    IsBestSoFar (IsInNextWindow l.fn.today l.days l.window) IsTakenBeforeAsNext some_expiry l.expiries l.place l.best
