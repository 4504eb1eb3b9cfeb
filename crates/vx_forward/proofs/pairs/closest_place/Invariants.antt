use Rattle.vx_clock.proofs.Best.{IsBestSoFar}
use Rattle.vx_forward.proofs.PairOrder.{IsBothLive, IsTakenBefore, some_row}
use Rattle.vx_forward.proofs.pairs.closest_place.Given as goal

abbrev pub invariant-loop-place : goal.invariant-loop-place
invariant-loop-place l = IsBestSoFar IsBothLive IsTakenBefore some_row l.rows l.place l.best
