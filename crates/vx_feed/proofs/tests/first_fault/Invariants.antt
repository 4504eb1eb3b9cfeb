use Rattle.vx_feed.specs.Noted.{StandsForSome}
use Rattle.vx_feed.proofs.tests.first_fault.Given as goal

abbrev pub invariant-loop-line : goal.invariant-loop-line
invariant-loop-line l = StandsForSome l.seen
