use Rattle.std.proofs.Common.{List}
use Rattle.vx_feed.specs.declared.events.Event.{Event}
use Rattle.vx_feed.specs.Noted as noted
use Rattle.vx_replay.specs.StandsFor.{ReplayStandsFor}
use Rattle.vx_replay.proofs.replay.kept_tests.kept_strips_hold_the_sums_of_the_ticks.Given as goal

-- both stand for the same events
abbrev pub invariant-loop-piece : goal.invariant-loop-piece
invariant-loop-piece g l = (events : List Event) × noted.StandsFor l.seen events × ReplayStandsFor l.replay events
