-- The order and the replay stand for the same events.
use Rattle.std.proofs.Common.{List}
use Rattle.vx_feed.specs.declared.events.Event.{Event}
use Rattle.vx_feed.specs.Noted as noted
use Rattle.vx_replay.specs.StandsFor.{ReplayStandsFor}
use Rattle.vx_replay.proofs.tests.take_piece.Given as goal

-- both stand for the same events
abbrev pub invariant-loop-line : goal.invariant-loop-line
invariant-loop-line l = (events : List Event) × noted.StandsFor l.seen events × ReplayStandsFor l.replay events
