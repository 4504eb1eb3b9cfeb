-- The order and the replay stand for the same events.
use Rattle.std.proofs.Common.{List}
use Rattle.vx_feed.specs.declared.events.Event.{Event}
use Rattle.vx_feed.specs.Noted as noted
use Rattle.vx_replay.specs.StandsFor.{ReplayStandsFor}
use Rattle.vx_replay.proofs.tests.answer_of.Given as goal

-- both stand for the same events
abbrev pub invariant-loop-piece : goal.invariant-loop-piece
invariant-loop-piece l = (events : List Event) × noted.StandsFor l.seen events × ReplayStandsFor l.replay events
