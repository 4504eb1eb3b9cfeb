-- After one line both stand for the events with its event at their end.
use Rattle.std.proofs.Common.{List, [], ◌∷◌, ◌++◌}
use Rattle.vx_feed.specs.declared.events.Event.{Event}
use Rattle.vx_replay.proofs.tests.take_line.Goals as goal

pub returns : goal.returns
returns c =
    let events : List Event = (c.requires).0 in (
      events ++ c.in_ok-event.event ∷ [],
      c.in_ok-note.ensures.noted events (c.requires).1,
      c.in_ok-answer.ensures.stands events (c.requires).2 (c.in_ok-event.ensures.lawful events (c.requires).1),
    )
