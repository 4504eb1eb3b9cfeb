-- After one line more both stand for the events with its event at their end.
use Rattle.std.proofs.Common.{List, [], ◌∷◌, ◌++◌}
use Rattle.vx_feed.specs.declared.events.Event.{Event}
use Rattle.vx_soq.proofs.tests.take_lines.Goals as goal

pub loop-line-preserved : goal.loop-line-preserved
loop-line-preserved c =
    let events : List Event = (c.loop-line.invariant).0 in (
      events ++ c.in_ok-event.event ∷ [],
      c.in_ok-note.ensures.noted events (c.loop-line.invariant).1,
      c.in_ok-apply.ensures.applied events (c.loop-line.invariant).2,
    )
