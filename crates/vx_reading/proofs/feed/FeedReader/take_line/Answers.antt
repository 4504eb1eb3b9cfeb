use Rattle.std.proofs.lemmas.Result.{err_from_is_err_and}
use Rattle.vx_reading.proofs.NextLemmas.{bad_line_read, feed_line_read, taken_knowing, taken_with}
use Rattle.vx_reading.proofs.feed.FeedReader.take_line.Goals as goal

pub returns-in_err-event-clause-takes : goal.returns-in_err-event-clause-takes
returns-in_err-event-clause-takes g c = λ told held whole events at.
    let p = err_from_is_err_and c.from_residual.result c.from_residual.ensures.1 in
    rw (p.1, p.2)
    (bad_line_read g.T.TakesEvents.StandsFor held whole events c.fields.result c.args.self.now (record c.args.self.now { known = c.event_of.new.known }) told c.in_err-event.field-0.0 at c.fields.ensures (c.in_err-event.ensures events at.taken_up.order))

pub returns-clause-takes : goal.returns-clause-takes
returns-clause-takes g c = λ told held whole events at.
    let says = c.in_ok-event.ensures events at.taken_up.order in
    let knowing = record c.args.self.now { known = c.event_of.new.known } in
    let has = taken_knowing g.T.TakesEvents.StandsFor c.args.self.now c.event_of.new.known events at.taken_up in
    feed_line_read g.T.TakesEvents.StandsFor held whole events c.in_ok-event.event c.fields.result c.args.self.now c.push.new.self c.take.new.self told at c.fields.ensures c.take.ensures.taken c.push.ensures.ahead says.0
    (c.in_ok-push.ensures.taken events (taken_with g.T.TakesEvents.StandsFor knowing c.take.new.self events has) says.1)
