use Rattle.vx_reading.proofs.FeedLemmas.{takes_up}
use Rattle.vx_reading.proofs.feed.FeedReader.push.Goals as goal
use Rattle.std.proofs.Common.{refl, ◌+◌}

pub returns-clause-taken : goal.returns-clause-taken
returns-clause-taken g c = λ events has next.
    takes_up g.T.TakesEvents.StandsFor c.args.self.now
    (record { ahead = c.args.self.now.ahead; order = c.note.new.self; known = c.args.self.now.known; taker = c.take.new.self; count = c.args.self.now.count + 1; has_end = c.is_end-self.result })
    events c.args.event has next (c.in_ok-note.ensures.noted events has.order) (c.in_ok-take.ensures.taken events has.taker next) refl c.is_end-self.ensures
