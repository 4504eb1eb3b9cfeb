use Rattle.std.proofs.Common.{refl, false}
use Rattle.vx_reading.proofs.FeedLemmas.{starts}
use Rattle.vx_reading.proofs.feed.FeedReader.new.Goals as goal

pub returns : goal.returns
returns g c = λ told.
    starts g.T.TakesEvents.StandsFor (record { ahead = c.in_ok-new.field-0; order = c.in_ok-new-2.field-0; known = c.new-3.result; taker = c.args.taker; count = 0; has_end = false }) told
    c.in_ok-new.ensures c.in_ok-new-2.ensures c.requires refl refl
