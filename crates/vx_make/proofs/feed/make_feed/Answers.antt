use Rattle.std.proofs.Common.{ap, ◌∙◌, ◌++◌}
use Rattle.vx_make.proofs.FeedLemmas.{feed_text}
use Rattle.vx_feed.specs.Written.{text_of_events}
use Rattle.vx_make.specs.Feed.{ticks_events}
use Rattle.vx_make.proofs.feed.make_feed.Goals as goal

pub returns : goal.returns
returns c =
    let ticks = c.put_ticks.ensures ∙ ap (λ t. t ++ text_of_events (ticks_events c.args.number c.args.ticks)) c.in_ok-reserve.ensures.items in
    feed_text _ _ _ _ c.args.number c.args.ticks c.new-out.ensures.items c.in_ok-put_head.ensures ticks c.in_ok-put_end.ensures
