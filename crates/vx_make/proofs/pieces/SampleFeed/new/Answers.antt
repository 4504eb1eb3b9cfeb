use Rattle.std.proofs.Common.{ap, refl, ◌∙◌, ◌++◌}
use Rattle.vx_feed.specs.Written.{text_of_events}
use Rattle.vx_make.specs.Feed.{head_events}
use Rattle.vx_make.proofs.FeedLemmas.{last_line_text, state_none}
use Rattle.vx_make.proofs.pieces.SampleFeed.new.Goals as goal

pub returns : goal.returns
returns c = record {
  head = c.in_ok-put_head.ensures ∙ ap (λ t. t ++ text_of_events head_events) c.new-head.ensures.items;
  last_line = last_line_text _ _ c.args.number c.args.ticks c.new-last_line.ensures.items c.in_ok-put_end.ensures;
  count = refl;
  state = state_none 1601 c.args.number;
  ready = record { states = c.requires.states; room = c.in_ok-tick_lines.ensures.capacity };
}
