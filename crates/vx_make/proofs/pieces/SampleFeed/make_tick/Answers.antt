use Rattle.std.proofs.Common.{arith}
use Rattle.vx_make.proofs.FeedLemmas.{state_more, tick_lines_text}
use Rattle.vx_make.proofs.pieces.SampleFeed.make_tick.Goals as goal

pub returns-clause-made : goal.returns-clause-made
returns-clause-made c number ticks made has = record {
  head = has.head;
  last_line = has.last_line;
  count = omega (arith, has.count);
  state = state_more 1601 made number c.args.self.now.state _ has.state c.put_tick.ensures.steps;
  ready = record { states = c.put_tick.ensures.states; room = omega (arith, has.ready.room, c.put_tick.ensures.capacity, c.clear.ensures.capacity) };
}

pub returns-clause-lines : goal.returns-clause-lines
returns-clause-lines c number ticks made has =
    tick_lines_text _ _ number made c.args.self.now.made c.args.self.now.state has.count has.state c.clear.ensures.items c.put_tick.ensures.written
