use Rattle.std.proofs.Common.{◌≡◌, ◌+◌, ◌*◌, arith}
use Rattle.vx_make.specs.Drawing.{state_after}
use Rattle.vx_make.specs.Feed.{tick_events}
use Rattle.vx_make.proofs.FeedLemmas.{text_none, text_more_from, text_all, state_none, state_more}
use Rattle.vx_make.proofs.feed.put_ticks.Goals as goal

pub loop-tick-init : goal.loop-tick-init
loop-tick-init c = (
  text_none c.args.out.now.items (λ t. tick_events (510 + t) (state_after (1601 * t) c.args.number)),
  state_none 1601 c.args.number,
  c.requires.states,
  omega arith,
  omega arith,
)

pub loop-tick-preserved : goal.loop-tick-preserved
loop-tick-preserved c = (
  text_more_from _ _ _ (λ t s. tick_events (510 + t) s) 1601 c.loop-tick.tick c.args.number c.loop-tick.state c.loop-tick.invariant.0 c.loop-tick.invariant.1 c.put_tick.ensures.written,
  state_more 1601 c.loop-tick.tick c.args.number c.loop-tick.state _ c.loop-tick.invariant.1 c.put_tick.ensures.steps,
  c.put_tick.ensures.states,
  omega (arith, c.loop-tick.invariant, c.put_tick.ensures.len),
  omega (arith, c.loop-tick.invariant, c.put_tick.ensures.capacity),
)

pub returns : goal.returns
returns c =
    let all : c.loop-tick.tick ≡ c.args.ticks = omega arith in
    text_all _ _ (λ t. tick_events (510 + t) (state_after (1601 * t) c.args.number)) c.loop-tick.tick c.args.ticks all c.loop-tick.invariant.0
