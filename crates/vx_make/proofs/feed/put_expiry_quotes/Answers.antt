use Rattle.std.proofs.Common.{◌≡◌, ◌*◌, arith}
use Rattle.vx_make.specs.Drawing.{state_after}
use Rattle.vx_make.specs.Quotes.{strike_quotes}
use Rattle.vx_make.proofs.FeedLemmas.{text_none, text_more_from, text_all, state_none, state_more, state_all}
use Rattle.vx_make.proofs.feed.put_expiry_quotes.Goals as goal

pub loop-place-init : goal.loop-place-init
loop-place-init c = (
  text_none c.args.out.now.items (λ i. strike_quotes c.args.time c.args.centre c.args.expiry i (state_after (4 * i) c.args.state.now)),
  state_none 4 c.args.state.now,
  c.requires.states,
  omega arith,
  omega arith,
)

pub loop-place-preserved : goal.loop-place-preserved
loop-place-preserved c = (
  text_more_from _ _ _ (strike_quotes c.args.time c.args.centre c.args.expiry) 4 c.loop-place.place c.args.state.now c.loop-place.state c.loop-place.invariant.0 c.loop-place.invariant.1 c.put_strike_quotes.ensures.written,
  state_more 4 c.loop-place.place c.args.state.now c.loop-place.state _ c.loop-place.invariant.1 c.put_strike_quotes.ensures.steps,
  c.put_strike_quotes.ensures.states,
  omega (arith, c.loop-place.invariant, c.put_strike_quotes.ensures.len),
  omega (arith, c.loop-place.invariant, c.put_strike_quotes.ensures.capacity),
)

pub returns-clause-written : goal.returns-clause-written
returns-clause-written c =
    let all : c.loop-place.place ≡ 200 = omega arith in
    text_all _ _ (λ i. strike_quotes c.args.time c.args.centre c.args.expiry i (state_after (4 * i) c.args.state.now)) c.loop-place.place 200 all c.loop-place.invariant.0

pub returns-clause-steps : goal.returns-clause-steps
returns-clause-steps c =
    let all : c.loop-place.place ≡ 200 = omega arith in
    state_all 4 c.args.state.now _ c.loop-place.place 200 all c.loop-place.invariant.1
