use Rattle.vx_make.proofs.FeedLemmas.{tick_text, tick_steps}
use Rattle.vx_make.proofs.feed.put_tick.Goals as goal

pub returns-clause-written : goal.returns-clause-written
returns-clause-written c =
    tick_text _ _ _ _ c.args.time c.args.state.now c.draw_centre-centre.new.state c.draw_centre-centre.result c.put_expiry_quotes.new.state c.standard_term.result c.weekly_term.result c.draw_centre-centre.ensures.step c.draw_centre-centre.ensures.value c.standard_term.ensures.term c.weekly_term.ensures.term c.put_expiry_quotes.ensures.steps c.put_expiry_quotes.ensures.written c.put_expiry_quotes-2.ensures.written c.put_tick_line.ensures.written

pub returns-clause-steps : goal.returns-clause-steps
returns-clause-steps c =
    tick_steps c.args.state.now c.draw_centre-centre.new.state c.put_expiry_quotes.new.state c.put_expiry_quotes-2.new.state c.draw_centre-centre.ensures.step c.put_expiry_quotes.ensures.steps c.put_expiry_quotes-2.ensures.steps
