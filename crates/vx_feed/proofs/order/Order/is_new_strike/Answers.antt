use Rattle.std.proofs.Common.{◌∙◌, ap, sym, not, ◌&&◌}
use Rattle.vx_feed.specs.Listed.{is_listed, other_side}
use Rattle.vx_feed.proofs.FaultLemmas.{new_strike_by}
use Rattle.vx_feed.proofs.order.Order.is_new_strike.Goals as goal

pub returns-then-not-is_listed : goal.returns-then-not-is_listed
returns-then-not-is_listed c = λ events stands.
    let s = c.args.symbol.now in
    let there = c.is_listed-then-not-is_listed.result in
    ap (λ b. not b && not there) (sym c.if-not-is_listed.true)
    ∙ ap (λ b. not b && not there) (c.is_listed.ensures.listed events stands)
    ∙ ap (λ b. not (is_listed s events) && not b) (c.is_listed-then-not-is_listed.ensures.listed events stands ∙ ap (λ t. is_listed t events) c.other_side.ensures)
    ∙ new_strike_by events s

pub returns-else-not-is_listed : goal.returns-else-not-is_listed
returns-else-not-is_listed c = λ events stands.
    let s = c.args.symbol.now in
    let there = is_listed (other_side s) events in
    ap not c.if-not-is_listed.false
    ∙ ap (λ b. not b && not there) (sym c.if-not-is_listed.false)
    ∙ ap (λ b. not b && not there) (c.is_listed.ensures.listed events stands)
    ∙ new_strike_by events s
