use Rattle.std.proofs.Common.{◌∙◌, ap, max, unwrap_or}
use Rattle.vx_feed.proofs.FaultLemmas.{can_take}
use Rattle.vx_feed.proofs.OrderLemmas.{stands_at}
use Rattle.vx_feed.proofs.order.Order.note.Goals as goal

pub take-requires : goal.take-requires
take-requires c = can_take c.args.self.now c.args.event.now c.requires

pub returns-clause-noted : goal.returns-clause-noted
returns-clause-noted c = λ events stands.
    let order = c.args.self.now in
    let e = c.args.event.now in
    stands_at order c.take.new.self e events c.max-self.result stands (can_take order e c.requires) c.in_ok-take.ensures.taken
    (c.max-self.ensures ∙ ap (max c.take.new.self.latest) (c.unwrap_or.ensures ∙ ap (λ o. unwrap_or o 0) c.time.ensures))
