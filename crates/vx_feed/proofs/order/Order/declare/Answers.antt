use Rattle.std.proofs.Common.{refl}
use Rattle.vx_feed.proofs.OrderLemmas.{takes_expiry}
use Rattle.vx_feed.proofs.order.Order.declare.Goals as goal

pub returns-clause-taken : goal.returns-clause-taken
returns-clause-taken c =
    takes_expiry c.args.self.now _ c.args.expiry refl refl refl refl refl refl
    c.in_ok-push.ensures.items
