use Rattle.std.proofs.Common.{◌∙◌, ap}
use Rattle.std.specs.List.{list_any}
use Rattle.vx_feed.specs.Noted.{keeps}
use Rattle.vx_feed.proofs.FaultLemmas.{declared_by}
use Rattle.vx_feed.proofs.order.Order.is_declared.Goals as goal

pub returns : goal.returns
returns c = λ events stands.
    c.is_among.ensures ∙ ap (list_any (keeps c.args.expiry)) c.deref.ensures.value ∙ declared_by c.args.self.now events c.args.expiry stands
