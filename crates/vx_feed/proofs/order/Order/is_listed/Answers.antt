use Rattle.std.proofs.Common.{◌∙◌}
use Rattle.vx_feed.proofs.SameLemmas.{has_by_parts, series_by_parts}
use Rattle.vx_feed.proofs.order.Order.is_listed.Goals as goal

pub returns-clause-listed : goal.returns-clause-listed
returns-clause-listed c = λ events stands.
    has_by_parts _ series_by_parts c.contains.result c.args.symbol.now c.args.self.now.series.keys c.contains.ensures
    ∙ stands.series c.args.symbol.now
