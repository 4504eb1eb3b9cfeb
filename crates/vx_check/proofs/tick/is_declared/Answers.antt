use Rattle.std.proofs.Common.{◌∙◌, ap}
use Rattle.std.specs.List.{list_any}
use Rattle.vx_feed.specs.Same.{is_same_expiry}
use Rattle.vx_check.proofs.AtTick.{expiries_are}
use Rattle.vx_check.proofs.tick.is_declared.Goals as goal

pub returns : goal.returns
returns c = λ events line time h.
    c.is_among.ensures ∙ ap (list_any (is_same_expiry c.args.expiry)) (c.expiries.ensures ∙ expiries_are c.args.book.now events line time h)
