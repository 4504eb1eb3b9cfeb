use Rattle.std.proofs.Common.{subst}
use Rattle.std.specs.Prelude.{List}
use Rattle.vx_check.specs.declared.table.Half.{Half}
use Rattle.vx_check.specs.Rising.{Rises, StandsAt, FitsAt}
use Rattle.vx_check.specs.Tables.{half_strike, half_with_price}
use Rattle.vx_check.proofs.Rising.{with_changed, with_none_changed}
use Rattle.vx_check.proofs.TableSeries.{half_keeps_strike}
use Rattle.vx_check.proofs.table.set_half.Goals as goal

pub returns-in-Ok : goal.returns-in-Ok
returns-in-Ok c = λ rises.
    let Places : List Half → Type 0 = λ halves. Rises half_strike halves → StandsAt half_strike c.args.strike c.in-Ok.place halves in
    with_changed half_strike (half_with_price c.args.side c.args.price) (half_keeps_strike c.args.side c.args.price) c.args.strike c.in-Ok.place c.args.halves.now.items
    c.index.result.now c.half_with_price.result (subst Places c.as_slice.ensures.value c.in-Ok.ensures.place rises) rises c.index.ensures c.half_with_price.ensures

pub returns-in_default : goal.returns-in_default
returns-in_default c = λ rises.
    let Places : List Half → Type 0 = λ halves. Rises half_strike halves → FitsAt half_strike c.args.strike c.in_default.field-0 halves in
    with_none_changed half_strike (half_with_price c.args.side c.args.price) c.args.strike c.in_default.field-0 c.args.halves.now.items
    (subst Places c.as_slice.ensures.value c.in_default.ensures.place rises) rises
