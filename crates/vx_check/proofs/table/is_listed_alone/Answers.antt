use Rattle.std.proofs.Common.{◌≡◌, ◌∙◌, None, ap, sym}
use Rattle.vx_check.specs.Rising.{item_at}
use Rattle.vx_check.specs.Tables.{half_strike}
use Rattle.vx_check.specs.Trades.{is_listed_in}
use Rattle.vx_check.proofs.Rising.{item_that_stands, none_that_fits}
use Rattle.vx_check.proofs.table.is_listed_alone.Goals as goal

pub returns-in-Ok : goal.returns-in-Ok
returns-in-Ok c = λ rises.
    c.is_of_side.ensures
    ∙ sym (ap (is_listed_in c.args.side None) (item_that_stands half_strike c.args.strike c.in-Ok.place c.args.halves.now _
    (c.in-Ok.ensures.place rises)))

pub returns-in-Err : goal.returns-in-Err
returns-in-Err c = λ rises.
    let item : item_at half_strike c.args.strike c.args.halves.now ≡ None = none_that_fits half_strike c.args.strike c.in-Err.field-0 0 c.args.halves.now (c.in-Err.ensures.place rises) rises in
    sym (ap (λ o. is_listed_in c.args.side None o) item)
