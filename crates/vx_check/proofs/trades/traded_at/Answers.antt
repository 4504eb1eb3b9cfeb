use Rattle.std.proofs.Common.{◌≡◌, ◌∙◌, None, option_and_then, ap, sym}
use Rattle.vx_check.specs.Rising.{item_at}
use Rattle.vx_check.specs.Trades.{trades_strike, traded_on}
use Rattle.vx_check.proofs.Rising.{item_that_stands, none_that_fits}
use Rattle.vx_check.proofs.trades.traded_at.Goals as goal

pub returns-in-Ok : goal.returns-in-Ok
returns-in-Ok c = λ rises. c.traded_on.ensures ∙ sym (ap (option_and_then (traded_on c.args.side))
    (item_that_stands trades_strike c.args.strike c.in-Ok.place c.args.trades.now _ (c.in-Ok.ensures.place rises)))

pub returns-in-Err : goal.returns-in-Err
returns-in-Err c = λ rises.
    let trades = c.args.trades.now in
    let item : item_at trades_strike c.args.strike trades ≡ None = none_that_fits trades_strike c.args.strike c.in-Err.field-0 0 trades
    (c.in-Err.ensures.place rises) rises in
    sym (ap (option_and_then (traded_on c.args.side)) item)
