use Rattle.std.proofs.Common.{◌≡◌, ◌∙◌, subst, ap, true}
use Rattle.std.specs.Prelude.{is_ok, List}
use Rattle.std.specs.List.{insert}
use Rattle.vx_check.specs.declared.trades.FirstTrades.{FirstTrades}
use Rattle.vx_check.specs.Rising.{Rises, StandsAt, FitsAt}
use Rattle.vx_check.specs.Trades.{trades_strike, with_trade}
use Rattle.vx_check.proofs.TableTrades.{kept_at, kept_new}
use Rattle.vx_check.proofs.trades.keep_first.Goals as goal

pub returns-in-Ok-clause-kept : goal.returns-in-Ok-clause-kept
returns-in-Ok-clause-kept c = λ rises.
    let Places : List FirstTrades → Type 0 = λ trades. Rises trades_strike trades
    → StandsAt trades_strike c.args.strike c.in-Ok.place trades in
    kept_at c.args.side c.args.price c.args.strike c.in-Ok.place c.args.trades.now.items c.index.result.now c.with_trade.result
    (subst Places c.as_slice.ensures.value c.in-Ok.ensures.place rises) rises c.index.ensures c.with_trade.ensures

pub returns-in_ok-insert-in-Err-clause-kept : goal.returns-in_ok-insert-in-Err-clause-kept
returns-in_ok-insert-in-Err-clause-kept c = λ rises.
    let trades = c.args.trades.now.items in
    let Places : List FirstTrades → Type 0 = λ trades. Rises trades_strike trades
    → FitsAt trades_strike c.args.strike c.in-Err.place trades in
    let inserted : is_ok c.insert.result ≡ true = ap is_ok c.in_ok-insert-in-Err.was in
    let items : c.insert.new.self.items ≡ insert trades c.in-Err.place c.with_trade-first.result = rw inserted at c.insert.ensures.items in
    kept_new c.args.side c.args.price c.args.strike c.in-Err.place trades c.insert.new.self.items c.with_trade-first.result
    (subst Places c.as_slice.ensures.value c.in-Err.ensures.place rises) rises
    (c.with_trade-first.ensures ∙ ap (with_trade c.args.side c.args.price) c.no_trades.ensures) items
