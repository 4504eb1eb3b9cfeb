use Rattle.std.proofs.Common.{◌∙◌, Bool, true, refl, sym, subst}
use Rattle.vx_check.specs.Rising.{Rises}
use Rattle.vx_check.specs.Trades.{SetsTrade, trades_strike}
use Rattle.vx_check.proofs.Rising.{with_same}
use Rattle.vx_check.proofs.TableSeries.{on_ok_from}
use Rattle.vx_check.proofs.table.Table.trade.Goals as goal

pub returns-then-is_listed-clause-traded : goal.returns-then-is_listed-clause-traded
returns-then-is_listed-clause-traded c =
    let table = c.args.self.now in
    let Sets : Bool → Type 0 = λ b. SetsTrade b c.args.side c.args.strike c.args.price table.trades.items c.keep_first.new.trades.items in
    on_ok_from c.keep_first.result (Rises trades_strike table.trades.items → Sets true) _
    (λ (kept : Rises trades_strike table.trades.items → Sets true).
    record {
      expiry = refl;
      rate = refl;
      rows = refl;
      halves = refl;
      sets = λ rising rises. subst Sets (sym (sym (c.is_listed.ensures rising) ∙ c.if-is_listed.true)) (kept rises);
    })
    c.keep_first.ensures.kept

pub returns-else-is_listed-clause-traded : goal.returns-else-is_listed-clause-traded
returns-else-is_listed-clause-traded c =
    let table = c.args.self.now in
    let Sets : Bool → Type 0 = λ b. SetsTrade b c.args.side c.args.strike c.args.price table.trades.items table.trades.items in
    record {
      expiry = refl;
      rate = refl;
      rows = refl;
      halves = refl;
      sets = λ rising rises. subst Sets (sym (sym (c.is_listed.ensures rising) ∙ c.if-is_listed.false))
          (with_same trades_strike c.args.strike table.trades.items rises);
    }
