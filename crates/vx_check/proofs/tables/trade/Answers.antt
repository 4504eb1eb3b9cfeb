use Rattle.std.proofs.Common.{get_or, ap, subst}
use Rattle.vx_clock.specs.declared.terms.Expiry.{Expiry}
use Rattle.vx_symbol.specs.declared.rows.Price.{Price}
use Rattle.vx_feed.specs.Listed.{expiry_of}
use Rattle.vx_check.specs.Kept.{is_table_of}
use Rattle.vx_check.specs.Tables.{IsFirstAt, IsTableKept, SetsTradeInTable, TradesInTable, is_listed_in_table}
use Rattle.vx_check.specs.Trades.{SetsTrade}
use Rattle.vx_check.proofs.TableSeries.{on_ok_from, on_err_from}
use Rattle.vx_check.proofs.TableLists.{changed_at, same_from_changed}
use Rattle.vx_check.proofs.tables.trade.Goals as goal

pub returns-in-Some-clause-traded : goal.returns-in-Some-clause-traded
returns-in-Some-clause-traded c =
    let s = c.args.symbol.now in
    let tables = c.args.tables.now in
    let place = c.in-Some.place in
    let old = get_or tables place c.index-tables-place.result in
    let new = c.trade.new.self in
    let First : Expiry → Type 0 = λ x. IsFirstAt (is_table_of x) place tables in
    let Sets : Price → Type 0 = λ price. SetsTrade
    (is_listed_in_table s.side s.strike old) s.side s.strike price old.trades.items new.trades.items in
    on_ok_from c.trade.result (SetsTradeInTable s.side s.strike c.traded.result old new) _
    (λ (sets : SetsTradeInTable s.side s.strike c.traded.result old new).
    let trades : TradesInTable s.side s.strike c.args.cents old new = record {
      expiry = sets.expiry;
      rate = sets.rate;
      rows = sets.rows;
      halves = sets.halves;
      sets = λ range rising rises. subst Sets (c.traded.ensures range) (sets.sets rising rises);
    } in
    changed_at (expiry_of s) (TradesInTable s.side s.strike c.args.cents) place tables old new
    (subst First c.expiry_of.ensures c.in-Some.ensures.first) (ap (get_or tables place) c.index-tables-place.is) trades.expiry trades)
    c.trade.ensures.traded

pub returns-in-Some-clause-refused : goal.returns-in-Some-clause-refused
returns-in-Some-clause-refused c =
    let x = c.expiry_of.result in
    let tables = c.args.tables.now in
    let place = c.in-Some.place in
    let old = get_or tables place c.index-tables-place.result in
    on_err_from c.trade.result (IsTableKept old c.trade.new.self) _
    (λ (same : IsTableKept old c.trade.new.self).
    same_from_changed x tables _
    (changed_at x IsTableKept place tables old c.trade.new.self c.in-Some.ensures.first
    (ap (get_or tables place) c.index-tables-place.is) same.expiry same))
    c.trade.ensures.refused
