use Rattle.std.proofs.Common.{get_or, ap, subst}
use Rattle.vx_clock.specs.declared.terms.Expiry.{Expiry}
use Rattle.vx_feed.specs.Listed.{expiry_of}
use Rattle.vx_check.specs.Kept.{is_table_of}
use Rattle.vx_check.specs.Tables.{IsFirstAt, IsTableKept, ListsInTable}
use Rattle.vx_check.proofs.TableSeries.{on_ok_from, on_err_from}
use Rattle.vx_check.proofs.TableLists.{changed_at, same_from_changed}
use Rattle.vx_check.proofs.tables.list.Goals as goal

pub returns-in-Some-clause-listed : goal.returns-in-Some-clause-listed
returns-in-Some-clause-listed c =
    let s = c.args.symbol.now in
    let tables = c.args.tables.now in
    let place = c.in-Some.place in
    let old = get_or tables place c.index-tables-place.result in
    let First : Expiry → Type 0 = λ x. IsFirstAt (is_table_of x) place tables in
    on_ok_from c.list.result (ListsInTable s.side s.strike old c.list.new.self) _
    (λ (lists : ListsInTable s.side s.strike old c.list.new.self).
    changed_at (expiry_of s) (ListsInTable s.side s.strike) place tables old c.list.new.self
    (subst First c.expiry_of.ensures c.in-Some.ensures.first) (ap (get_or tables place) c.index-tables-place.is) lists.expiry lists)
    c.list.ensures.listed

pub returns-in-Some-clause-refused : goal.returns-in-Some-clause-refused
returns-in-Some-clause-refused c =
    let x = c.expiry_of.result in
    let tables = c.args.tables.now in
    let place = c.in-Some.place in
    let old = get_or tables place c.index-tables-place.result in
    on_err_from c.list.result (IsTableKept old c.list.new.self) _
    (λ (same : IsTableKept old c.list.new.self).
    same_from_changed x tables _
    (changed_at x IsTableKept place tables old c.list.new.self c.in-Some.ensures.first (ap (get_or tables place) c.index-tables-place.is) same.expiry same))
    c.list.ensures.refused
