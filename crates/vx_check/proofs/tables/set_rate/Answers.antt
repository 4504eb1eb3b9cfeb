use Rattle.std.proofs.Common.{get_or, Some, ap, refl, to_z-of_z, to_z, of_z, w32}
use Rattle.vx_check.specs.declared.table.Table.{Table}
use Rattle.vx_check.specs.Tables.{SetsRate}
use Rattle.vx_check.proofs.TableLists.{changed_at}
use Rattle.vx_check.proofs.tables.set_rate.Goals as goal

pub returns-in-Some : goal.returns-in-Some
returns-in-Some c =
    let tables = c.args.tables.now in
    let place = c.in-Some.place in
    let old = get_or tables place c.index-tables-place.result in
    let new : Table = record old { rate = Some (to_z w32 (of_z w32 c.args.rate)) } in
    changed_at c.args.expiry (SetsRate c.args.rate) place tables old new c.in-Some.ensures.first (ap (get_or tables place) c.index-tables-place.is) refl
    (record { expiry = refl; rate_is = ap Some (to_z-of_z c.ranges.rate); rows = refl; halves = refl; trades = refl })
