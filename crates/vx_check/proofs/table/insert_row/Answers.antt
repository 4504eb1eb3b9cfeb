use Rattle.std.proofs.Common.{◌≡◌, sym, ap, subst, refl, true}
use Rattle.std.specs.Prelude.{is_ok, List, Some}
use Rattle.std.specs.List.{insert}
use Rattle.vx_symbol.specs.declared.rows.StrikeRow.{StrikeRow}
use Rattle.vx_check.specs.Rising.{Rises, StandsAt, FitsAt, IsWith}
use Rattle.vx_check.specs.Tables.{row_strike}
use Rattle.vx_check.proofs.Rising.{with_set, with_inserted}
use Rattle.vx_check.proofs.table.insert_row.Goals as goal

pub returns-in-Ok-clause-inserted : goal.returns-in-Ok-clause-inserted
returns-in-Ok-clause-inserted c = λ rises.
    let row = c.args.row in
    let Places : List StrikeRow → Type 0 = λ rows. Rises row_strike rows → StandsAt row_strike row.strike c.in-Ok.place rows in
    with_set row_strike row row.strike c.in-Ok.place c.args.rows.now.items refl (subst Places c.as_slice.ensures.value c.in-Ok.ensures.place rises) rises

pub returns-in_ok-insert-in-Err-clause-inserted : goal.returns-in_ok-insert-in-Err-clause-inserted
returns-in_ok-insert-in-Err-clause-inserted c = λ rises.
    let row = c.args.row in
    let rows = c.args.rows.now.items in
    let Places : List StrikeRow → Type 0 = λ rows. Rises row_strike rows → FitsAt row_strike row.strike c.in-Err.place rows in
    let inserted : is_ok c.insert.result ≡ true = ap is_ok c.in_ok-insert-in-Err.was in
    let items : c.insert.new.self.items ≡ insert rows c.in-Err.place row = rw inserted at c.insert.ensures.items in
    let With : List StrikeRow → Type 0 = λ l. IsWith row_strike row.strike (Some row) rows l in
    subst With (sym items) (with_inserted row_strike row c.in-Err.place rows (subst Places c.as_slice.ensures.value c.in-Err.ensures.place rises) rises)
