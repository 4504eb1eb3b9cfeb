use Rattle.std.proofs.Common.{◌≡◌, ◌∙◌, List, None, ap, sym, subst}
use Rattle.vx_symbol.specs.declared.rows.StrikeRow.{StrikeRow}
use Rattle.vx_check.specs.declared.table.Half.{Half}
use Rattle.vx_check.specs.Rising.{Rises, StandsAt, FitsAt, item_at}
use Rattle.vx_check.specs.Tables.{half_strike, row_strike}
use Rattle.vx_check.specs.Trades.{is_listed_in}
use Rattle.vx_check.proofs.Rising.{none_that_fits}
use Rattle.vx_check.proofs.TableTrades.{listed_in_row}
use Rattle.vx_check.proofs.table.Table.is_listed.Goals as goal

pub returns-in-Ok : goal.returns-in-Ok
returns-in-Ok c = λ rising.
    let table = c.args.self.now in
    let k = c.args.strike in
    let Places : List StrikeRow → Type 0 = λ rows. Rises row_strike rows → StandsAt row_strike k c.in-Ok.field-0 rows in
    listed_in_row c.args.side k c.in-Ok.field-0 table.rows.items (item_at half_strike k table.halves.items)
    (subst Places c.as_slice.ensures.value c.in-Ok.ensures.place rising.rows)

pub returns-in-Err : goal.returns-in-Err
returns-in-Err c = λ rising.
    let table = c.args.self.now in
    let k = c.args.strike in
    let Places : List StrikeRow → Type 0 = λ rows. Rises row_strike rows → FitsAt row_strike k c.in-Err.field-0 rows in
    let item : item_at row_strike k table.rows.items ≡ None =
    none_that_fits row_strike k c.in-Err.field-0 0 table.rows.items
    (subst Places c.as_slice.ensures.value c.in-Err.ensures.place rising.rows) rising.rows in
    let Alone : List Half → Type 0 = λ halves. Rises half_strike halves
    → c.is_listed_alone.result ≡ is_listed_in c.args.side None (item_at half_strike k halves) in
    subst Alone c.as_slice-in-Err.ensures.value c.is_listed_alone.ensures rising.halves
    ∙ sym (ap (λ o. is_listed_in c.args.side o (item_at half_strike k table.halves.items)) item)
