use Rattle.std.proofs.Common.{refl, subst}
use Rattle.std.specs.Prelude.{List}
use Rattle.vx_symbol.specs.declared.rows.StrikeRow.{StrikeRow}
use Rattle.vx_check.specs.Rising.{Rises, StandsAt, FitsAt}
use Rattle.vx_check.specs.Tables.{row_strike, row_with_price}
use Rattle.vx_check.proofs.Rising.{with_changed, with_none_changed}
use Rattle.vx_check.proofs.TableSeries.{row_keeps_strike, quoted_in_row, quoted_alone}
use Rattle.vx_check.proofs.table.Table.set_price.Goals as goal

pub returns-in-Ok : goal.returns-in-Ok
returns-in-Ok c =
    let Places : List StrikeRow → Type 0 = λ rows. Rises row_strike rows → StandsAt row_strike c.args.strike c.in-Ok.place rows in
    record {
      expiry = refl;
      rate = refl;
      trades = refl;
      series = λ rising.
          let stands = subst Places c.as_slice.ensures.value c.in-Ok.ensures.place rising.rows in
          record {
            in_rows = with_changed row_strike (row_with_price c.args.side c.args.price) (row_keeps_strike c.args.side c.args.price) c.args.strike c.in-Ok.place c.args.self.now.rows.items
                c.index.result.now c.row_with_price.result stands rising.rows c.index.ensures c.row_with_price.ensures;
            in_halves = quoted_in_row c.args.side c.args.price c.args.strike c.in-Ok.place c.args.self.now.rows.items c.args.self.now.halves.items c.index.result.now stands rising.halves;
          };
    }

pub returns-in-Err : goal.returns-in-Err
returns-in-Err c =
    let Places : List StrikeRow → Type 0 = λ rows. Rises row_strike rows → FitsAt row_strike c.args.strike c.in-Err.field-0 rows in
    record {
      expiry = refl;
      rate = refl;
      trades = refl;
      series = λ rising.
          let fits = subst Places c.as_slice.ensures.value c.in-Err.ensures.place rising.rows in
          record {
            in_rows = with_none_changed row_strike (row_with_price c.args.side c.args.price) c.args.strike c.in-Err.field-0 c.args.self.now.rows.items fits rising.rows;
            in_halves = quoted_alone c.args.side c.args.price c.args.strike c.in-Err.field-0 c.args.self.now.rows.items c.args.self.now.halves.items c.set_half.new.halves.items
                fits rising.rows (c.set_half.ensures rising.halves);
          };
    }
