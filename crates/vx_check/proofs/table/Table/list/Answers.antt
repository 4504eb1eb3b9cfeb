use Rattle.std.proofs.Common.{◌≡◌, ap, subst, refl, true}
use Rattle.std.specs.Prelude.{is_ok, List}
use Rattle.std.specs.List.{insert}
use Rattle.vx_feed.specs.Listed.{no_price}
use Rattle.vx_check.specs.declared.table.Half.{Half}
use Rattle.vx_check.specs.Rising.{Rises, StandsAt, FitsAt}
use Rattle.vx_check.specs.Tables.{half_strike}
use Rattle.vx_check.proofs.TableSeries.{lists_first, lists_second}
use Rattle.vx_check.proofs.table.Table.list.Goals as goal

pub returns-in_ok-insert_row-in-Ok-clause-listed :
    goal.returns-in_ok-insert_row-in-Ok-clause-listed
returns-in_ok-insert_row-in-Ok-clause-listed c =
    let Places : List Half → Type 0 = λ halves. Rises half_strike halves → StandsAt half_strike c.args.strike c.in-Ok.place halves in
    record {
      expiry = refl;
      rate = refl;
      trades = refl;
      series = λ rising.
          lists_second c.args.side c.args.strike c.in-Ok.place c.args.self.now.rows.items c.insert_row.new.rows.items c.args.self.now.halves.items c.remove.new.self.items
          c.index.result.now c.joined-row.result (subst Places c.as_slice.ensures.value c.in-Ok.ensures.place rising.halves) rising.halves c.index.ensures c.joined-row.ensures
          (c.in_ok-insert_row-in-Ok.ensures.inserted rising.rows) c.remove.ensures.items;
    }

pub returns-in_ok-insert-in-Err-clause-listed : goal.returns-in_ok-insert-in-Err-clause-listed
returns-in_ok-insert-in-Err-clause-listed c =
    let Places : List Half → Type 0 = λ halves. Rises half_strike halves → FitsAt half_strike c.args.strike c.in-Err.place halves in
    let inserted : is_ok c.insert.result ≡ true = ap is_ok c.in_ok-insert-in-Err.was in
    let half : Half = record { strike = c.args.strike; side = c.args.side; price = no_price } in
    let items : c.insert.new.self.items ≡ insert c.args.self.now.halves.items c.in-Err.place half = rw inserted at c.insert.ensures.items in
    record {
      expiry = refl;
      rate = refl;
      trades = refl;
      series = λ rising.
          lists_first c.args.side c.args.strike c.in-Err.place c.args.self.now.rows.items c.args.self.now.halves.items c.insert.new.self.items
          (subst Places c.as_slice.ensures.value c.in-Err.ensures.place rising.halves) rising.rows rising.halves items;
    }
