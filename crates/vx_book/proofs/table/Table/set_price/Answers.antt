use Rattle.std.proofs.Common.{refl}
use Rattle.vx_book.proofs.Rows.{rows_set}
use Rattle.vx_book.proofs.table.Table.set_price.Goals as goal

pub returns : goal.returns
returns c =
    let table = c.args.self.now in
    record {
      rate = refl;
      places = refl;
      rows = λ k at. rows_set table.rows.items table.places.items c.args.number k c.args.side c.args.price c.index-place.result.now c.index.result.now c.with_price.result
          c.requires.rising at c.index-place.ensures c.index.ensures c.with_price.ensures;
    }
