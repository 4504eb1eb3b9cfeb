use Rattle.std.proofs.Common.{◌∙◌, length, subst, sym, refl}
use Rattle.std.proofs.lemmas.Option.{slice_get_read}
use Rattle.vx_symbol.specs.Rows.{AreLawfulRows}
use Rattle.vx_book.proofs.NextBook.{table_at}
use Rattle.vx_book.proofs.NextSeries.{place_within}
use Rattle.vx_book.proofs.book.Book.term.Goals as goal

pub returns-clause-standing : goal.returns-clause-standing
returns-clause-standing c = λ events h.
    let book = c.args.self.now in
    let i = c.args.i in
    let at = slice_get_read book.expiries.items (length book.expiries.items) i c.index.result.now refl c.requires.within c.index.ensures in
    let within = place_within book events i c.index.result.now h at in
    let rated = slice_get_read book.tables.items (length book.tables.items) i c.index-2.result.now refl within c.index-2.ensures in
    let there = slice_get_read book.tables.items (length book.tables.items) i c.index-3.result.now refl within c.index-3.ensures in
    record {
      rate = (table_at book.expiries.items book.tables.items events i c.index.result.now c.index-2.result.now h.tables at rated).shows.rate_is;
      rows = c.rows.ensures ∙ (table_at book.expiries.items book.tables.items events i c.index.result.now c.index-3.result.now h.tables at there).shows.rows_are;
    }

pub returns-clause-lawful : goal.returns-clause-lawful
returns-clause-lawful c =
    let book = c.args.self.now in
    let i = c.args.i in
    let events = (c.requires.stands).0 in
    let h = (c.requires.stands).1 in
    let at = slice_get_read book.expiries.items (length book.expiries.items) i c.index.result.now refl c.requires.within c.index.ensures in
    let within = place_within book events i c.index.result.now h at in
    let rated = slice_get_read book.tables.items (length book.tables.items) i c.index-2.result.now refl within c.index-2.ensures in
    let there = slice_get_read book.tables.items (length book.tables.items) i c.index-3.result.now refl within c.index-3.ensures in
    record {
      rate = (table_at book.expiries.items book.tables.items events i c.index.result.now c.index-2.result.now h.tables at rated).shows.rate_in_range;
      rows = subst AreLawfulRows (sym c.rows.ensures) (table_at book.expiries.items book.tables.items events i c.index.result.now c.index-3.result.now h.tables at there).shows.rows_lawful;
    }
