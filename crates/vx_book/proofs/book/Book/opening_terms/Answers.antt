use Rattle.std.proofs.Common.{◌+◌, ◌<◌, ◌≤◌, length, subst, sym, refl, arith}
use Rattle.std.proofs.lemmas.Option.{slice_get_read}
use Rattle.vx_book.specs.Series.{kept_trade}
use Rattle.vx_book.proofs.Openings.{TakesFirst, takes_all, takes_more}
use Rattle.vx_book.proofs.book.Book.opening_terms.Goals as goal

pub loop-i-preserved : goal.loop-i-preserved
loop-i-preserved c =
    let book = c.args.self.now in
    let xs = book.expiries.items in
    let tables = book.tables.items in
    let i = c.loop-i.i in
    let many = ((c.requires).1).tables.as_many in
    let within : i < length tables = omega (arith, c.loop-i-test.true, c.len-i-end.ensures, book.tables.ok.0) in
    let x = c.index.result.now in
    let table = c.index-in-loop-i.result.now in
    let at = slice_get_read xs (length xs) i x refl (omega arith) c.index.ensures in
    let there = slice_get_read tables (length tables) i table refl within c.index-in-loop-i.ensures in
    let more = takes_more i xs tables (kept_trade book.series) c.loop-i.terms.items x table c.in_ok-term.term at there c.in_ok-term.ensures.rate c.in_ok-term.ensures.rows c.loop-i.invariant in
    subst (λ l. TakesFirst (i + 1) xs tables (kept_trade book.series) l) (sym c.in_ok-push.ensures.items) more

pub returns : goal.returns
returns c =
    let book = c.args.self.now in
    let xs = book.expiries.items in
    let tables = book.tables.items in
    let i = c.loop-i.i in
    let many = ((c.requires).1).tables.as_many in
    let all : length tables ≤ i = omega (arith, c.loop-i-test.false, c.len-i-end.ensures, book.tables.ok.0) in
    let few : length c.loop-i.terms.items ≤ length xs = omega (arith, c.loop-i.invariant.as_many, c.loop-i.auto.i-end, c.len-i-end.ensures, book.tables.ok.0, many) in
    takes_all i xs tables (kept_trade book.series) c.loop-i.terms.items all few c.loop-i.invariant
