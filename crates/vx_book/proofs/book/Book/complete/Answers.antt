use Rattle.std.proofs.Common.{◌∙◌, Some, None, cond, length, ap, subst, sym, refl}
use Rattle.std.specs.Map.{lookup}
use Rattle.std.specs.Vec.{with_item}
use Rattle.std.proofs.lemmas.Option.{slice_get_read}
use Rattle.std.proofs.lemmas.Result.{on_ok_weaker}
use Rattle.vx_symbol.specs.declared.rows.StrikeRow.{StrikeRow}
use Rattle.vx_symbol.specs.declared.symbols.Symbol.{Symbol}
use Rattle.vx_feed.specs.Listed.{expiry_of, other_side}
use Rattle.vx_feed.specs.Same.{is_same_series}
use Rattle.vx_book.specs.Series.{kept}
use Rattle.vx_book.specs.Tables.{AddsRow}
use Rattle.vx_book.proofs.Lookups.{on_err_always}
use Rattle.vx_book.proofs.NextBook.{table_at}
use Rattle.vx_book.proofs.NextSeries.{in_row, kept_expiry, place_within, stands_completed, stands_refused}
use Rattle.vx_book.proofs.book.Book.complete.Goals as goal

pub add_row-requires-clause-rising : goal.add_row-requires-clause-rising
add_row-requires-clause-rising c =
    let old = c.args.self.now in
    let s = c.args.symbol.now in
    let one = c.args.one in
    let table = c.index_mut.result.now in
    let may = c.requires.may in
    let kept_is = ap (kept old.series) (sym c.requires.other) ∙ c.requires.one in
    let at = kept_expiry old may.0 (other_side s) one may.1 kept_is in
    let there = slice_get_read old.tables.items (length old.tables.items) one.expiry table refl (place_within old may.0 one.expiry (expiry_of s) may.1 at) c.index_mut.ensures.value in
    (table_at old.expiries.items old.tables.items may.0 one.expiry (expiry_of s) table (may.1).tables at there).shows.rows_lawful.rising

pub add_row-requires-clause-placed : goal.add_row-requires-clause-placed
add_row-requires-clause-placed c =
    let old = c.args.self.now in
    let s = c.args.symbol.now in
    let one = c.args.one in
    let table = c.index_mut.result.now in
    let may = c.requires.may in
    let kept_is = ap (kept old.series) (sym c.requires.other) ∙ c.requires.one in
    let at = kept_expiry old may.0 (other_side s) one may.1 kept_is in
    let there = slice_get_read old.tables.items (length old.tables.items) one.expiry table refl (place_within old may.0 one.expiry (expiry_of s) may.1 at) c.index_mut.ensures.value in
    (table_at old.expiries.items old.tables.items may.0 one.expiry (expiry_of s) table (may.1).tables at there).placed

pub returns-in_err-number-clause-refused : goal.returns-in_err-number-clause-refused
returns-in_err-number-clause-refused c =
    let old = c.args.self.now in
    let s = c.args.symbol.now in
    let one = c.args.one in
    let table = c.index_mut.result.now in
    let may = c.requires.may in
    let kept_is = ap (kept old.series) (sym c.requires.other) ∙ c.requires.one in
    let at = kept_expiry old may.0 (other_side s) one may.1 kept_is in
    let there = slice_get_read old.tables.items (length old.tables.items) one.expiry table refl (place_within old may.0 one.expiry (expiry_of s) may.1 at) c.index_mut.ensures.value in
    on_err_always c.from_residual-in_err-number.result _
    (stands_refused old (record old { tables = with_item old.tables one.expiry c.add_row.new.self; series = c.reserve.new.self }) one.expiry table c.add_row.new.self there
    c.in_err-number.ensures.refused refl (λ t. ap (lookup (is_same_series t)) c.reserve.ensures.entries))

pub returns-clause-taken : goal.returns-clause-taken
returns-clause-taken c =
    let old = c.args.self.now in
    let s = c.args.symbol.now in
    let one = c.args.one in
    let i = one.expiry in
    let n = c.in_ok-number.number in
    let table = c.index_mut.result.now in
    let may = c.requires.may in
    let kept_is = ap (kept old.series) (sym c.requires.other) ∙ c.requires.one in
    let at = kept_expiry old may.0 (other_side s) one may.1 kept_is in
    let there = slice_get_read old.tables.items (length old.tables.items) i table refl (place_within old may.0 i (expiry_of s) may.1 at) c.index_mut.ensures.value in
    let Adds : StrikeRow → Type 0 = λ row. AddsRow row table c.add_row.new.self n in
    let adds = subst Adds c.completed-row.ensures c.in_ok-number.ensures.added in
    on_ok_weaker c.set-2.result
    (λ sets. stands_completed old (record old { tables = with_item old.tables i c.add_row.new.self; series = c.set-2.new.series }) s one c.in-Alone.price table c.add_row.new.self n may
    kept_is c.in-Alone.is there adds refl
    (λ t.
    sets t ∙ ap (λ (q : Symbol). cond (is_same_series q t) (Some (in_row i n one.traded)) (kept c.set.new.series t)) c.requires.other
    ∙ ap (λ o. cond (is_same_series (other_side s) t) (Some (in_row i n one.traded)) o)
    (c.in_ok-set.ensures.done t ∙ ap (λ es. cond (is_same_series s t) (Some (in_row i n None)) (lookup (is_same_series t) es)) c.reserve.ensures.entries)))
    c.set-2.ensures.done
