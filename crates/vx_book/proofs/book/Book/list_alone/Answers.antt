use Rattle.std.proofs.Common.{◌≡◌, ◌∙◌, Some, true, ap, refl}
use Rattle.std.specs.Prelude.{slice_get}
use Rattle.std.specs.List.{list_any}
use Rattle.std.proofs.lemmas.Result.{on_ok_weaker}
use Rattle.vx_feed.specs.Listed.{expiry_of}
use Rattle.vx_feed.specs.Same.{is_same_expiry}
use Rattle.vx_book.proofs.NextSeries.{found_at, not_found, series_declared, stands_alone}
use Rattle.vx_book.proofs.book.Book.list_alone.Goals as goal

pub unreachable-requires : goal.unreachable-requires
unreachable-requires c =
    let old = c.args.self.now in
    let declared : list_any (is_same_expiry c.expiry_of.result) old.expiries.items ≡ true =
    ap (λ x. list_any (is_same_expiry x) old.expiries.items) c.expiry_of.ensures ∙ series_declared old c.args.symbol.now c.requires.may in
    not_found c.expiry_of.result c.deref.result.now old.expiries.items c.place_of.result c.place_of.ensures c.deref.ensures.value c.in_default.is declared

pub returns-clause-taken : goal.returns-clause-taken
returns-clause-taken c =
    let old = c.args.self.now in
    let s = c.args.symbol.now in
    let i = c.in-Some.expiry in
    let at : slice_get old.expiries.items i ≡ Some (expiry_of s) =
    found_at c.expiry_of.result c.deref.result.now old.expiries.items c.place_of.result i c.place_of.ensures c.deref.ensures.value c.in-Some.is ∙ ap Some c.expiry_of.ensures in
    on_ok_weaker c.set.result (λ sets. stands_alone old (record old { series = c.set.new.series }) s i c.requires.may at c.requires.alone refl sets) c.set.ensures.done
