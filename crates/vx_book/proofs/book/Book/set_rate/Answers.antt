use Rattle.std.proofs.Common.{◌≡◌, Some, set, length, ap, refl, to_z, of_z, to_z-of_z, w32, arith}
use Rattle.std.specs.Prelude.{slice_get}
use Rattle.std.specs.Vec.{with_item}
use Rattle.std.proofs.lemmas.Option.{slice_get_read}
use Rattle.vx_book.proofs.NextBook.{stands_rated, with_rate}
use Rattle.vx_book.proofs.NextSeries.{found_at, not_found, place_within, rate_declared}
use Rattle.vx_book.proofs.book.Book.set_rate.Goals as goal

pub unreachable-requires : goal.unreachable-requires
unreachable-requires c =
    let old = c.args.self.now in
    not_found c.args.expiry c.deref.result.now old.expiries.items c.place_of.result c.place_of.ensures c.deref.ensures.value c.in_default.is (rate_declared old c.args.expiry c.args.rate c.requires)

pub index_mut-requires : goal.index_mut-requires
index_mut-requires c =
    let old = c.args.self.now in
    let x = c.args.expiry in
    let i = c.in-Some.place in
    let at : slice_get old.expiries.items i ≡ Some x = found_at x c.deref.result.now old.expiries.items c.place_of.result i c.place_of.ensures c.deref.ensures.value c.in-Some.is in
    let within = place_within old (c.requires).0 i x (c.requires).1 at in
    omega (arith, within, old.tables.ok.0)

pub returns : goal.returns
returns c =
    let old = c.args.self.now in
    let x = c.args.expiry in
    let i = c.in-Some.place in
    let table = c.index_mut.result.now in
    let rate = to_z w32 (of_z w32 c.args.rate) in
    let at : slice_get old.expiries.items i ≡ Some x = found_at x c.deref.result.now old.expiries.items c.place_of.result i c.place_of.ensures c.deref.ensures.value c.in-Some.is in
    let within = place_within old (c.requires).0 i x (c.requires).1 at in
    let there = slice_get_read old.tables.items (length old.tables.items) i table refl within c.index_mut.ensures.value in
    stands_rated old (record old { tables = with_item old.tables i (with_rate rate table) }) i x c.args.rate table c.requires at there
    (ap (λ r. set old.tables.items i (with_rate r table)) (to_z-of_z c.ranges.rate)) (λ s. refl)
