use Rattle.std.proofs.Common.{◌≡◌, ◌∙◌, ap, ◌<◌, length, get_or, set, arith}
use Rattle.std.proofs.lemmas.List.{get_or_default}
use Rattle.std.proofs.lemmas.List.Edits.{map_over_more}
use Rattle.vx_book.specs.Tables.{moved_up}
use Rattle.vx_book.proofs.Places.{get_or_unmapped}
use Rattle.vx_book.proofs.table.make_room.Goals as goal

pub moved_up-requires : goal.moved_up-requires
moved_up-requires c =
    let old = c.args.places.now in
    let i = c.loop-place.place-index in
    let same = c.loop-place.auto.places in
    let within : i < length old = omega arith in
    let at : get_or c.loop-place.places i 0 ≡ get_or old i 0 = ap (λ l. get_or l i 0) c.loop-place.invariant ∙ get_or_unmapped (moved_up c.args.from) old i 0 within in
    let room = c.requires i 0 within in
    omega arith

pub loop-place-preserved : goal.loop-place-preserved
loop-place-preserved c =
    let old = c.args.places.now in
    let now = c.loop-place.places in
    let i = c.loop-place.place-index in
    let same = c.loop-place.auto.places in
    let within : i < length old = omega arith in
    ap (set now i) c.moved_up.ensures ∙ map_over_more (moved_up c.args.from) old now i (get_or now i 0) within c.loop-place.invariant (get_or_default now i 0 (get_or now i 0) (omega arith))
