use Rattle.std.proofs.Common.{◌≡◌, ◌∙◌, ◌++◌, ◌∷◌, [], map, List, length, ap, subst, sym, refl, arith}
use Rattle.std.specs.List.{insert}
use Rattle.vx_symbol.specs.declared.rows.StrikeRow.{StrikeRow}
use Rattle.vx_book.specs.Tables.{IsPlaceFor, moved_up}
use Rattle.vx_feed.proofs.KeptLemmas.{written_back}
use Rattle.vx_book.proofs.Rows.{adds_row, with_place}
use Rattle.vx_book.proofs.table.Table.add_row.Goals as goal

pub returns-clause-added : goal.returns-clause-added
returns-clause-added c =
    let old = c.args.self.now in
    let at = c.place_for-place.result in
    let reserved = c.reserve.new.self in
    let rows : c.insert.new.self.items ≡ insert old.rows.items at c.args.row = c.in_ok-insert.ensures.items in
    let same : length c.make_room.new.places ≡ length reserved.items = c.make_room.auto.places ∙ ap length c.deref_mut.ensures.value in
    let fits : length reserved.items ≡ reserved.len = omega (arith, reserved.ok.0) in
    let places : c.push.new.self.items ≡ with_place at old.places.items =
    c.in_ok-push.ensures.items ∙ ap (λ l. l ++ at ∷ []) (written_back reserved.len c.make_room.new.places reserved.items fits same)
    ∙ ap (λ l. l ++ at ∷ []) (c.make_room.ensures ∙ ap (map (moved_up at)) (c.deref_mut.ensures.value ∙ c.reserve.ensures.items)) in
    let Place : List StrikeRow → Type 0 = λ l. IsPlaceFor c.args.row.strike l at in
    adds_row c.args.row old _ at c.len-number.result (subst Place c.deref.ensures.value c.place_for-place.ensures) c.requires.placed refl rows places
    (c.len-number.ensures ∙ sym fits ∙ ap length c.reserve.ensures.items)
