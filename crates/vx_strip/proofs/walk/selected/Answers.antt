use Rattle.std.proofs.Common.{◌≡◌, ◌<◌, length, get_or, arith, rules}
use Rattle.std.proofs.lemmas.Option.{slice_get-get_or}
use Rattle.vx_formula.specs.Selection.{is_selected}
use Rattle.vx_strip.specs.Entries.{strike_at}
use Rattle.vx_formula.proofs.Walks.{no_row, kept_row, left_row}
use Rattle.vx_strip.proofs.walk.selected.Goals as goal
use Rattle.vx_strip.proofs.walk.selected.Goals.{then-is_taken+in_ok-push, else-is_taken}

pub loop-place-preserved : goal.loop-place-preserved
loop-place-preserved c =
    let there : c.loop-place.place < length c.args.rows.now = omega arith in
    let taken : c.is_taken.result ≡ is_selected c.args.rows.now (strike_at c.args.rows.now c.args.k0) (get_or c.args.rows.now c.loop-place.place no_row) =
    c.is_taken.ensures (get_or c.args.rows.now c.loop-place.place no_row) (slice_get-get_or c.args.rows.now c.loop-place.place no_row there) in
    elim c.if-is_taken.branch [
      | then-is_taken+in_ok-push w ↦ rw w.selected-is (kept_row (is_selected c.args.rows.now (strike_at c.args.rows.now c.args.k0)) c.args.rows.now c.loop-place.selected.items _ c.loop-place.place there c.loop-place.invariant (cc (taken, w.if-is_taken.true)) (search rules))
      | else-is_taken w ↦ rw w.selected-is (left_row (is_selected c.args.rows.now (strike_at c.args.rows.now c.args.k0)) c.args.rows.now c.loop-place.selected.items c.loop-place.place there c.loop-place.invariant (cc (taken, w.if-is_taken.false)))
    ]
