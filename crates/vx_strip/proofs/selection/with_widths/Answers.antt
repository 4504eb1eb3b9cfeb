use Rattle.std.proofs.Common.{◌≡◌, ◌+◌, ◌<◌, ◌≤◌, drop, length, get_or, None, arith}
use Rattle.std.proofs.lemmas.List.Elements.{All-drop}
use Rattle.vx_symbol.specs.declared.limits.TheConstants.{STRIKE_MAX}
use Rattle.vx_formula.specs.Strip.{doubled_width, first_strike, entries_after}
use Rattle.vx_formula.proofs.Walks.{no_row}
use Rattle.vx_strip.proofs.Widths.{rows_behind_are_above, head_above, first_of_all, strikes_at_most, one_pushed}
use Rattle.vx_strip.proofs.selection.with_widths.Goals as goal

pub doubled_width-requires-clause-after : goal.doubled_width-requires-clause-after
doubled_width-requires-clause-after c =
    head_above c.args.selected.now c.loop-place.place c.loop-place.below (omega arith) c.loop-place.invariant.before

pub doubled_width-requires-clause-before : goal.doubled_width-requires-clause-before
doubled_width-requires-clause-before c =
    rw c.strike_behind-above.ensures (first_of_all (λ other. (get_or c.args.selected.now c.loop-place.place no_row).strike < other) (drop (c.loop-place.place + 1) c.args.selected.now) (rows_behind_are_above c.args.selected.now c.loop-place.place c.requires.rising (omega arith)))

pub doubled_width-requires-clause-above_max : goal.doubled_width-requires-clause-above_max
doubled_width-requires-clause-above_max c =
    rw c.strike_behind-above.ensures (first_of_all (λ other. other ≤ STRIKE_MAX) (drop (c.loop-place.place + 1) c.args.selected.now) (All-drop (λ row. row.strike ≤ STRIKE_MAX) (c.loop-place.place + 1) c.args.selected.now (strikes_at_most c.args.selected.now c.requires.lawful)))

pub loop-place-preserved : goal.loop-place-preserved
loop-place-preserved c =
    let there : c.loop-place.place < length c.args.selected.now = omega arith in
    let d_is : c.doubled_width.result ≡ doubled_width c.loop-place.below (get_or c.args.selected.now c.loop-place.place no_row).strike (first_strike (drop (c.loop-place.place + 1) c.args.selected.now)) = cc (c.doubled_width.ensures, c.strike_behind-above.ensures) in
    record {
      made = one_pushed c.args.level c.loop-place.below c.args.selected.now c.loop-place.place c.loop-place.rows c.push.new.self c.doubled_width.result c.strip_price.result (entries_after c.args.level None c.args.selected.now) there c.loop-place.invariant.made c.in_ok-push.ensures.ok d_is c.strip_price.ensures;
      before = rows_behind_are_above c.args.selected.now c.loop-place.place c.requires.rising there;
    }
