use Rattle.std.proofs.Common.{◌≡◌, ◌∙◌, sym, length, arith, rules}
use Rattle.std.proofs.lemmas.Bool.{false≢true}
use Rattle.vx_clock.proofs.Best.{skipped, best_kept, best_first, best_replaced}
use Rattle.vx_forward.proofs.PairOrder.{IsBothLive, IsTakenBefore, some_row, taken_reflexive, taken_transitive, found_closest, found_none}
use Rattle.vx_forward.proofs.pairs.closest_place.Goals as goal
use Rattle.vx_forward.proofs.pairs.closest_place.Goals.{then-is_both_live+in-Some, then-is_both_live+in_default-2, then-is_both_live+in_default, else-is_both_live}

pub loop-place-preserved : goal.loop-place-preserved
loop-place-preserved c =
    elim c.if-is_both_live.branch [
      | then-is_both_live+in-Some w ↦ rw w.best-is (best_kept IsBothLive IsTakenBefore some_row c.args.rows.now c.loop-place.place w.in-Some.other (rw w.in-Some.is at c.loop-place.invariant) w.if-is_as_close.ensures)
      | then-is_both_live+in_default-2 w ↦ rw w.best-is (best_replaced IsBothLive IsTakenBefore some_row c.args.rows.now c.loop-place.place taken_reflexive taken_transitive w.in-Some.other (rw w.in-Some.is at c.loop-place.invariant) (omega arith) (sym w.if-is_both_live.ensures ∙ search rules) w.if-is_as_close.ensures)
      | then-is_both_live+in_default w ↦ rw w.best-is (best_first IsBothLive IsTakenBefore some_row c.args.rows.now c.loop-place.place taken_reflexive (rw w.in_default.is at c.loop-place.invariant) (omega arith) (search rules))
      | else-is_both_live w ↦ rw w.best-is (skipped IsBothLive IsTakenBefore some_row c.args.rows.now c.loop-place.place c.loop-place.best c.loop-place.invariant (λ is. false≢true (search rules)))
    ]

pub returns-clause-found : goal.returns-clause-found
returns-clause-found c =
    let all : c.loop-place.place ≡ length c.args.rows.now = omega arith in
    found_closest c.args.rows.now c.loop-place.best (rw all at c.loop-place.invariant)

pub returns-clause-none : goal.returns-clause-none
returns-clause-none c =
    let all : c.loop-place.place ≡ length c.args.rows.now = omega arith in
    found_none c.args.rows.now c.loop-place.best (rw all at c.loop-place.invariant)
