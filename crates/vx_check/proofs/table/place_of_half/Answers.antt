use Rattle.std.proofs.Common.{◌∙◌, ap, arith}
use Rattle.std.proofs.lemmas.List.{get_or_default}
use Rattle.vx_check.specs.Tables.{half_strike}
use Rattle.vx_check.proofs.Rising.{stands_at_first, fits_at_first}
use Rattle.vx_check.proofs.table.place_of_half.Goals as goal
use Rattle.vx_check.proofs.table.place_of_half.Goals.{else-place-halves-via-then-place-halves+else-halves-place, else-place-halves-via-else-place-halves}

pub returns-then-halves-place-clause-place : goal.returns-then-halves-place-clause-place
returns-then-halves-place-clause-place c = λ rises.
    let place = c.first_half_from-place.result in
    stands_at_first half_strike c.args.strike place c.args.halves.now c.if-place-halves.true (c.first_half_from-place.ensures.first rises)
    (λ d. ap half_strike (get_or_default c.args.halves.now place d _ c.if-place-halves.true) ∙ c.if-halves-place.true)

pub returns-else-place-halves-clause-place : goal.returns-else-place-halves-clause-place
returns-else-place-halves-clause-place c = λ rises.
    let place = c.first_half_from-place.result in
    fits_at_first half_strike c.args.strike place c.args.halves.now c.first_half_from-place.ensures.within (c.first_half_from-place.ensures.first rises)
    (λ d within e.
    elim c.else-place-halves.branch [
      | else-place-halves-via-then-place-halves+else-halves-place w ↦ w.if-halves-place.false (ap half_strike (get_or_default c.args.halves.now place _ d within) ∙ e)
      | else-place-halves-via-else-place-halves w ↦ (let past = w.if-place-halves.false in absurd (omega arith))
    ])
