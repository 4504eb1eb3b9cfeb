use Rattle.std.proofs.Common.{◌∙◌, ap}
use Rattle.std.proofs.lemmas.List.{get_or_default}
use Rattle.std.proofs.lemmas.Bool.{iff_false}
use Rattle.vx_check.specs.Tables.{row_strike}
use Rattle.vx_check.proofs.Rising.{stands_where_rises, fits_at_first, key_at_from, key_at_is_within}
use Rattle.vx_check.proofs.table.place_of_row.Goals as goal

pub returns-then-has_strike-clause-within : goal.returns-then-has_strike-clause-within
returns-then-has_strike-clause-within c =
    key_at_is_within row_strike c.args.strike c.first_row_from-place.result c.args.rows.now (c.has_strike.ensures.0 c.if-has_strike.true)

pub returns-then-has_strike-clause-place : goal.returns-then-has_strike-clause-place
returns-then-has_strike-clause-place c = λ rises.
    stands_where_rises row_strike c.args.strike c.first_row_from-place.result 0 c.args.rows.now rises (c.has_strike.ensures.0 c.if-has_strike.true)

pub returns-else-has_strike-clause-place : goal.returns-else-has_strike-clause-place
returns-else-has_strike-clause-place c = λ rises.
    let place = c.first_row_from-place.result in
    let rows = c.args.rows.now in
    fits_at_first row_strike c.args.strike place rows c.first_row_from-place.ensures.within (c.first_row_from-place.ensures.first rises)
    (λ d within e. iff_false c.has_strike.ensures c.if-has_strike.false
    (key_at_from row_strike c.args.strike place rows within (λ other. ap row_strike (get_or_default rows place other d within) ∙ e)))
