use Rattle.std.proofs.Common.{◌∙◌, ap, arith}
use Rattle.std.proofs.lemmas.Bool.{eqb-true, eq-eqb, ltb-true, lt-ltb}
use Rattle.std.proofs.lemmas.List.{get_or_default}
use Rattle.vx_check.specs.Tables.{row_strike}
use Rattle.vx_check.proofs.Rising.{key_at_from, key_at_is, key_at_is_within}
use Rattle.vx_check.proofs.table.has_strike.Goals as goal

pub returns-then-place-rows : goal.returns-then-place-rows
returns-then-place-rows c =
    let rows = c.args.rows.now in
    let place = c.args.place in
    let within = c.if-place-rows.true in (
      λ same. key_at_from row_strike c.args.strike place rows within
          (λ d. ap row_strike (get_or_default rows place d _ within) ∙ eqb-true _ c.args.strike same),
      λ has. eq-eqb _ c.args.strike (key_at_is row_strike c.args.strike place rows _ has),
    )

pub returns-else-place-rows : goal.returns-else-place-rows
returns-else-place-rows c =
    let rows = c.args.rows.now in
    let place = c.args.place in
    let past = c.if-place-rows.false in (
      λ less. let within = ltb-true place _ less in absurd (omega arith),
      λ has. lt-ltb place _ (key_at_is_within row_strike c.args.strike place rows has),
    )
