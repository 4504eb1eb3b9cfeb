-- A row that has the strike is where the strike's row stands, since the rows rise.
use Rattle.std.proofs.Common.{refl}
use Rattle.vx_check.specs.Tables.{row_strike}
use Rattle.vx_check.proofs.Rising.{stands_where_rises, key_at_is_within}
use Rattle.vx_check.proofs.table.place_near.Goals as goal

pub returns-then-has_strike : goal.returns-then-has_strike
returns-then-has_strike c =
    let has = c.if-has_strike.ensures.0 refl in
    record {
      within = key_at_is_within row_strike c.args.strike c.args.last c.args.rows.now has;
      place = λ rises. stands_where_rises row_strike c.args.strike c.args.last 0 c.args.rows.now rises has;
    }

pub returns-then-has_strike-2 : goal.returns-then-has_strike-2
returns-then-has_strike-2 c =
    let place = c.saturating_add-next.result in
    let has = c.if-has_strike-2.ensures.0 refl in
    record {
      within = key_at_is_within row_strike c.args.strike place c.args.rows.now has;
      place = λ rises. stands_where_rises row_strike c.args.strike place 0 c.args.rows.now rises has;
    }

pub returns-then-has_strike-3 : goal.returns-then-has_strike-3
returns-then-has_strike-3 c =
    let place = c.saturating_sub-before.result in
    let has = c.if-has_strike-3.ensures.0 refl in
    record {
      within = key_at_is_within row_strike c.args.strike place c.args.rows.now has;
      place = λ rises. stands_where_rises row_strike c.args.strike place 0 c.args.rows.now rises has;
    }
