use Rattle.std.proofs.Common.{◌≡◌, ℕ, ◌+◌, ◌-◌, ◌*◌, ◌<◌, ◌<ℤ◌, length, get_or, arith, to_z-of_z}
use Rattle.vx_forward.specs.Level.{in_units}
use Rattle.vx_forward.proofs.PairOrder.{some_row}
use Rattle.vx_forward.proofs.Places.{strike_at, split_given, most_given, past_given, lowest_between, none_between, none_at_most, level_row, has_one_above, has_none_above}
use Rattle.vx_forward.proofs.level.k0_between.Goals as goal
use Rattle.vx_forward.proofs.level.k0_between.Goals.{else-above-rows-via-then-above-rows+else-is_at_most, else-above-rows-via-else-above-rows, else-above-rows-2-via-then-above-rows-2+else-rows-above, else-above-rows-2-via-else-above-rows-2}

pub returns-then-is_at_most : goal.returns-then-is_at_most
returns-then-is_at_most c =
    let split = split_given c.args.rows.now c.args.lo _ c.first_above-above.result (to_z-of_z c.ranges.lo) c.first_above-above.ensures.split in (
      lowest_between c.args.rows.now c.requires.rising c.args.lo c.first_above-above.result split c.args.hi c.if-above-rows.true
          (most_given (strike_at c.args.rows.now c.first_above-above.result) c.args.hi _ c.is_at_most.result (to_z-of_z c.ranges.hi) c.is_at_most.ensures c.if-is_at_most.true),
      to_z-of_z c.ranges.lo,
      to_z-of_z c.ranges.hi,
    )

pub returns-then-above-eq0 : goal.returns-then-above-eq0
returns-then-above-eq0 c =
    let split = split_given c.args.rows.now c.args.lo _ c.first_above-above.result (to_z-of_z c.ranges.lo) c.first_above-above.ensures.split in
    let past : c.first_above-above.result < length c.args.rows.now → c.args.hi <ℤ in_units (strike_at c.args.rows.now c.first_above-above.result) =
    elim c.else-above-rows.branch [
      | else-above-rows-via-then-above-rows+else-is_at_most w ↦ λ there. past_given (strike_at c.args.rows.now c.first_above-above.result) c.args.hi _ w.is_at_most.result (to_z-of_z c.ranges.hi) w.is_at_most.ensures w.if-is_at_most.false
      | else-above-rows-via-else-above-rows w ↦ λ there. absurd (omega arith)
    ] in (
      none_between c.args.rows.now c.requires.rising c.args.lo c.first_above-above.result split c.args.hi past,
      none_at_most c.args.rows.now c.requires.rising c.args.lo c.first_above-above.result split c.if-above-eq0.true,
    )

pub returns-then-rows-above : goal.returns-then-rows-above
returns-then-rows-above c =
    let split = split_given c.args.rows.now c.args.lo _ c.first_above-above.result (to_z-of_z c.ranges.lo) c.first_above-above.ensures.split in
    let past : c.first_above-above.result < length c.args.rows.now → c.args.hi <ℤ in_units (strike_at c.args.rows.now c.first_above-above.result) =
    elim c.else-above-rows.branch [
      | else-above-rows-via-then-above-rows+else-is_at_most w ↦ λ there. past_given (strike_at c.args.rows.now c.first_above-above.result) c.args.hi _ w.is_at_most.result (to_z-of_z c.ranges.hi) w.is_at_most.ensures w.if-is_at_most.false
      | else-above-rows-via-else-above-rows w ↦ λ there. absurd (omega arith)
    ] in
    let level : ℕ = c.first_above-above.result - 1 in
    let next : level + 1 ≡ c.first_above-above.result = omega arith in (
      get_or c.args.rows.now level some_row,
      level_row c.args.rows.now c.requires.rising c.args.lo c.first_above-above.result split c.args.hi level next c.first_above-above.ensures.within past,
      has_one_above c.args.rows.now c.requires.rising c.args.lo c.first_above-above.result split level next c.if-above-rows-2.true c.if-rows-above.true,
    )

pub returns-else-above-rows-2 : goal.returns-else-above-rows-2
returns-else-above-rows-2 c =
    let split = split_given c.args.rows.now c.args.lo _ c.first_above-above.result (to_z-of_z c.ranges.lo) c.first_above-above.ensures.split in
    let past : c.first_above-above.result < length c.args.rows.now → c.args.hi <ℤ in_units (strike_at c.args.rows.now c.first_above-above.result) =
    elim c.else-above-rows.branch [
      | else-above-rows-via-then-above-rows+else-is_at_most w ↦ λ there. past_given (strike_at c.args.rows.now c.first_above-above.result) c.args.hi _ w.is_at_most.result (to_z-of_z c.ranges.hi) w.is_at_most.ensures w.if-is_at_most.false
      | else-above-rows-via-else-above-rows w ↦ λ there. absurd (omega arith)
    ] in
    let level : ℕ = c.first_above-above.result - 1 in
    let next : level + 1 ≡ c.first_above-above.result = omega arith in
    let more : c.first_above-above.result < length c.args.rows.now → 2 * strike_at c.args.rows.now level < strike_at c.args.rows.now c.first_above-above.result =
    elim c.else-above-rows-2.branch [
      | else-above-rows-2-via-then-above-rows-2+else-rows-above w ↦ λ there. w.if-rows-above.false
      | else-above-rows-2-via-else-above-rows-2 w ↦ λ there. absurd (omega arith)
    ] in (
      get_or c.args.rows.now level some_row,
      level_row c.args.rows.now c.requires.rising c.args.lo c.first_above-above.result split c.args.hi level next c.first_above-above.ensures.within past,
      has_none_above c.args.rows.now c.requires.rising c.args.lo c.first_above-above.result split level next c.first_above-above.ensures.within more,
    )
