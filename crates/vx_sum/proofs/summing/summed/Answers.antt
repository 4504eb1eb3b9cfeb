use Rattle.std.proofs.Common.{◌≡◌, ◌+◌, ◌*◌, ◌^◌, ◌<◌, ◌≤◌, [], ◌∷◌, ◌++◌, length, get_or, ap, arith, rules}
use Rattle.vx_formula.specs.declared.limits.TheConstants.{STRIP_TOTAL_MAX}
use Rattle.vx_formula.specs.Strip.{upper_end}
use Rattle.vx_strip.specs.Entries.{IsRowInRange}
use Rattle.vx_sum.specs.Sums.{lower_end}
use Rattle.vx_sum.proofs.Division.{power_of_two_at_most}
use Rattle.vx_sum.proofs.RowByRow.{no_row, row_ordered, row_small, sum_by_more, ends_more, passed_more, touched_more, count_of_part}
use Rattle.vx_sum.proofs.summing.summed.Goals as goal

pub add-requires-clause-lower : goal.add-requires-clause-lower
add-requires-clause-lower g c =
    let row : IsRowInRange (get_or c.args.rows.now c.loop-row.row-index no_row) = c.requires.in_range c.loop-row.row-index no_row (omega arith) in
    let small = row_small c.args.scale (get_or c.args.rows.now c.loop-row.row-index no_row) c.requires.scale.1 row in
    let ordered = row_ordered c.args.scale (get_or c.args.rows.now c.loop-row.row-index no_row) row in
    omega (arith, c.loop-row.invariant.lower_small, c.ends_of-ends.ensures.lo, small, ordered, c.loop-row-test.true, c.requires.rows)

pub add-requires-clause-upper : goal.add-requires-clause-upper
add-requires-clause-upper g c =
    let row : IsRowInRange (get_or c.args.rows.now c.loop-row.row-index no_row) = c.requires.in_range c.loop-row.row-index no_row (omega arith) in
    let small = row_small c.args.scale (get_or c.args.rows.now c.loop-row.row-index no_row) c.requires.scale.1 row in
    omega (arith, c.loop-row.invariant.upper_small, c.ends_of-ends.ensures.hi, small, c.loop-row-test.true, c.requires.rows)

pub add-requires-clause-ordered : goal.add-requires-clause-ordered
add-requires-clause-ordered g c =
    let row : IsRowInRange (get_or c.args.rows.now c.loop-row.row-index no_row) = c.requires.in_range c.loop-row.row-index no_row (omega arith) in
    let ordered = row_ordered c.args.scale (get_or c.args.rows.now c.loop-row.row-index no_row) row in
    omega (arith, c.ends_of-ends.ensures.lo, c.ends_of-ends.ensures.hi, ordered)

pub add-requires-clause-limit : goal.add-requires-clause-limit
add-requires-clause-limit g c =
    let small = power_of_two_at_most c.args.scale c.units.result c.requires.scale.1 c.units.ensures in
    let two : c.from.result ≡ 2 = search rules in
    let limit : c.from.result * c.units.result ≡ 2 * c.units.result = ap (λ n. n * c.units.result) two in
    omega (arith, small, limit)

pub returns-in_err-add-clause-most : goal.returns-in_err-add-clause-most
returns-in_err-add-clause-most g c = λ kept_rises rows_rise.
    let passed = c.loop-row.invariant.passed rows_rise in
    let so_far = touched_more c.args.kept.now c.args.rows.now c.loop-row.place c.first_from-place.result c.loop-row.row-index c.args.steps.now c.loop-row.steps c.ends_of-ends.new.steps (omega arith) kept_rises passed c.first_from-place.ensures.first (c.loop-row.invariant.counted kept_rises rows_rise) c.ends_of-ends.ensures.step in
    let part = count_of_part c.args.kept.now c.args.rows.now (c.loop-row.row-index + 1) in
    omega (arith, so_far, part)

pub loop-row-preserved : goal.loop-row-preserved
loop-row-preserved g c =
    let low : c.loop-row.row-index < length c.args.rows.now = omega arith in
    let row : IsRowInRange (get_or c.args.rows.now c.loop-row.row-index no_row) = c.requires.in_range c.loop-row.row-index no_row low in
    let small = row_small c.args.scale (get_or c.args.rows.now c.loop-row.row-index no_row) c.requires.scale.1 row in
    let ordered = row_ordered c.args.scale (get_or c.args.rows.now c.loop-row.row-index no_row) row in
    let lower : c.add.new.self.lower ≡ c.loop-row.totals.lower + c.ends_of-ends.result.lo = search rules in
    let upper : c.add.new.self.upper ≡ c.loop-row.totals.upper + c.ends_of-ends.result.hi = search rules in
    let pushed : (c.add.new.self.upper ≤ c.from.result * c.units.result → c.add.new.self.rows ≡ c.loop-row.totals.rows ++ record { lo = c.ends_of-ends.result.lo; hi = c.ends_of-ends.result.hi } ∷ []) = search rules in
    let limit : c.from.result * c.units.result ≡ STRIP_TOTAL_MAX * 2 ^ c.args.scale = search rules in
    record {
      within = c.first_from-place.ensures.within;
      lower = sum_by_more (lower_end c.args.scale) c.args.rows.now c.loop-row.row-index c.loop-row.totals.lower c.add.new.self.lower c.ends_of-ends.result.lo low c.loop-row.invariant.lower lower c.ends_of-ends.ensures.lo;
      upper = sum_by_more (upper_end c.args.scale) c.args.rows.now c.loop-row.row-index c.loop-row.totals.upper c.add.new.self.upper c.ends_of-ends.result.hi low c.loop-row.invariant.upper upper c.ends_of-ends.ensures.hi;
      lower_small = omega (arith, lower, c.loop-row.invariant.lower_small, c.ends_of-ends.ensures.lo, small, ordered);
      upper_small = omega (arith, upper, c.loop-row.invariant.upper_small, c.ends_of-ends.ensures.hi, small);
      ends = λ fits. ends_more c.args.scale (STRIP_TOTAL_MAX * 2 ^ c.args.scale) c.args.rows.now c.loop-row.row-index c.ends_of-ends.result.lo c.ends_of-ends.result.hi c.loop-row.totals.upper c.add.new.self.upper c.loop-row.totals.rows c.add.new.self.rows low c.loop-row.invariant.ends (λ h. pushed (omega (arith, limit, h))) upper c.ends_of-ends.ensures.lo c.ends_of-ends.ensures.hi fits;
      passed = λ rise. passed_more c.args.kept.now c.args.rows.now c.loop-row.place c.first_from-place.result c.loop-row.row-index low rise (c.loop-row.invariant.passed rise) c.first_from-place.ensures.first;
      counted = λ kept_rises rows_rise. touched_more c.args.kept.now c.args.rows.now c.loop-row.place c.first_from-place.result c.loop-row.row-index c.args.steps.now c.loop-row.steps c.ends_of-ends.new.steps low kept_rises (c.loop-row.invariant.passed rows_rise) c.first_from-place.ensures.first (c.loop-row.invariant.counted kept_rises rows_rise) c.ends_of-ends.ensures.step;
      least = search rules;
      most = search rules;
    }
