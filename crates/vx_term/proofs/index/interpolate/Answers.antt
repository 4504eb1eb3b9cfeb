use Rattle.std.proofs.Common.{◌∙◌, ◌≤◌, ◌*◌, ◌-◌, pos, ℤ, ◌-ℤ◌, ◌<ℤ◌, sym, subst, arith, rules}
use Rattle.vx_interval.specs.Ends.{IsIntervalInRange}
use Rattle.vx_interval.proofs.Ranges.{cast_is}
use Rattle.vx_term.proofs.Weights.{given, scaled_given_range, mixed_given, year_given, over_given, near_scaled_range, next_scaled_range, mixed_range, year_range, square_range, square_encloses, den_positive}
use Rattle.vx_term.proofs.Widths.{interpolated_narrow}
use Rattle.vx_term.proofs.index.interpolate.Goals as goal

pub scale-near-requires : goal.scale-near-requires
scale-near-requires g c =
    let more : 7 ≤ c.args.days = c.requires.days.0 in
    let ahead : 10080 ≤ 1440 * c.args.days = omega arith in
    let near = given c.minutes_from.result (pos c.args.n2 -ℤ pos (1440 * c.args.days)) c.minutes_from.type_inv c.minutes_from.ensures in
    (search rules, scaled_given_range c.args.w1.now _ _ near (near_scaled_range g.row.P c.args.w1.now c.args.w2.now c.args.n1 c.args.n2 (1440 * c.args.days) c.requires.rising c.requires.next_minutes.1 ahead c.requires.weights c.requires.near_range c.requires.next_range c.requires.near_interval.scale))

pub scale-next-requires : goal.scale-next-requires
scale-next-requires g c =
    let more : 7 ≤ c.args.days = c.requires.days.0 in
    let ahead : 10080 ≤ 1440 * c.args.days = omega arith in
    let next = given c.minutes_from-2.result (pos (1440 * c.args.days) -ℤ pos c.args.n1) c.minutes_from-2.type_inv c.minutes_from-2.ensures in
    (search rules, scaled_given_range c.args.w2.now _ _ next (next_scaled_range g.row.P c.args.w1.now c.args.w2.now c.args.n1 c.args.n2 (1440 * c.args.days) c.requires.rising c.requires.next_minutes.1 ahead c.requires.weights c.requires.near_range c.requires.next_range c.requires.near_interval.scale))

pub add-requires : goal.add-requires
add-requires g c =
    let more : 7 ≤ c.args.days = c.requires.days.0 in
    let ahead : 10080 ≤ 1440 * c.args.days = omega arith in
    let near = given c.minutes_from.result (pos c.args.n2 -ℤ pos (1440 * c.args.days)) c.minutes_from.type_inv c.minutes_from.ensures in
    let next = given c.minutes_from-2.result (pos (1440 * c.args.days) -ℤ pos c.args.n1) c.minutes_from-2.type_inv c.minutes_from-2.ensures in
    let mix = mixed_given c.scale-near.result c.scale-next.result c.args.w1.now c.args.w2.now _ _ _ _ c.scale-near.ensures.ends near c.scale-next.ensures.ends next in
    (search rules, subst IsIntervalInRange (sym mix) (mixed_range g.row.P c.args.w1.now c.args.w2.now c.args.n1 c.args.n2 (1440 * c.args.days) c.requires.rising c.requires.next_minutes.1 ahead c.requires.weights c.requires.near_range c.requires.next_range c.requires.near_interval.scale))

pub scale-year-requires : goal.scale-year-requires
scale-year-requires g c =
    let more : 7 ≤ c.args.days = c.requires.days.0 in
    let ahead : 10080 ≤ 1440 * c.args.days = omega arith in
    let near = given c.minutes_from.result (pos c.args.n2 -ℤ pos (1440 * c.args.days)) c.minutes_from.type_inv c.minutes_from.ensures in
    let next = given c.minutes_from-2.result (pos (1440 * c.args.days) -ℤ pos c.args.n1) c.minutes_from-2.type_inv c.minutes_from-2.ensures in
    let mix = mixed_given c.scale-near.result c.scale-next.result c.args.w1.now c.args.w2.now _ _ _ _ c.scale-near.ensures.ends near c.scale-next.ensures.ends next in
    let year = given c.year_minutes.result (pos 525600) c.year_minutes.type_inv c.year_minutes.ensures in
    let whole_year = year_given c.add.result _ _ (c.add.ensures.ends ∙ mix) year in
    (search rules, subst IsIntervalInRange (sym whole_year) (year_range g.row.P c.args.w1.now c.args.w2.now c.args.n1 c.args.n2 (1440 * c.args.days) c.requires.rising c.requires.next_minutes.1 ahead c.requires.weights c.requires.near_range c.requires.next_range c.requires.near_interval.scale))

pub over-requires : goal.over-requires
over-requires g c =
    let more : 7 ≤ c.args.days = c.requires.days.0 in
    let ahead : 10080 ≤ 1440 * c.args.days = omega arith in
    let by = cast_is c.divisor.result (pos (1440 * c.args.days * (c.args.n2 - c.args.n1))) c.divisor.type_inv c.divisor.ensures in
    (search rules, subst (λ (z : ℤ). pos 0 <ℤ z) (sym by) (den_positive g.row.P c.args.w1.now c.args.w2.now c.args.n1 c.args.n2 (1440 * c.args.days) c.requires.rising c.requires.next_minutes.1 ahead c.requires.weights))

pub returns-clause-ends : goal.returns-clause-ends
returns-clause-ends g c =
    let near = given c.minutes_from.result (pos c.args.n2 -ℤ pos (1440 * c.args.days)) c.minutes_from.type_inv c.minutes_from.ensures in
    let next = given c.minutes_from-2.result (pos (1440 * c.args.days) -ℤ pos c.args.n1) c.minutes_from-2.type_inv c.minutes_from-2.ensures in
    let mix = mixed_given c.scale-near.result c.scale-next.result c.args.w1.now c.args.w2.now _ _ _ _ c.scale-near.ensures.ends near c.scale-next.ensures.ends next in
    let year = given c.year_minutes.result (pos 525600) c.year_minutes.type_inv c.year_minutes.ensures in
    let whole_year = year_given c.add.result _ _ (c.add.ensures.ends ∙ mix) year in
    let by = cast_is c.divisor.result (pos (1440 * c.args.days * (c.args.n2 - c.args.n1))) c.divisor.type_inv c.divisor.ensures in
    c.over.ensures.ends ∙ over_given c.scale-year.result _ _ _ (c.scale-year.ensures.ends ∙ whole_year) by

pub returns-clause-encloses : goal.returns-clause-encloses
returns-clause-encloses g c =
    let more : 7 ≤ c.args.days = c.requires.days.0 in
    let ahead : 10080 ≤ 1440 * c.args.days = omega arith in
    rw (returns-clause-ends g c) (λ near next m n. square_encloses g.row.P c.args.w1.now c.args.w2.now c.args.n1 c.args.n2 (1440 * c.args.days) c.requires.rising c.requires.next_minutes.1 ahead c.requires.weights near next m n)

pub returns-clause-in_range : goal.returns-clause-in_range
returns-clause-in_range g c =
    let more : 7 ≤ c.args.days = c.requires.days.0 in
    let ahead : 10080 ≤ 1440 * c.args.days = omega arith in
    rw (returns-clause-ends g c) (square_range g.row.P c.args.w1.now c.args.w2.now c.args.n1 c.args.n2 (1440 * c.args.days) c.requires.rising c.requires.next_minutes.1 ahead c.requires.weights c.requires.near_range c.requires.next_range c.requires.near_interval.ordered c.requires.next_interval.ordered)

pub returns-clause-narrow : goal.returns-clause-narrow
returns-clause-narrow g c =
    let more : 7 ≤ c.args.days = c.requires.days.0 in
    let ahead : 10080 ≤ 1440 * c.args.days = omega arith in
    rw (returns-clause-ends g c) (λ near next. interpolated_narrow c.args.w1.now c.args.w2.now c.args.n1 c.args.n2 (1440 * c.args.days) c.requires.rising ahead c.requires.weights near next)
