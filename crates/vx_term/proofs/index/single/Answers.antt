use Rattle.std.proofs.Common.{◌∙◌, pos, rules}
use Rattle.vx_interval.proofs.Ranges.{cast_is}
use Rattle.vx_term.proofs.Weights.{given, scaled_given_range, single_given, single_scaled_range, single_range, single_encloses}
use Rattle.vx_term.proofs.Widths.{single_narrow}
use Rattle.vx_term.proofs.index.single.Goals as goal

pub scale-year-requires : goal.scale-year-requires
scale-year-requires g c =
    let year = given c.year_minutes.result (pos 525600) c.year_minutes.type_inv c.year_minutes.ensures in
    (search rules, scaled_given_range c.args.w.now (pos 525600) _ year (single_scaled_range g.row.P c.args.w.now c.requires.interval.scale c.requires.range))

pub returns-clause-ends : goal.returns-clause-ends
returns-clause-ends g c =
    let year = given c.year_minutes.result (pos 525600) c.year_minutes.type_inv c.year_minutes.ensures in
    let days = cast_is c.thirty_days.result (pos 43200) c.thirty_days.type_inv c.thirty_days.ensures in
    c.over.ensures.ends ∙ single_given c.scale-year.result c.args.w.now _ _ c.scale-year.ensures.ends year days

pub returns-clause-encloses : goal.returns-clause-encloses
returns-clause-encloses g c = rw (returns-clause-ends g c) (λ f m. single_encloses g.row.P c.args.w.now f m)

pub returns-clause-in_range : goal.returns-clause-in_range
returns-clause-in_range g c = rw (returns-clause-ends g c) (single_range g.row.P c.args.w.now c.requires.interval.ordered c.requires.range)

pub returns-clause-narrow : goal.returns-clause-narrow
returns-clause-narrow g c = rw (returns-clause-ends g c) (λ narrow. single_narrow c.args.w.now narrow)
