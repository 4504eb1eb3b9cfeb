use Rattle.std.proofs.Common.{◌∙◌, ◌≤◌, pos, arith}
use Rattle.vx_interval.proofs.Ranges.{cast_is}
use Rattle.vx_term.proofs.Weights.{given}
use Rattle.vx_term.proofs.Variances.{excess_range, excess_encloses, excess_given}
use Rattle.vx_term.proofs.run.excess_of.Goals as goal

pub returns-clause-ends : goal.returns-clause-ends
returns-clause-ends g c =
    let level = given c.from.result (pos c.args.k0) c.from.type_inv c.from.ensures in
    let by = cast_is c.from-2.result (pos c.args.k0) c.from-2.type_inv c.from-2.ensures in
    c.over.ensures.ends ∙ excess_given g.row.P c.args.k0 c.args.f.now c.exact-level.result c.sub.result _ _ c.exact-level.ensures.ends level c.sub.ensures.ends by

pub returns-clause-encloses : goal.returns-clause-encloses
returns-clause-encloses g c =
    let least : 100000 ≤ c.args.k0 = c.requires.level.0 in
    rw (returns-clause-ends g c) (λ x m. excess_encloses g.row.P c.args.k0 c.args.f.now x (omega arith) m)

pub returns-clause-in_range : goal.returns-clause-in_range
returns-clause-in_range g c =
    let least : 100000 ≤ c.args.k0 = c.requires.level.0 in
    rw (returns-clause-ends g c) (excess_range g.row.P c.args.k0 c.args.f.now c.requires.at_least c.requires.interval.ordered c.requires.at_most_twice (omega arith))
