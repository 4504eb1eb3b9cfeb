use Rattle.std.proofs.Common.{◌∙◌, arith, rules, to_z-of_z}
use Rattle.std.proofs.lemmas.Int.{ints}
use Rattle.vx_interval.proofs.EndsLemmas.{same_ends}
use Rattle.vx_interval.proofs.Ranges.{rounded_ordered, rounded_is}
use Rattle.vx_interval.proofs.interval.Iv.rounded.Goals as goal

pub new-requires : goal.new-requires
new-requires g c =
    let e = rounded_is c.args.low c.args.high c.args.den _ _ _ _ _ c.requires.divisor (to_z-of_z c.ranges.low) (to_z-of_z c.ranges.high) (to_z-of_z c.ranges.den) c.div_floor.ensures c.div_ceil.ensures in
    let r = rounded_ordered c.args.low c.args.high c.args.den c.requires.divisor c.requires.ordered in
    (search rules, (search rules, (omega (arith, ints, e.0, e.1, r), record { low = omega (arith, ints, e.0, e.1); high = omega (arith, ints, e.0, e.1) })))

pub returns-clause-ends : goal.returns-clause-ends
returns-clause-ends g c =
    let e = rounded_is c.args.low c.args.high c.args.den _ _ _ _ _ c.requires.divisor (to_z-of_z c.ranges.low) (to_z-of_z c.ranges.high) (to_z-of_z c.ranges.den) c.div_floor.ensures c.div_ceil.ensures in
    c.new.ensures.ends ∙ same_ends _ _ (omega (arith, ints, e.0, e.1)) (omega (arith, ints, e.0, e.1))
