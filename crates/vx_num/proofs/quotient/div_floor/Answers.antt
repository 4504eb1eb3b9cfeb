-- The quotient whose remainder is not negative is the floor.
use Rattle.std.proofs.Common.{rules, FitsSigned}
use Rattle.std.specs.Int.{w128}
use Rattle.std.proofs.lemmas.Int.{to_z-of_z}
use Rattle.vx_num.proofs.Quotients.{floor_is}
use Rattle.vx_num.proofs.quotient.div_floor.Goals as goal

pub returns : goal.returns
returns c =
    let a_fits : FitsSigned w128 c.args.a = c.ranges.a in
    let b_fits : FitsSigned w128 c.args.b = c.ranges.b in
    let fits : FitsSigned w128 c.div_euclid.result = search rules in
    let is = simp to_z-of_z at c.div_euclid.ensures in
    simp to_z-of_z (rw is (floor_is c.args.a c.args.b c.requires))
