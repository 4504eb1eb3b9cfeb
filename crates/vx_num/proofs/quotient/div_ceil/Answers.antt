-- One above the floor of (a - 1) / b is the ceiling of a / b.
use Rattle.std.proofs.Common.{rules, FitsSigned, ◌+ℤ◌, ◌-ℤ◌, pos, arith}
use Rattle.std.specs.Int.{w128}
use Rattle.std.proofs.lemmas.Int.{to_z-of_z, ints}
use Rattle.vx_num.specs.Quotient.{IsFloor}
use Rattle.vx_num.proofs.Quotients.{floor_is, floor_at_most, ceiling_above}
use Rattle.vx_num.proofs.quotient.div_ceil.Goals as goal

pub returns-then-a-gt0 : goal.returns-then-a-gt0
returns-then-a-gt0 c =
    let a_fits : FitsSigned w128 c.args.a = c.ranges.a in
    let b_fits : FitsSigned w128 c.args.b = c.ranges.b in
    let fits : FitsSigned w128 c.div_euclid.result = search rules in
    let less_fits : FitsSigned w128 (c.args.a -ℤ pos 1) = omega (arith, ints) in
    let is = simp to_z-of_z at c.div_euclid.ensures in
    let floor : IsFloor (c.args.a -ℤ pos 1) c.args.b c.div_euclid.result = rw is (floor_is (c.args.a -ℤ pos 1) c.args.b c.requires) in
    let sum_fits : FitsSigned w128 (c.div_euclid.result +ℤ pos 1) = omega (arith, ints, floor_at_most (c.args.a -ℤ pos 1) c.args.b c.div_euclid.result (omega (arith, ints)) c.requires floor) in
    simp to_z-of_z (ceiling_above c.args.a c.args.b c.div_euclid.result floor)
