use Rattle.std.proofs.Common.{◌-◌, ◌^◌, ◌≤◌, arith}
use Rattle.std.proofs.lemmas.Int.{ints}
use Rattle.std.proofs.Math.Nat.{pow-le-pow_right}
use Rattle.vx_tests.proofs.sums.quarter.Goals as goal

pub returns-clause-most : goal.returns-clause-most
returns-clause-most c =
    let high = c.requires.high in
    let less : c.args.scale - 2 ≤ 60 = omega arith in
    let most : 2 ^ (c.args.scale - 2) ≤ 2 ^ 60 = pow-le-pow_right (omega arith) less in
    omega (arith, ints)
