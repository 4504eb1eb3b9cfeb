use Rattle.std.proofs.Common.{arith}
use Rattle.std.proofs.lemmas.Int.{ints}
use Rattle.vx_num.proofs.Decimals.{power_below, power_at_most}
use Rattle.vx_tests.proofs.scale.power.Goals as goal

pub overflow_cast-result-2 : goal.overflow_cast-result-2
overflow_cast-result-2 c =
    let below = power_below c.args.bits c.requires in
    let most = power_at_most c.args.bits c.requires in
    omega arith

pub returns : goal.returns
returns c =
    let below = power_below c.args.bits c.requires in
    let most = power_at_most c.args.bits c.requires in
    omega (arith, ints)
