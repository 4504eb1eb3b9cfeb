use Rattle.std.proofs.Common.{◌≡◌, pos, ◌*ℤ◌, to_z, of_z, to_z-of_z, sym, ◌∙◌, ap, arith}
use Rattle.std.specs.Int.{w128}
use Rattle.std.proofs.lemmas.Int.{ints}
use Rattle.vx_num.proofs.Whole.{mul_comm, mul_assoc}
use Rattle.vx_tests.proofs.forward.forward_end.Goals as goal

pub returns : goal.returns
returns c =
    let y = c.args.y in
    let d = c.args.pair.d in
    let a : to_z w128 (of_z w128 y) ≡ y = to_z-of_z c.ranges.y in
    let b : to_z w128 (of_z w128 c.from.result) ≡ d = omega (arith, ints) in
    let value : c.times_small.result ≡ y *ℤ d = cc (a, b, c.times_small.ensures.value) in
    let order : pos 5 *ℤ (y *ℤ d) ≡ (pos 5 *ℤ d) *ℤ y = ap (λ z. pos 5 *ℤ z) (mul_comm y d) ∙ sym (mul_assoc (pos 5) d y) in
    omega (arith, ints, value, order, c.strike_end-strike.ensures.value)
