use Rattle.std.proofs.Common.{◌≡◌, ◌^◌, pos, to_z, of_z, to_z-of_z, arith}
use Rattle.std.specs.Int.{w128}
use Rattle.std.proofs.lemmas.Int.{ints}
use Rattle.vx_tests.proofs.Products.{scaled_fits}
use Rattle.vx_tests.proofs.scale.scaled.Goals as goal

pub overflow_mul-result : goal.overflow_mul-result
overflow_mul-result c =
    let most = c.units-one.ensures.most in
    let one : to_z w128 (of_z w128 c.units-one.result) ≡ pos (2 ^ c.args.scale) = omega (arith, ints, c.units-one.ensures.value, most) in
    rw (to_z-of_z c.ranges.z, one) (scaled_fits c.args.scale c.args.z c.requires.scale c.requires.number)

pub returns : goal.returns
returns c =
    let most = c.units-one.ensures.most in
    let one : to_z w128 (of_z w128 c.units-one.result) ≡ pos (2 ^ c.args.scale) = omega (arith, ints, c.units-one.ensures.value, most) in
    record { value = rw (to_z-of_z c.ranges.z, one) (to_z-of_z (scaled_fits c.args.scale c.args.z c.requires.scale c.requires.number)) }
