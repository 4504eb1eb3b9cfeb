use Rattle.std.proofs.Common.{◌≡◌, ◌^◌, pos, to_z, of_z, to_z-of_z, arith}
use Rattle.std.specs.Int.{w128}
use Rattle.std.proofs.lemmas.Int.{ints}
use Rattle.vx_tests.proofs.Products.{end_square, scaled_square_fits}
use Rattle.vx_tests.proofs.figure.square_of.Goals as goal

pub overflow_mul-result-2 : goal.overflow_mul-result-2
overflow_mul-result-2 c =
    let most = c.units.ensures.most in
    let end : to_z w128 (of_z w128 c.from-end.result) ≡ c.args.end = omega (arith, ints) in
    let one : to_z w128 (of_z w128 c.units.result) ≡ pos (2 ^ c.args.scale) = omega (arith, ints, c.units.ensures.value, most) in
    rw (end, one, end_square c.args.end c.requires.least c.requires.most) (scaled_square_fits c.args.end c.requires.least c.requires.most c.args.scale c.requires.scale)

pub returns : goal.returns
returns c =
    let most = c.units.ensures.most in
    let end : to_z w128 (of_z w128 c.from-end.result) ≡ c.args.end = omega (arith, ints) in
    let one : to_z w128 (of_z w128 c.units.result) ≡ pos (2 ^ c.args.scale) = omega (arith, ints, c.units.ensures.value, most) in
    rw (end, one, end_square c.args.end c.requires.least c.requires.most)
    (to_z-of_z (scaled_square_fits c.args.end c.requires.least c.requires.most c.args.scale c.requires.scale))
