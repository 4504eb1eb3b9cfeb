use Rattle.std.proofs.Common.{◌≡◌, pos, ◌*ℤ◌, to_z, of_z, to_z-of_z, arith}
use Rattle.std.specs.Int.{w128}
use Rattle.std.proofs.lemmas.Int.{ints}
use Rattle.vx_num.proofs.Whole.{mul_assoc}
use Rattle.vx_tests.proofs.Comparisons.{power_at_scale}
use Rattle.vx_tests.proofs.variance.variance_end.Goals as goal

pub product-requires-clause-first : goal.product-requires-clause-first
product-requires-clause-first c =
    let most = power_at_scale c.args.scale c.requires.scale in
    let e = c.requires.e in
    (omega (arith, ints, e.0, e.1), omega (arith, ints, e.0, e.1))

pub product-requires-clause-second : goal.product-requires-clause-second
product-requires-clause-second c =
    let most = power_at_scale c.args.scale c.requires.scale in
    let s = c.requires.s in
    (omega (arith, ints, s.0, s.1), omega (arith, ints, s.0, s.1))

pub product-requires-2-clause-first : goal.product-requires-2-clause-first
product-requires-2-clause-first c =
    let most = power_at_scale c.args.scale c.requires.scale in
    let g = c.requires.g in
    (omega (arith, ints, g.0, g.1), omega (arith, ints, g.0, g.1))

pub product-requires-2-clause-second : goal.product-requires-2-clause-second
product-requires-2-clause-second c =
    let most = power_at_scale c.args.scale c.requires.scale in
    let g = c.requires.g in
    (omega (arith, ints, g.0, g.1), omega (arith, ints, g.0, g.1))

pub overflow_sub-result : goal.overflow_sub-result
overflow_sub-result c =
    let a = c.product.ensures.bound in
    let b = c.product-2.ensures.bound in
    grind (arith, ints, a.0, a.1, b.0, b.1)

pub returns : goal.returns
returns c =
    let most = power_at_scale c.args.scale c.requires.scale in
    let e = c.args.e in
    let s = c.args.s in
    let g = c.args.g in
    let range = c.requires.e in
    let twice : to_z w128 (of_z w128 (pos 2 *ℤ to_z w128 (of_z w128 e))) ≡ pos 2 *ℤ e = omega (arith, ints, range.0, range.1) in
    let first : c.product.result ≡ (pos 2 *ℤ e) *ℤ s = cc (c.product.ensures.value, twice, to_z-of_z c.ranges.s) in
    let last : c.product-2.result ≡ g *ℤ g = cc (c.product-2.ensures.value, to_z-of_z c.ranges.g) in
    let a = c.product.ensures.bound in
    let b = c.product-2.ensures.bound in
    omega (arith, ints, first, last, mul_assoc (pos 2) e s, a.0, a.1, b.0, b.1)
