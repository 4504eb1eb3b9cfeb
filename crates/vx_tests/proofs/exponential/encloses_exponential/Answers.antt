use Rattle.std.proofs.Common.{◌≡◌, pos, ◌<ℤ◌, to_z, arith}
use Rattle.std.specs.Int.{w128}
use Rattle.std.proofs.lemmas.Int.{ints}
use Rattle.vx_claims.specs.Exponential.{low_sum, high_sum}
use Rattle.vx_tests.proofs.Comparisons.{by_reciprocal}
use Rattle.vx_tests.proofs.exponential.encloses_exponential.Goals as goal

pub returns-then-rate-lt0 : goal.returns-then-rate-lt0
returns-then-rate-lt0 c =
    let low = c.args.low.now in
    let high = c.args.high.now in
    let negative : c.args.rate <ℤ pos 0 = grind (arith, ints) in
    let L : to_z w128 c.low_sum-low.result ≡ pos (low_sum low) = omega (arith, ints, c.low_sum-low.ensures.value) in
    let H : to_z w128 c.high_sum-high.result ≡ pos (high_sum high) = omega (arith, ints, c.high_sum-high.ensures.value) in
    by_reciprocal c.args.scale c.args.rate low high c.args.e negative (c.is_in_range.ensures.0 c.if-not-is_in_range.false)
    c.encloses_reciprocal.result _ _ L H c.encloses_reciprocal.ensures
