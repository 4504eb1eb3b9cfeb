use Rattle.std.proofs.Common.{◌≡◌, pos, neg_ℤ, ◌*ℤ◌, ◌≤ℤ◌, refl, arith, to_z, of_z, to_z-of_z}
use Rattle.std.proofs.lemmas.Int.{ints}
use mir.Syntax.{w64}
use Rattle.vx_interval.specs.Ends.{unit}
use Rattle.vx_interval.proofs.EndsLemmas.{unit_positive}
use Rattle.vx_interval.proofs.Ranges.{cast, cast_is, unit_at_most}
use Rattle.vx_bounds.proofs.Roots.{dividend_fits, dividend_is, floor_bound, ceiling_bound, floor_given, ceiling_given, small_given, greatest_given, least_given, bound_given}
use Rattle.vx_bounds.proofs.root.root_ends.Goals as goal

pub overflow_mul-lo : goal.overflow_mul-lo
overflow_mul-lo g c =
    let i = c.lo-lo.ensures.interval in
    let big = unit_at_most g.row.P i.scale in
    let one = unit_positive g.row.P in
    let order = i.ordered in
    let lo_low : neg_ℤ (pos 1024 *ℤ unit g.row.P) ≤ℤ c.args.x.now.lo = c.requires.low in
    let lo_high : c.args.x.now.lo ≤ℤ (pos 1024 *ℤ unit g.row.P) = omega (arith, ints) in
    let hi_high : c.args.x.now.hi ≤ℤ (pos 1024 *ℤ unit g.row.P) = c.requires.high in
    let hi_low : neg_ℤ (pos 1024 *ℤ unit g.row.P) ≤ℤ c.args.x.now.hi = omega (arith, ints) in
    dividend_fits (unit g.row.P) c.args.x.now.lo (pos 10000000000000000) (cast c.lo-lo.result) big refl (omega (arith, ints)) lo_low lo_high

pub overflow_mul-hi : goal.overflow_mul-hi
overflow_mul-hi g c =
    let i = c.lo-lo.ensures.interval in
    let big = unit_at_most g.row.P i.scale in
    let one = unit_positive g.row.P in
    let order = i.ordered in
    let lo_low : neg_ℤ (pos 1024 *ℤ unit g.row.P) ≤ℤ c.args.x.now.lo = c.requires.low in
    let lo_high : c.args.x.now.lo ≤ℤ (pos 1024 *ℤ unit g.row.P) = omega (arith, ints) in
    let hi_high : c.args.x.now.hi ≤ℤ (pos 1024 *ℤ unit g.row.P) = c.requires.high in
    let hi_low : neg_ℤ (pos 1024 *ℤ unit g.row.P) ≤ℤ c.args.x.now.hi = omega (arith, ints) in
    dividend_fits (unit g.row.P) c.args.x.now.hi (pos 10000000000000000) (cast c.hi-hi.result) big refl (omega (arith, ints)) hi_low hi_high

pub div_floor-low-requires : goal.div_floor-low-requires
div_floor-low-requires g c = let one = unit_positive g.row.P in omega (arith, ints)

pub div_ceil-high-requires : goal.div_ceil-high-requires
div_ceil-high-requires g c = let one = unit_positive g.row.P in omega (arith, ints)

pub signed_root_below-requires : goal.signed_root_below-requires
signed_root_below-requires g c =
    let i = c.lo-lo.ensures.interval in
    let big = unit_at_most g.row.P i.scale in
    let one = unit_positive g.row.P in
    let order = i.ordered in
    let lo_low : neg_ℤ (pos 1024 *ℤ unit g.row.P) ≤ℤ c.args.x.now.lo = c.requires.low in
    let lo_high : c.args.x.now.lo ≤ℤ (pos 1024 *ℤ unit g.row.P) = omega (arith, ints) in
    let hi_high : c.args.x.now.hi ≤ℤ (pos 1024 *ℤ unit g.row.P) = c.requires.high in
    let hi_low : neg_ℤ (pos 1024 *ℤ unit g.row.P) ≤ℤ c.args.x.now.hi = omega (arith, ints) in
    let f = floor_given (pos 10000000000000000 *ℤ c.args.x.now.lo) (unit g.row.P) (cast (pos 10000000000000000 *ℤ cast c.lo-lo.result)) (cast c.power_of_two-one.result) c.div_floor-low.result
    (dividend_is (unit g.row.P) c.args.x.now.lo (cast c.lo-lo.result) big (cast_is c.lo-lo.result c.args.x.now.lo c.lo-lo.type_inv c.lo-lo.ensures.value) lo_low lo_high) (cast_is c.power_of_two-one.result (unit g.row.P) c.power_of_two-one.type_inv c.power_of_two-one.ensures) c.div_floor-low.ensures in
    small_given c.div_floor-low.result (cast c.div_floor-low.result) (omega (arith, ints)) (floor_bound (unit g.row.P) c.args.x.now.lo c.div_floor-low.result one lo_low lo_high f)

pub signed_root_above-requires : goal.signed_root_above-requires
signed_root_above-requires g c =
    let i = c.lo-lo.ensures.interval in
    let big = unit_at_most g.row.P i.scale in
    let one = unit_positive g.row.P in
    let order = i.ordered in
    let lo_low : neg_ℤ (pos 1024 *ℤ unit g.row.P) ≤ℤ c.args.x.now.lo = c.requires.low in
    let lo_high : c.args.x.now.lo ≤ℤ (pos 1024 *ℤ unit g.row.P) = omega (arith, ints) in
    let hi_high : c.args.x.now.hi ≤ℤ (pos 1024 *ℤ unit g.row.P) = c.requires.high in
    let hi_low : neg_ℤ (pos 1024 *ℤ unit g.row.P) ≤ℤ c.args.x.now.hi = omega (arith, ints) in
    let k = ceiling_given (pos 10000000000000000 *ℤ c.args.x.now.hi) (unit g.row.P) (cast (pos 10000000000000000 *ℤ cast c.hi-hi.result)) (cast c.power_of_two-one.result) c.div_ceil-high.result
    (dividend_is (unit g.row.P) c.args.x.now.hi (cast c.hi-hi.result) big (cast_is c.hi-hi.result c.args.x.now.hi c.hi-hi.type_inv c.hi-hi.ensures.value) hi_low hi_high) (cast_is c.power_of_two-one.result (unit g.row.P) c.power_of_two-one.type_inv c.power_of_two-one.ensures) c.div_ceil-high.ensures in
    small_given c.div_ceil-high.result (cast c.div_ceil-high.result) (omega (arith, ints)) (ceiling_bound (unit g.row.P) c.args.x.now.hi c.div_ceil-high.result one hi_low hi_high k)

pub returns : goal.returns
returns g c =
    let i = c.lo-lo.ensures.interval in
    let big = unit_at_most g.row.P i.scale in
    let one = unit_positive g.row.P in
    let order = i.ordered in
    let lo_low : neg_ℤ (pos 1024 *ℤ unit g.row.P) ≤ℤ c.args.x.now.lo = c.requires.low in
    let lo_high : c.args.x.now.lo ≤ℤ (pos 1024 *ℤ unit g.row.P) = omega (arith, ints) in
    let hi_high : c.args.x.now.hi ≤ℤ (pos 1024 *ℤ unit g.row.P) = c.requires.high in
    let hi_low : neg_ℤ (pos 1024 *ℤ unit g.row.P) ≤ℤ c.args.x.now.hi = omega (arith, ints) in
    let f = floor_given (pos 10000000000000000 *ℤ c.args.x.now.lo) (unit g.row.P) (cast (pos 10000000000000000 *ℤ cast c.lo-lo.result)) (cast c.power_of_two-one.result) c.div_floor-low.result
    (dividend_is (unit g.row.P) c.args.x.now.lo (cast c.lo-lo.result) big (cast_is c.lo-lo.result c.args.x.now.lo c.lo-lo.type_inv c.lo-lo.ensures.value) lo_low lo_high) (cast_is c.power_of_two-one.result (unit g.row.P) c.power_of_two-one.type_inv c.power_of_two-one.ensures) c.div_floor-low.ensures in
    let k = ceiling_given (pos 10000000000000000 *ℤ c.args.x.now.hi) (unit g.row.P) (cast (pos 10000000000000000 *ℤ cast c.hi-hi.result)) (cast c.power_of_two-one.result) c.div_ceil-high.result
    (dividend_is (unit g.row.P) c.args.x.now.hi (cast c.hi-hi.result) big (cast_is c.hi-hi.result c.args.x.now.hi c.hi-hi.type_inv c.hi-hi.ensures.value) hi_low hi_high) (cast_is c.power_of_two-one.result (unit g.row.P) c.power_of_two-one.type_inv c.power_of_two-one.ensures) c.div_ceil-high.ensures in
    let below : to_z w64 (of_z w64 c.signed_root_below.result) ≡ c.signed_root_below.result = to_z-of_z {w = w64} (record { sfits = c.signed_root_below.type_inv }) in
    let above : to_z w64 (of_z w64 c.signed_root_above.result) ≡ c.signed_root_above.result = to_z-of_z {w = w64} (record { sfits = c.signed_root_above.type_inv }) in
    record {
      first = greatest_given (unit g.row.P) c.args.x.now.lo c.div_floor-low.result (cast c.div_floor-low.result) c.signed_root_below.result _ one f (cast_is c.div_floor-low.result c.div_floor-low.result c.div_floor-low.type_inv refl) below c.signed_root_below.ensures.at_most c.signed_root_below.ensures.next_above;
      second = least_given (unit g.row.P) c.args.x.now.hi c.div_ceil-high.result (cast c.div_ceil-high.result) c.signed_root_above.result _ one k (cast_is c.div_ceil-high.result c.div_ceil-high.result c.div_ceil-high.type_inv refl) above c.signed_root_above.ensures.at_least c.signed_root_above.ensures.last_below;
      bound = (bound_given c.signed_root_below.result _ below c.signed_root_below.ensures.bound, bound_given c.signed_root_above.result _ above c.signed_root_above.ensures.bound);
    }
