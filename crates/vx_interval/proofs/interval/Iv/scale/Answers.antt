use Rattle.std.proofs.Common.{◌∙◌, ◌≤ℤ◌, ◌<ℤ◌, pos, sym, arith, rules, to_z-of_z}
use Rattle.std.proofs.lemmas.Int.{ints}
use mir.Syntax.{w128}
use Rattle.vx_interval.proofs.EndsLemmas.{same_ends}
use Rattle.vx_interval.proofs.Enclosures.{scale_encloses}
use Rattle.vx_interval.proofs.Widths.{scale_width}
use Rattle.vx_interval.proofs.Ranges.{cast, cast_small, scale_ends_negative, scale_ends_nonneg, scale_range_negative, scale_range_nonneg, products_same, same_product, cast_is, passed_ends_in_range}
use Rattle.vx_interval.proofs.interval.Iv.scale.Goals as goal

pub times-requires : goal.times-requires
times-requires g c =
    let sign : c.args.k <ℤ pos 0 = grind (arith, ints) in
    let r = scale_range_negative c.args.self.now c.args.k sign c.lo-low.ensures.interval.ordered c.requires.in_range in
    let e = products_same (cast_small c.args.k) (cast c.hi-high.result) c.args.k c.args.self.now.hi (to_z-of_z c.ranges.k) (to_z-of_z {w = w128} (record { sfits = c.hi-high.type_inv }) ∙ c.hi-high.ensures.value) in
    record { low = omega (arith, ints, r, e); high = omega (arith, ints, r, e) }

pub times-requires-then-k-lt0 : goal.times-requires-then-k-lt0
times-requires-then-k-lt0 g c =
    let sign : c.args.k <ℤ pos 0 = grind (arith, ints) in
    let r = scale_range_negative c.args.self.now c.args.k sign c.lo-low.ensures.interval.ordered c.requires.in_range in
    let e = products_same (cast_small c.args.k) (cast c.lo-low.result) c.args.k c.args.self.now.lo (to_z-of_z c.ranges.k) (to_z-of_z {w = w128} (record { sfits = c.lo-low.type_inv }) ∙ c.lo-low.ensures.value) in
    record { low = omega (arith, ints, r, e); high = omega (arith, ints, r, e) }

pub times-requires-else-k-lt0 : goal.times-requires-else-k-lt0
times-requires-else-k-lt0 g c =
    let sign : pos 0 ≤ℤ c.args.k = grind (arith, ints) in
    let r = scale_range_nonneg c.args.self.now c.args.k sign c.lo-low.ensures.interval.ordered c.requires.in_range in
    let e = products_same (cast_small c.args.k) (cast c.lo-low.result) c.args.k c.args.self.now.lo (to_z-of_z c.ranges.k) (to_z-of_z {w = w128} (record { sfits = c.lo-low.type_inv }) ∙ c.lo-low.ensures.value) in
    record { low = omega (arith, ints, r, e); high = omega (arith, ints, r, e) }

pub times-requires-else-k-lt0-2 : goal.times-requires-else-k-lt0-2
times-requires-else-k-lt0-2 g c =
    let sign : pos 0 ≤ℤ c.args.k = grind (arith, ints) in
    let r = scale_range_nonneg c.args.self.now c.args.k sign c.lo-low.ensures.interval.ordered c.requires.in_range in
    let e = products_same (cast_small c.args.k) (cast c.hi-high.result) c.args.k c.args.self.now.hi (to_z-of_z c.ranges.k) (to_z-of_z {w = w128} (record { sfits = c.hi-high.type_inv }) ∙ c.hi-high.ensures.value) in
    record { low = omega (arith, ints, r, e); high = omega (arith, ints, r, e) }

pub new-requires : goal.new-requires
new-requires g c =
    let sign : c.args.k <ℤ pos 0 = grind (arith, ints) in
    let r = scale_range_negative c.args.self.now c.args.k sign c.lo-low.ensures.interval.ordered c.requires.in_range in
    let low = same_product (cast_small c.args.k) (cast c.hi-high.result) c.args.k c.args.self.now.hi c.times.result (to_z-of_z c.ranges.k) (to_z-of_z {w = w128} (record { sfits = c.hi-high.type_inv }) ∙ c.hi-high.ensures.value) c.times.ensures in
    let high = same_product (cast_small c.args.k) (cast c.lo-low.result) c.args.k c.args.self.now.lo c.times-then-k-lt0.result (to_z-of_z c.ranges.k) (to_z-of_z {w = w128} (record { sfits = c.lo-low.type_inv }) ∙ c.lo-low.ensures.value) c.times-then-k-lt0.ensures in
    (search rules, (c.lo-low.ensures.interval.scale, passed_ends_in_range c.times.result c.times-then-k-lt0.result _ _ c.times.type_inv c.times-then-k-lt0.type_inv low high r))

pub returns-then-k-lt0-clause-ends : goal.returns-then-k-lt0-clause-ends
returns-then-k-lt0-clause-ends g c =
    let sign : c.args.k <ℤ pos 0 = grind (arith, ints) in
    let r = scale_range_negative c.args.self.now c.args.k sign c.lo-low.ensures.interval.ordered c.requires.in_range in
    let low = same_product (cast_small c.args.k) (cast c.hi-high.result) c.args.k c.args.self.now.hi c.times.result (to_z-of_z c.ranges.k) (to_z-of_z {w = w128} (record { sfits = c.hi-high.type_inv }) ∙ c.hi-high.ensures.value) c.times.ensures in
    let high = same_product (cast_small c.args.k) (cast c.lo-low.result) c.args.k c.args.self.now.lo c.times-then-k-lt0.result (to_z-of_z c.ranges.k) (to_z-of_z {w = w128} (record { sfits = c.lo-low.type_inv }) ∙ c.lo-low.ensures.value) c.times-then-k-lt0.ensures in
    c.new.ensures.ends ∙ same_ends _ _ (cast_is c.times.result _ c.times.type_inv low) (cast_is c.times-then-k-lt0.result _ c.times-then-k-lt0.type_inv high) ∙ sym (scale_ends_negative c.args.self.now c.args.k sign)

pub returns-then-k-lt0-clause-encloses : goal.returns-then-k-lt0-clause-encloses
returns-then-k-lt0-clause-encloses g c = rw (returns-then-k-lt0-clause-ends g c) (λ f m. scale_encloses g.row.P c.args.self.now c.args.k f m)

pub returns-then-k-lt0-clause-width : goal.returns-then-k-lt0-clause-width
returns-then-k-lt0-clause-width g c = rw (returns-then-k-lt0-clause-ends g c) (scale_width c.args.self.now c.args.k)

pub new-requires-else-k-lt0 : goal.new-requires-else-k-lt0
new-requires-else-k-lt0 g c =
    let sign : pos 0 ≤ℤ c.args.k = grind (arith, ints) in
    let r = scale_range_nonneg c.args.self.now c.args.k sign c.lo-low.ensures.interval.ordered c.requires.in_range in
    let low = same_product (cast_small c.args.k) (cast c.lo-low.result) c.args.k c.args.self.now.lo c.times-else-k-lt0.result (to_z-of_z c.ranges.k) (to_z-of_z {w = w128} (record { sfits = c.lo-low.type_inv }) ∙ c.lo-low.ensures.value) c.times-else-k-lt0.ensures in
    let high = same_product (cast_small c.args.k) (cast c.hi-high.result) c.args.k c.args.self.now.hi c.times-else-k-lt0-2.result (to_z-of_z c.ranges.k) (to_z-of_z {w = w128} (record { sfits = c.hi-high.type_inv }) ∙ c.hi-high.ensures.value) c.times-else-k-lt0-2.ensures in
    (search rules, (c.lo-low.ensures.interval.scale, passed_ends_in_range c.times-else-k-lt0.result c.times-else-k-lt0-2.result _ _ c.times-else-k-lt0.type_inv c.times-else-k-lt0-2.type_inv low high r))

pub returns-else-k-lt0-clause-ends : goal.returns-else-k-lt0-clause-ends
returns-else-k-lt0-clause-ends g c =
    let sign : pos 0 ≤ℤ c.args.k = grind (arith, ints) in
    let r = scale_range_nonneg c.args.self.now c.args.k sign c.lo-low.ensures.interval.ordered c.requires.in_range in
    let low = same_product (cast_small c.args.k) (cast c.lo-low.result) c.args.k c.args.self.now.lo c.times-else-k-lt0.result (to_z-of_z c.ranges.k) (to_z-of_z {w = w128} (record { sfits = c.lo-low.type_inv }) ∙ c.lo-low.ensures.value) c.times-else-k-lt0.ensures in
    let high = same_product (cast_small c.args.k) (cast c.hi-high.result) c.args.k c.args.self.now.hi c.times-else-k-lt0-2.result (to_z-of_z c.ranges.k) (to_z-of_z {w = w128} (record { sfits = c.hi-high.type_inv }) ∙ c.hi-high.ensures.value) c.times-else-k-lt0-2.ensures in
    c.new-else-k-lt0.ensures.ends ∙ same_ends _ _ (cast_is c.times-else-k-lt0.result _ c.times-else-k-lt0.type_inv low) (cast_is c.times-else-k-lt0-2.result _ c.times-else-k-lt0-2.type_inv high) ∙ sym (scale_ends_nonneg c.args.self.now c.args.k sign)

pub returns-else-k-lt0-clause-encloses : goal.returns-else-k-lt0-clause-encloses
returns-else-k-lt0-clause-encloses g c = rw (returns-else-k-lt0-clause-ends g c) (λ f m. scale_encloses g.row.P c.args.self.now c.args.k f m)

pub returns-else-k-lt0-clause-width : goal.returns-else-k-lt0-clause-width
returns-else-k-lt0-clause-width g c = rw (returns-else-k-lt0-clause-ends g c) (scale_width c.args.self.now c.args.k)
