use Rattle.std.proofs.Common.{◌≡◌, ◌∙◌, ℕ, ◌^◌, pos, nat_abs, ◌≤ℤ◌, ◌<ℤ◌, sym, ap, subst, arith, rules, to_z-of_z}
use Rattle.std.proofs.lemmas.Int.{ints}
use Rattle.vx_interval.specs.Ends.{Ends, unit}
use Rattle.vx_interval.proofs.EndsLemmas.{same_ends, unit_positive}
use Rattle.vx_interval.proofs.Ranges.{cast, cast_is, passed_ends_in_range}
use Rattle.vx_bounds.specs.Exponential.{IsTerms, IsTightValue, low_term, high_term, low_end, high_end}
use Rattle.vx_bounds.proofs.Values.{signed_encloses}
use Rattle.vx_bounds.proofs.Signed.{signed_is_good, signed_of_nonneg, square_fits, square_is, negative_found, positive_high, positive_low, negative_sign}
use Rattle.vx_bounds.proofs.exponential.exp_signed.Goals as goal

pub exp_bounds-run-requires : goal.exp_bounds-run-requires
exp_bounds-run-requires g c =
    let n : c.unsigned_abs.result ≡ nat_abs c.args.p = c.unsigned_abs.ensures.value ∙ ap nat_abs (to_z-of_z c.ranges.p) in
    let small = c.requires.small in
    (search rules, (c.requires.scale, (c.requires.divisor, omega arith)))

pub returns-then-p-ge0 : goal.returns-then-p-ge0
returns-then-p-ge0 g c =
    let n : c.unsigned_abs.result ≡ nat_abs c.args.p = c.unsigned_abs.ensures.value ∙ ap nat_abs (to_z-of_z c.ranges.p) in
    let sign : pos 0 ≤ℤ c.args.p = grind (arith, ints) in
    let value = c.exp_bounds-run.ensures.value ∙ signed_of_nonneg g.row.P c.args.p c.args.q c.unsigned_abs.result sign n in
    let L : ℕ → Type 0 = λ m. IsTerms (low_term (2 ^ g.row.P) m c.args.q) c.exp_bounds-run.result.t_lo in
    let H : ℕ → Type 0 = λ m. IsTerms (high_term (2 ^ g.row.P) m c.args.q) c.exp_bounds-run.result.t_hi in
    let T : Ends → Type 0 = λ x. IsTightValue g.row.P 27 x in
    record {
      low_terms = subst L n c.exp_bounds-run.ensures.low_terms;
      high_terms = subst H n c.exp_bounds-run.ensures.high_terms;
      value = value;
      encloses = rw value (λ h m. signed_encloses g.row.P c.args.p c.args.q h c.requires.divisor.0 m);
      bounds = subst T (sym value) (signed_is_good g.row.P c.args.p c.args.q c.requires.scale c.requires.divisor.0 c.requires.small);
      at_least_one = λ _. c.exp_bounds-run.ensures.at_least_one;
    }

pub overflow_mul-square : goal.overflow_mul-square
overflow_mul-square g c = square_fits g.row.P (cast c.power_of_two-one.result) c.requires.scale (cast_is c.power_of_two-one.result (unit g.row.P) c.power_of_two-one.type_inv c.power_of_two-one.ensures)

pub div_floor-low-requires : goal.div_floor-low-requires
div_floor-low-requires g c =
    let one = unit_positive g.row.P in
    positive_high (unit g.row.P) c.exp_bounds-run.result.value (cast c.hi.result) one c.exp_bounds-run.ensures.at_least_one c.exp_bounds-run.ensures.bounds.interval.ordered
    (cast_is c.hi.result _ c.hi.type_inv c.hi.ensures.value)

pub div_ceil-high-requires : goal.div_ceil-high-requires
div_ceil-high-requires g c =
    let one = unit_positive g.row.P in
    positive_low (unit g.row.P) c.exp_bounds-run.result.value (cast c.lo.result) one c.exp_bounds-run.ensures.at_least_one (cast_is c.lo.result _ c.lo.type_inv c.lo.ensures.value)

pub new-value-requires : goal.new-value-requires
new-value-requires g c =
    let n : c.unsigned_abs.result ≡ nat_abs c.args.p = c.unsigned_abs.ensures.value ∙ ap nat_abs (to_z-of_z c.ranges.p) in
    let sign : c.args.p <ℤ pos 0 = negative_sign c.args.p _ c.if-p-ge0.false (to_z-of_z c.ranges.p) in
    let one = unit_positive g.row.P in
    let least = c.exp_bounds-run.ensures.at_least_one in
    let ordered = c.exp_bounds-run.ensures.bounds.interval.ordered in
    let hi : cast c.hi.result ≡ pos (high_end (2 ^ g.row.P) c.unsigned_abs.result c.args.q) =
    cast_is c.hi.result _ c.hi.type_inv (c.hi.ensures.value ∙ ap (λ (x : Ends). x.hi) c.exp_bounds-run.ensures.value) in
    let lo : cast c.lo.result ≡ pos (low_end (2 ^ g.row.P) c.unsigned_abs.result c.args.q) =
    cast_is c.lo.result _ c.lo.type_inv (c.lo.ensures.value ∙ ap (λ (x : Ends). x.lo) c.exp_bounds-run.ensures.value) in
    let hi_plain : cast c.hi.result ≡ c.exp_bounds-run.result.value.hi = cast_is c.hi.result _ c.hi.type_inv c.hi.ensures.value in
    let lo_plain : cast c.lo.result ≡ c.exp_bounds-run.result.value.lo = cast_is c.lo.result _ c.lo.type_inv c.lo.ensures.value in
    let f = negative_found g.row.P c.args.p c.args.q c.unsigned_abs.result _ _ _ c.div_floor-low.result c.div_ceil-high.result sign n
    (square_is g.row.P (cast c.power_of_two-one.result) c.requires.scale (cast_is c.power_of_two-one.result (unit g.row.P) c.power_of_two-one.type_inv c.power_of_two-one.ensures)) hi lo (positive_high (unit g.row.P) c.exp_bounds-run.result.value (cast c.hi.result) one least ordered hi_plain) (positive_low (unit g.row.P) c.exp_bounds-run.result.value (cast c.lo.result) one least lo_plain) c.div_floor-low.ensures c.div_ceil-high.ensures in
    let i = (signed_is_good g.row.P c.args.p c.args.q c.requires.scale c.requires.divisor.0 c.requires.small).interval in (
      search rules,
      (
        c.requires.scale,
        passed_ends_in_range c.div_floor-low.result c.div_ceil-high.result _ _ c.div_floor-low.type_inv c.div_ceil-high.type_inv f.low_is f.high_is (i.in_range.low, i.ordered, i.in_range.high),
      ),
    )

pub returns-clause-value : goal.returns-clause-value
returns-clause-value g c =
    let n : c.unsigned_abs.result ≡ nat_abs c.args.p = c.unsigned_abs.ensures.value ∙ ap nat_abs (to_z-of_z c.ranges.p) in
    let sign : c.args.p <ℤ pos 0 = negative_sign c.args.p _ c.if-p-ge0.false (to_z-of_z c.ranges.p) in
    let one = unit_positive g.row.P in
    let least = c.exp_bounds-run.ensures.at_least_one in
    let ordered = c.exp_bounds-run.ensures.bounds.interval.ordered in
    let hi : cast c.hi.result ≡ pos (high_end (2 ^ g.row.P) c.unsigned_abs.result c.args.q) =
    cast_is c.hi.result _ c.hi.type_inv (c.hi.ensures.value ∙ ap (λ (x : Ends). x.hi) c.exp_bounds-run.ensures.value) in
    let lo : cast c.lo.result ≡ pos (low_end (2 ^ g.row.P) c.unsigned_abs.result c.args.q) =
    cast_is c.lo.result _ c.lo.type_inv (c.lo.ensures.value ∙ ap (λ (x : Ends). x.lo) c.exp_bounds-run.ensures.value) in
    let hi_plain : cast c.hi.result ≡ c.exp_bounds-run.result.value.hi = cast_is c.hi.result _ c.hi.type_inv c.hi.ensures.value in
    let lo_plain : cast c.lo.result ≡ c.exp_bounds-run.result.value.lo = cast_is c.lo.result _ c.lo.type_inv c.lo.ensures.value in
    let f = negative_found g.row.P c.args.p c.args.q c.unsigned_abs.result _ _ _ c.div_floor-low.result c.div_ceil-high.result sign n
    (square_is g.row.P (cast c.power_of_two-one.result) c.requires.scale (cast_is c.power_of_two-one.result (unit g.row.P) c.power_of_two-one.type_inv c.power_of_two-one.ensures)) hi lo (positive_high (unit g.row.P) c.exp_bounds-run.result.value (cast c.hi.result) one least ordered hi_plain) (positive_low (unit g.row.P) c.exp_bounds-run.result.value (cast c.lo.result) one least lo_plain) c.div_floor-low.ensures c.div_ceil-high.ensures in
    c.new-value.ensures.ends ∙ same_ends _ _ (cast_is c.div_floor-low.result _ c.div_floor-low.type_inv f.low_is) (cast_is c.div_ceil-high.result _ c.div_ceil-high.type_inv f.high_is)

pub returns-clause-encloses : goal.returns-clause-encloses
returns-clause-encloses g c = rw (returns-clause-value g c) (λ h m. signed_encloses g.row.P c.args.p c.args.q h c.requires.divisor.0 m)

pub returns-clause-bounds : goal.returns-clause-bounds
returns-clause-bounds g c = rw (returns-clause-value g c) (signed_is_good g.row.P c.args.p c.args.q c.requires.scale c.requires.divisor.0 c.requires.small)
