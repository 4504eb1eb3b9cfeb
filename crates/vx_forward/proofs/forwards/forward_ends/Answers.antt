use Rattle.std.proofs.Common.{◌∙◌, ℤ, pos, ◌*ℤ◌, ap₂, arith}
use Rattle.std.proofs.lemmas.Int.{ints}
use Rattle.vx_formula.specs.declared.limits.TheConstants.{FORWARD_UNITS}
use Rattle.vx_interval.specs.Rounding.{floor_of, ceiling_of}
use Rattle.vx_interval.specs.Ends.{unit}
use Rattle.vx_interval.proofs.EndsLemmas.{unit_positive}
use Rattle.vx_interval.proofs.Ranges.{cast, cast_is}
use Rattle.vx_forward.proofs.ForwardLemmas.{end_is_small, small_end_given, positive_given}
use Rattle.vx_forward.proofs.forwards.forward_ends.Goals as goal

pub printed_low-requires-clause-small : goal.printed_low-requires-clause-small
printed_low-requires-clause-small g c =
    let i = c.lo-lo.ensures.interval in
    let order = i.ordered in
    let low = c.requires.low in
    let high = c.requires.high in
    small_end_given c.args.f.now.lo (cast c.lo-lo.result) (cast_is c.lo-lo.result c.args.f.now.lo c.lo-lo.type_inv c.lo-lo.ensures.value)
    (end_is_small g.row.P c.args.f.now.lo i.scale low (omega (arith, ints)))

pub printed_low-requires-clause-scale : goal.printed_low-requires-clause-scale
printed_low-requires-clause-scale g c =
    positive_given (unit g.row.P) (cast c.power_of_two-one.result) (cast_is c.power_of_two-one.result (unit g.row.P) c.power_of_two-one.type_inv c.power_of_two-one.ensures) (unit_positive g.row.P)

pub printed_high-requires-clause-small : goal.printed_high-requires-clause-small
printed_high-requires-clause-small g c =
    let i = c.lo-lo.ensures.interval in
    let order = i.ordered in
    let low = c.requires.low in
    let high = c.requires.high in
    small_end_given c.args.f.now.hi (cast c.hi-hi.result) (cast_is c.hi-hi.result c.args.f.now.hi c.hi-hi.type_inv c.hi-hi.ensures.value)
    (end_is_small g.row.P c.args.f.now.hi i.scale (omega (arith, ints)) high)

pub printed_high-requires-clause-scale : goal.printed_high-requires-clause-scale
printed_high-requires-clause-scale g c =
    positive_given (unit g.row.P) (cast c.power_of_two-one.result) (cast_is c.power_of_two-one.result (unit g.row.P) c.power_of_two-one.type_inv c.power_of_two-one.ensures) (unit_positive g.row.P)

pub returns : goal.returns
returns g c =
    let one = cast_is c.power_of_two-one.result (unit g.row.P) c.power_of_two-one.type_inv c.power_of_two-one.ensures in
    let lo = cast_is c.lo-lo.result c.args.f.now.lo c.lo-lo.type_inv c.lo-lo.ensures.value in
    let hi = cast_is c.hi-hi.result c.args.f.now.hi c.hi-hi.type_inv c.hi-hi.ensures.value in
    let low = cast_is c.printed_low.result _ c.printed_low.type_inv (c.printed_low.ensures ∙ ap₂ (λ (x y : ℤ). floor_of (pos FORWARD_UNITS *ℤ x) y) lo one) in
    let high = cast_is c.printed_high.result _ c.printed_high.type_inv (c.printed_high.ensures ∙ ap₂ (λ (x y : ℤ). ceiling_of (pos FORWARD_UNITS *ℤ x) y) hi one) in
    ap₂ (λ (x y : ℤ). let p : ℤ × ℤ = (x, y) in p) low high
