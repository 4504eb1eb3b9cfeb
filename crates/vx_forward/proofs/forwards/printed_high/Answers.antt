use Rattle.std.proofs.Common.{◌∙◌, pos, ◌*ℤ◌, ap, to_z-of_z}
use Rattle.vx_formula.specs.declared.limits.TheConstants.{FORWARD_UNITS}
use Rattle.vx_interval.proofs.Ranges.{cast, cast_is}
use Rattle.vx_forward.proofs.ForwardLemmas.{ceiling_cast_is}
use Rattle.vx_forward.proofs.forwards.printed_high.Goals as goal

pub returns : goal.returns
returns c =
    ceiling_cast_is (pos FORWARD_UNITS *ℤ c.args.end) c.args.one (cast c.times_units.result) (cast c.args.one) c.div_ceil.result
    (cast_is c.times_units.result (pos FORWARD_UNITS *ℤ c.args.end) c.times_units.type_inv (c.times_units.ensures ∙ ap (λ z. pos FORWARD_UNITS *ℤ z) (to_z-of_z c.ranges.end))) (to_z-of_z c.ranges.one) c.requires.scale c.div_ceil.type_inv c.div_ceil.ensures
