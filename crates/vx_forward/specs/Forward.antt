-- The ends of the forward. That it is computed with intervals, and printed in units of 10^-12 point, is this project's own.
use Rattle.std.specs.Prelude.{ℕ, ◌+◌, ◌^◌, ℤ, pos, neg_ℤ, ◌*ℤ◌, ◌≤ℤ◌}
use Rattle.vx_interval.specs.Rounding.{floor_of, ceiling_of}
use Rattle.vx_interval.specs.Ends.{Ends, unit, exact_ends, add_ends, scale_ends}
use Rattle.vx_formula.specs.declared.limits.TheConstants.{FORWARD_UNITS, FORWARD_BITS}
use Rattle.vx_formula.specs.Pair.{Pair}

-- the forward where the exponential lies between the ends e, in units of 2^-P thousandths of a point: strike + 5 * d * e
abbrev pub forward_interval : ℕ → Pair → Ends → Ends
forward_interval P pair e = add_ends (exact_ends P (pos pair.strike)) (scale_ends e (pos 5 *ℤ pair.d))

-- its ends as they are printed, in units of 10^-12 point: the low end rounded down, the high end rounded up
abbrev pub printed_forward : ℕ → Ends → ℤ × ℤ
printed_forward P f = (floor_of (pos FORWARD_UNITS *ℤ f.lo) (unit P), ceiling_of (pos FORWARD_UNITS *ℤ f.hi) (unit P))

-- both ends are within 2^27 thousandths of a point in absolute value
pub record IsForwardInRange (P : ℕ) (f : Ends) : Type 0 where
  pub low : neg_ℤ (pos (2 ^ (P + FORWARD_BITS))) ≤ℤ f.lo
  pub high : f.hi ≤ℤ pos (2 ^ (P + FORWARD_BITS))
