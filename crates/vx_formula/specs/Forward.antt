-- The forward. After the Cboe VIX white paper: strike + e^(R*T) * (call price - put price), at the closest pair.
use Rattle.std.specs.Prelude.{pos, ◌*ℤ◌}
use Rattle.vx_num.specs.Fraction.{Fraction, whole, ◌+ᶠ◌, ◌*ᶠ◌}
use Rattle.vx_formula.specs.Pair.{Pair}

-- F(e), in thousandths of a point: a half cent is five of them
abbrev pub forward_at : Pair → Fraction → Fraction
forward_at pair e = whole (pos pair.strike) +ᶠ whole (pos 5 *ℤ pair.d) *ᶠ e
