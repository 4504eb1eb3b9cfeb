-- Two ends around the exact value. This project's own.
use Rattle.std.specs.Prelude.{ℕ, ◌^◌, ℤ, pos}
use Rattle.vx_num.specs.Fraction.{Fraction, whole, ◌*ᶠ◌, ◌≤ᶠ◌}
use Rattle.vx_num.specs.SignedSquare.{signed_square}
use Rattle.vx_formula.specs.declared.limits.TheConstants.{FORWARD_UNITS}
use Rattle.vx_formula.specs.Term.{Term, InBracket}
use Rattle.vx_formula.specs.Forward.{forward_at}
use Rattle.vx_formula.specs.Index.{Basis, SquareMeets}

-- the index whose square is x lies from lo to hi, in millionths of a point; below zero it is read as minus the root of -x
pub record BetweenAt (lo hi : ℤ) (x : Fraction) : Type 0 where
  pub at_least : whole (signed_square lo) ≤ᶠ (whole (pos (10 ^ 16)) *ᶠ x)
  pub at_most : (whole (pos (10 ^ 16)) *ᶠ x) ≤ᶠ whole (signed_square hi)

abbrev pub Between : Basis → ℤ → ℤ → Type 0
Between basis lo hi = SquareMeets basis (BetweenAt lo hi)

-- F(e) in units of 10^-12 point
abbrev pub forward_units : Term → Fraction → Fraction
forward_units term e = whole (pos FORWARD_UNITS) *ᶠ forward_at term.pair e

-- the forward lies from lo to hi, in units of 10^-12 point
pub record ForwardBetween (term : Term) (lo hi : ℤ) : Type 0 where
  pub depth : ℕ
  pub at_least : (e : Fraction) → InBracket term depth e → whole lo ≤ᶠ forward_units term e
  pub at_most : (e : Fraction) → InBracket term depth e → forward_units term e ≤ᶠ whole hi
