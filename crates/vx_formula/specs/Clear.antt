-- Far enough from every boundary for an answer to be promised. This project's own.
use Rattle.std.specs.Prelude.{◌≡◌, ℕ, ◌⊎◌, ◌^◌, ℤ, pos, ◌+ℤ◌, ◌-ℤ◌, ◌*ℤ◌}
use Rattle.vx_num.specs.Fraction.{Fraction, whole, ◌*ᶠ◌, ◌<ᶠ◌}
use Rattle.vx_num.specs.SignedSquare.{signed_square}
use Rattle.vx_formula.specs.declared.limits.TheConstants.{INDEX_WIDTH_MAX, FORWARD_UNITS, FORWARD_WIDTH_MAX}
use Rattle.vx_formula.specs.Term.{Term, InBracket, exponent}
use Rattle.vx_formula.specs.Level.{IsListed}
use Rattle.vx_formula.specs.Index.{Basis, SquareMeets}
use Rattle.vx_formula.specs.Between.{forward_units}
use Rattle.vx_formula.specs.Undecided.{IsBoundary}

-- the forward is more than the greatest width of its ends away from the strike
abbrev pub IsFarFrom : Fraction → ℕ → Type 0
IsFarFrom forward strike =
    (whole (pos FORWARD_UNITS *ℤ pos strike +ℤ pos FORWARD_WIDTH_MAX) <ᶠ forward)
    ⊎ (forward <ᶠ whole (pos FORWARD_UNITS *ℤ pos strike -ℤ pos FORWARD_WIDTH_MAX))

-- the forward is far from every listed strike
pub record IsFarFromStrikes (term : Term) : Type 0 where
  pub depth : ℕ
  pub holds : (e : Fraction) → InBracket term depth e → (strike : ℕ) → IsListed term.rows strike → IsFarFrom (forward_units term e) strike

-- at an exponent of 0 and at equal prices the forward has one value and nothing to decide
abbrev pub IsClearForward : Term → Type 0
IsClearForward term =
    ((exponent term.rate term.minutes).top ≡ pos 0) ⊎ (term.pair.d ≡ pos 0) ⊎ IsFarFromStrikes term

-- the index whose square is x is more than the greatest width of its ends away from every boundary
abbrev pub IsClearAt : Fraction → Type 0
IsClearAt x =
    (b : ℤ) → IsBoundary b →
    (whole (signed_square (b +ℤ pos INDEX_WIDTH_MAX)) <ᶠ (whole (pos (10 ^ 16)) *ᶠ x))
    ⊎ ((whole (pos (10 ^ 16)) *ᶠ x) <ᶠ whole (signed_square (b -ℤ pos INDEX_WIDTH_MAX)))

abbrev pub IsClearIndex : Basis → Type 0
IsClearIndex basis = SquareMeets basis IsClearAt
