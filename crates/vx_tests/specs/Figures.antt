-- The parts of the tests of a figure: the square between two numbers, and the printed ends. This project's own.
use Rattle.std.specs.Prelude.{ℕ, ◌+◌, ◌*◌, ◌^◌, ℤ, pos, ◌-ℤ◌, ◌*ℤ◌, ◌≤ℤ◌, ◌<ℤ◌}
use Rattle.vx_cert.specs.declared.certificate.CertFigure.{CertFigure}
use Rattle.vx_formula.specs.declared.limits.TheConstants.{CENT, HALF_CENT, INDEX_WIDTH_MAX}
use Rattle.vx_claims.specs.declared.limits.TheConstants.{INDEX_END_MAX}

-- from low to high
abbrev pub IsBetween : ℤ → ℤ → ℤ → Type 0
IsBetween low z high = (low ≤ℤ z) × (z ≤ℤ high)

-- the printed ends, in millionths of a point, are in range, in order and close
pub record ArePrintedEnds (figure : CertFigure) : Type 0 where
  pub not_negative : pos 0 ≤ℤ figure.lo
  pub in_order : figure.lo ≤ℤ figure.hi
  pub in_range : figure.hi ≤ℤ pos INDEX_END_MAX
  pub narrow : (figure.hi -ℤ figure.lo) ≤ℤ pos INDEX_WIDTH_MAX

-- their squares lie around the square of the index
pub record AreSquaresAround (P : ℕ) (figure : CertFigure) : Type 0 where
  pub low : (figure.lo *ℤ figure.lo *ℤ pos (2 ^ P)) ≤ℤ (pos (10 ^ 16) *ℤ figure.x.lo)
  pub high : (pos (10 ^ 16) *ℤ figure.x.hi) ≤ℤ (figure.hi *ℤ figure.hi *ℤ pos (2 ^ P))

-- they round to the cents
pub record RoundsTo (figure : CertFigure) : Type 0 where
  pub low : (pos (CENT * figure.cents) -ℤ pos HALF_CENT) ≤ℤ figure.lo
  pub high : figure.hi <ℤ pos (CENT * figure.cents + HALF_CENT)
