-- The tests of a certificate's figure. This project's own. Numbers count 2^-P.
use Rattle.std.specs.Prelude.{ℕ, ◌+◌, ◌*◌, ◌^◌, ℤ, pos, ◌+ℤ◌, ◌-ℤ◌, ◌*ℤ◌, ◌≤ℤ◌, ◌<ℤ◌}
use Rattle.vx_cert.specs.declared.certificate.Ends.{Ends}
use Rattle.vx_cert.specs.declared.certificate.CertFigure.{CertFigure}
use Rattle.vx_formula.specs.declared.limits.TheConstants.{YEAR_MINUTES, THIRTY_DAYS, CENT, HALF_CENT, INDEX_WIDTH_MAX}
use Rattle.vx_claims.specs.declared.limits.TheConstants.{SQUARE_MAX, INDEX_END_MAX}
use Rattle.vx_claims.specs.TermTests.{IsWithin}

-- z is an end of the interval
abbrev pub ForBothEnds : Ends → (ℤ → Type 0) → Type 0
ForBothEnds ends P = P ends.lo × P ends.hi

-- of two terms with n1 and n2 minutes, for a time ahead of `target` minutes: x encloses the weighted variances, at each end
-- of both
abbrev pub weighted : ℕ → ℕ → ℕ → ℤ → ℤ → ℤ
weighted target n1 n2 y z = pos YEAR_MINUTES *ℤ ((pos n2 -ℤ pos target) *ℤ y +ℤ (pos target -ℤ pos n1) *ℤ z)

abbrev pub span : ℕ → ℕ → ℕ → ℤ
span target n1 n2 = pos target *ℤ (pos n2 -ℤ pos n1)

pub record EnclosesSquare (P target n1 n2 : ℕ) (w1 w2 x : Ends) : Type 0 where
  pub low_range : IsWithin (SQUARE_MAX * 2 ^ P) x.lo
  pub high_range : IsWithin (SQUARE_MAX * 2 ^ P) x.hi
  pub low : ForBothEnds w1 (λ y. ForBothEnds w2 (λ z. (x.lo *ℤ span target n1 n2) ≤ℤ weighted target n1 n2 y z))
  pub high : ForBothEnds w1 (λ y. ForBothEnds w2 (λ z. weighted target n1 n2 y z ≤ℤ (x.hi *ℤ span target n1 n2)))

-- of one term at 30 days
pub record EnclosesSingleSquare (P : ℕ) (w x : Ends) : Type 0 where
  pub low_range : IsWithin (SQUARE_MAX * 2 ^ P) x.lo
  pub high_range : IsWithin (SQUARE_MAX * 2 ^ P) x.hi
  pub low : ForBothEnds w (λ y. (x.lo *ℤ pos THIRTY_DAYS) ≤ℤ (pos YEAR_MINUTES *ℤ y))
  pub high : ForBothEnds w (λ y. (pos YEAR_MINUTES *ℤ y) ≤ℤ (x.hi *ℤ pos THIRTY_DAYS))

-- the printed ends, in millionths of a point, enclose the index, lie close, and round to the cents
pub record EnclosesIndex (P : ℕ) (figure : CertFigure) : Type 0 where
  pub not_negative : pos 0 ≤ℤ figure.lo
  pub in_order : figure.lo ≤ℤ figure.hi
  pub in_range : figure.hi ≤ℤ pos INDEX_END_MAX
  pub narrow : (figure.hi -ℤ figure.lo) ≤ℤ pos INDEX_WIDTH_MAX
  pub low : (figure.lo *ℤ figure.lo *ℤ pos (2 ^ P)) ≤ℤ (pos (10 ^ 16) *ℤ figure.x.lo)
  pub high : (pos (10 ^ 16) *ℤ figure.x.hi) ≤ℤ (figure.hi *ℤ figure.hi *ℤ pos (2 ^ P))
  pub rounds_low : (pos (CENT * figure.cents) -ℤ pos HALF_CENT) ≤ℤ figure.lo
  pub rounds_high : figure.hi <ℤ pos (CENT * figure.cents + HALF_CENT)
