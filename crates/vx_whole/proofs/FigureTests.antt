-- Each test of a figure is met or not.
use Rattle.std.proofs.Common.{ℕ, ◌+◌, ◌*◌, ◌^◌, ℤ, pos, ◌-ℤ◌, ◌*ℤ◌, ◌≤ℤ◌}
use Rattle.vx_cert.specs.declared.certificate.Ends.{Ends}
use Rattle.vx_cert.specs.declared.certificate.CertFigure.{CertFigure}
use Rattle.vx_formula.specs.declared.limits.TheConstants.{CENT, HALF_CENT, INDEX_WIDTH_MAX, THIRTY_DAYS, YEAR_MINUTES}
use Rattle.vx_formula.proofs.Comparisons.{at_most_or_not, below_or_not}
use Rattle.vx_claims.specs.declared.limits.TheConstants.{INDEX_END_MAX, SQUARE_MAX}
use Rattle.vx_claims.specs.FigureTests.{EnclosesIndex, EnclosesSingleSquare, EnclosesSquare, ForBothEnds, span, weighted}
use Rattle.vx_whole.proofs.Decided.{IsDecided, both, like}
use Rattle.vx_whole.proofs.TermTests.{within}

both_ends : (ends : Ends) (P : ℤ → Type 0) → ((z : ℤ) → IsDecided (P z)) → IsDecided (ForBothEnds ends P)
both_ends ends P each = both (each ends.lo) (each ends.hi)

pub square : (P target n1 n2 : ℕ) (w1 w2 x : Ends) → IsDecided (EnclosesSquare P target n1 n2 w1 w2 x)
square P target n1 n2 w1 w2 x =
    let Low : ℤ → ℤ → Type 0 = λ y z. (x.lo *ℤ span target n1 n2) ≤ℤ weighted target n1 n2 y z in
    let High : ℤ → ℤ → Type 0 = λ y z. weighted target n1 n2 y z ≤ℤ (x.hi *ℤ span target n1 n2) in
    like
    (λ h. record { low_range = h.0.0; high_range = h.0.1; low = h.1.0; high = h.1.1 })
    (λ h. ((h.low_range, h.high_range), (h.low, h.high)))
    (both
    (both (within (SQUARE_MAX * 2 ^ P) x.lo) (within (SQUARE_MAX * 2 ^ P) x.hi))
    (both
    (both_ends w1 (λ y. ForBothEnds w2 (Low y)) (λ y. both_ends w2 (Low y) (λ z. at_most_or_not (x.lo *ℤ span target n1 n2) (weighted target n1 n2 y z))))
    (both_ends w1 (λ y. ForBothEnds w2 (High y)) (λ y. both_ends w2 (High y) (λ z. at_most_or_not (weighted target n1 n2 y z) (x.hi *ℤ span target n1 n2))))))

pub single_square : (P : ℕ) (w x : Ends) → IsDecided (EnclosesSingleSquare P w x)
single_square P w x =
    let Low : ℤ → Type 0 = λ y. (x.lo *ℤ pos THIRTY_DAYS) ≤ℤ (pos YEAR_MINUTES *ℤ y) in
    let High : ℤ → Type 0 = λ y. (pos YEAR_MINUTES *ℤ y) ≤ℤ (x.hi *ℤ pos THIRTY_DAYS) in
    like
    (λ h. record { low_range = h.0.0; high_range = h.0.1; low = h.1.0; high = h.1.1 })
    (λ h. ((h.low_range, h.high_range), (h.low, h.high)))
    (both
    (both (within (SQUARE_MAX * 2 ^ P) x.lo) (within (SQUARE_MAX * 2 ^ P) x.hi))
    (both
    (both_ends w Low (λ y. at_most_or_not (x.lo *ℤ pos THIRTY_DAYS) (pos YEAR_MINUTES *ℤ y)))
    (both_ends w High (λ y. at_most_or_not (pos YEAR_MINUTES *ℤ y) (x.hi *ℤ pos THIRTY_DAYS)))))

pub index_ends_are_decided : (P : ℕ) (figure : CertFigure) → IsDecided (EnclosesIndex P figure)
index_ends_are_decided P figure =
    like
    (λ h. record {
      not_negative = h.0.0.0;
      in_order = h.0.0.1;
      in_range = h.0.1.0;
      narrow = h.0.1.1;
      low = h.1.0.0;
      high = h.1.0.1;
      rounds_low = h.1.1.0;
      rounds_high = h.1.1.1;
    })
    (λ h. (((h.not_negative, h.in_order), (h.in_range, h.narrow)), ((h.low, h.high), (h.rounds_low, h.rounds_high))))
    (both
    (both
    (both (at_most_or_not (pos 0) figure.lo) (at_most_or_not figure.lo figure.hi))
    (both (at_most_or_not figure.hi (pos INDEX_END_MAX)) (at_most_or_not (figure.hi -ℤ figure.lo) (pos INDEX_WIDTH_MAX))))
    (both
    (both
    (at_most_or_not (figure.lo *ℤ figure.lo *ℤ pos (2 ^ P)) (pos (10 ^ 16) *ℤ figure.x.lo))
    (at_most_or_not (pos (10 ^ 16) *ℤ figure.x.hi) (figure.hi *ℤ figure.hi *ℤ pos (2 ^ P))))
    (both
    (at_most_or_not (pos (CENT * figure.cents) -ℤ pos HALF_CENT) figure.lo)
    (below_or_not figure.hi (pos (CENT * figure.cents + HALF_CENT))))))
