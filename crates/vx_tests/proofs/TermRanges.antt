-- The ranges that the tests of a term state.
use Rattle.std.proofs.Common.{ℕ, ◌≤◌, ℤ, List, [], ◌∷◌, arith}
use Rattle.std.specs.List.{All, AllByRecursion, sum_by}
use Rattle.std.proofs.lemmas.Int.{ints}
use Rattle.std.proofs.lemmas.List.Sums.{sum_by-cons}
use Rattle.std.proofs.lemmas.List.Elements.{recursion_from_All}
use Rattle.vx_cert.specs.declared.certificate.Ends.{Ends}
use Rattle.vx_cert.specs.declared.rows.CertRow.{CertRow}
use Rattle.vx_claims.specs.Exponential.{EncloseExponential}
use Rattle.vx_claims.specs.TermTests.{EnclosesExcess, EnclosesContribution, EnclosesTotal, EnclosesVariance}
use Rattle.vx_tests.specs.Ranges.{IsExponentialAdmitted, IsExcessAdmitted, IsTotalAdmitted, IsVarianceAdmitted}

pub exponential_range : (P : ℕ) (rate : ℤ) (low high : List ℕ) (e : Ends) → EncloseExponential P rate low high e → IsExponentialAdmitted P e
exponential_range P rate low high e h = record { not_negative = h.not_negative; in_order = h.in_order; in_range = h.in_range }

pub excess_range : (P : ℕ) (f : Ends) (k0 : ℕ) (g : Ends) → EnclosesExcess P f k0 g → IsExcessAdmitted P g
excess_range P f k0 g h = record { not_negative = h.not_negative; in_order = h.in_order; in_range = h.in_range }

pub variance_range : (P : ℕ) (e g s w : Ends) → EnclosesVariance P e g s w → IsVarianceAdmitted P w
variance_range P e g s w h = record { low = h.low_range; high = h.high_range }

sums_in_order : (P : ℕ) (rows : List CertRow) → AllByRecursion (EnclosesContribution P) rows → sum_by (λ (row : CertRow). row.lo) rows ≤ sum_by (λ (row : CertRow). row.hi) rows
sums_in_order P [] h = omega arith
sums_in_order P (row ∷ rows) h =
    let here = h.0.in_order in
    let more = sums_in_order P rows h.1 in
    let low = sum_by-cons (λ (r : CertRow). r.lo) row rows in
    let high = sum_by-cons (λ (r : CertRow). r.hi) row rows in
    omega (arith, here, more, low, high)

pub total_range : (P : ℕ) (rows : List CertRow) (s : Ends) → All (EnclosesContribution P) rows → EnclosesTotal P rows s → IsTotalAdmitted P s
total_range P rows s each h =
    let order = sums_in_order P rows (recursion_from_All (EnclosesContribution P) rows each) in
    let low = h.low in
    let high = h.high in
    record { not_negative = h.not_negative; in_order = omega (arith, ints); in_range = h.in_range }
