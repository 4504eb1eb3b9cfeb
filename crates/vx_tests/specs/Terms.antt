-- What a feed shows of a term, and which tests are of a certificate's numbers alone. This project's own.
use Rattle.std.specs.Prelude.{ℕ, ◌≤◌, ◌<◌, All}
use Rattle.vx_cert.specs.declared.certificate.CertTerm.{CertTerm}
use Rattle.vx_formula.specs.Term.{TermFacts}
use Rattle.vx_claims.specs.declared.acceptance.Test.{Test}
use Rattle.vx_claims.specs.declared.acceptance.Test.TheVariants.{Exponential, Forward, Excess, Contributions, Total, Variance}
use Rattle.vx_claims.specs.Test.{test_number}
use Rattle.vx_claims.specs.TermTests.{EnclosesForward, EnclosesExcess, EnclosesContribution, EnclosesTotal, EnclosesVariance}
use Rattle.vx_claims.specs.Exponential.{EncloseExponential}
use Rattle.vx_tests.specs.declared.term.SeenTerm.{SeenTerm}

abbrev pub facts_of : SeenTerm → TermFacts
facts_of seen = record { rows = seen.rows.now; rate = seen.rate; minutes = seen.minutes }

-- the tests by which later ones are bounded
abbrev pub NumbersMeet : ℕ → CertTerm → Test → Type 0
NumbersMeet P term Exponential = EncloseExponential P term.rate term.t_lo term.t_hi term.e
NumbersMeet P term Forward = EnclosesForward P term.pair term.e term.f
NumbersMeet P term Excess = EnclosesExcess P term.f term.k0 term.g
NumbersMeet P term Contributions = All (EnclosesContribution P) term.rows
NumbersMeet P term Total = EnclosesTotal P term.rows term.s
NumbersMeet P term Variance = EnclosesVariance P term.e term.g term.s term.w
NumbersMeet P term _ = Unit {0}

-- the tests from the exponential's on, up to this one
abbrev pub AreNumbersMet : ℕ → CertTerm → Test → Type 0
AreNumbersMet P term test =
    (other : Test) → test_number Exponential ≤ test_number other → test_number other < test_number test → NumbersMeet P term other
