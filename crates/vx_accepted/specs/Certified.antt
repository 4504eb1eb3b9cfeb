-- What the calculator certifies is true by the tests of a certificate.
use Rattle.std.specs.Prelude.{ℕ}
use Rattle.vx_clock.specs.declared.terms.Expiry.{Expiry}
use Rattle.vx_interval.specs.Ends.{IsScale}
use Rattle.vx_formula.specs.Term.{TermFacts}
use Rattle.vx_claims.specs.declared.acceptance.Test.{Test}
use Rattle.vx_claims.specs.TermTests.{TermMeets}
use Rattle.vx_term.specs.declared.answer.TermRun.{TermRun}
use Rattle.vx_term.specs.Answer.{IsRun}
use Rattle.vx_term.specs.Ranges.{AreFactsLawful}
use Rattle.vx_certify.specs.Certified.{certified_term}

-- what a certificate states of a run over lawful facts meets every test of one term
abbrev pub CertifiedTermIsTrue : Type 0
CertifiedTermIsTrue = (P : ℕ) (x : Expiry) (facts : TermFacts) (run : TermRun P) →
    IsScale P → AreFactsLawful facts → IsRun P x facts run → (test : Test) → TermMeets P facts (certified_term run) test
