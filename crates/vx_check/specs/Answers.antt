-- What the checker answers to a certificate over the events that its book stands for. This project's own.
use Rattle.std.specs.Prelude.{◌≡◌, ℕ, pos, ◌<◌, ◌≤◌, List}
use Rattle.vx_feed.specs.declared.events.Event.{Event}
use Rattle.vx_formula.specs.declared.limits.TheConstants.{THIRTY_DAYS}
use Rattle.vx_cert.specs.declared.certificate.CertTerm.{CertTerm}
use Rattle.vx_cert.specs.declared.certificate.CertBody.{CertBody}
use Rattle.vx_cert.specs.declared.certificate.CertBody.TheVariants.{Index}
use Rattle.vx_cert.specs.declared.certificate.Certificate.{Certificate}
use Rattle.vx_claims.specs.declared.acceptance.Test.{Test}
use Rattle.vx_claims.specs.declared.acceptance.Test.TheVariants.{Place, Minutes, Rate}
use Rattle.vx_claims.specs.Test.{test_number}
use Rattle.vx_claims.specs.Accepts.{FirstFailing, IndexMeets, Meets}
use Rattle.vx_check.specs.declared.verdict.Verdict.{Verdict}
use Rattle.vx_check.specs.declared.verdict.Verdict.TheVariants.{Yes, No}

-- yes where every test is met, or else the number of the first that fails
abbrev pub IsVerdict : (Test → Type 0) → Verdict → Type 0
IsVerdict Meets Yes = (test : Test) → Meets test
IsVerdict Meets (No n) = (test : Test) × (n ≡ test_number test) × FirstFailing Meets test

-- the answer to a certificate
abbrev pub IsAnswerOver : List Event → Certificate → Verdict → Type 0
IsAnswerOver events c verdict = IsVerdict (Meets events c) verdict

-- a certificate's body as one of kind index, for so many days within a window: another kind fails the first test
abbrev pub BodyMeetsAsIndex : ℕ → ℕ → List Event → ℕ → ℕ → ℕ → CertBody → Test → Type 0
BodyMeetsAsIndex days window events version line time (Index stated near next figure) test =
    IndexMeets days window events version line time stated near next figure test
BodyMeetsAsIndex days window events version line time _ Place = ⊥
BodyMeetsAsIndex days window events version line time _ _ = Unit {0}

-- a certificate meets a test as one of kind index
abbrev pub MeetsAsIndex : ℕ → ℕ → List Event → Certificate → Test → Type 0
MeetsAsIndex days window events c test = BodyMeetsAsIndex days window events c.v c.line c.time c.body test

-- what kind single asks of its term beside what each kind asks: 30 days and a rate of zero
abbrev pub IsSingleBasis : CertTerm → Test → Type 0
IsSingleBasis term Minutes = term.minutes ≡ THIRTY_DAYS
IsSingleBasis term Rate = term.rate ≡ pos 0
IsSingleBasis term _ = Unit {0}

-- ---- some of the tests

-- the first of the tests from one number to another that fails
pub record FirstFailingFrom (first last : ℕ) (Meets : Test → Type 0) (test : Test) : Type 0 where
  pub from : first ≤ test_number test
  pub to : test_number test ≤ last
  pub fails : ¬ Meets test
  pub all_before : (other : Test) → first ≤ test_number other → test_number other < test_number test → Meets other

-- yes where each of these tests is met, or else the number of the first of them that fails
abbrev pub IsVerdictFrom : ℕ → ℕ → (Test → Type 0) → Verdict → Type 0
IsVerdictFrom first last Meets Yes = (test : Test) → first ≤ test_number test → test_number test ≤ last → Meets test
IsVerdictFrom first last Meets (No n) = (test : Test) × (n ≡ test_number test) × FirstFailingFrom first last Meets test

-- the tests before one are met
abbrev pub AreMetBefore : (Test → Type 0) → Test → Type 0
AreMetBefore Meets test = (other : Test) → test_number other < test_number test → Meets other
