-- A yes over the events means what the certificate says.
use Rattle.std.proofs.Common.{◌≡◌, ℕ, ◌+◌, ◌≤◌, List, subst, arith}
use Rattle.vx_clock.specs.declared.limits.TheConstants.{DAYS_AHEAD_MAX, INDEX_DAYS, INDEX_WINDOW}
use Rattle.vx_feed.specs.declared.events.Event.{Event}
use Rattle.vx_feed.specs.Order.{AreLawful}
use Rattle.vx_cert.specs.declared.certificate.CertBody.{CertBody}
use Rattle.vx_cert.specs.declared.certificate.CertBody.TheVariants.{K0, Single, Index, Soq}
use Rattle.vx_cert.specs.declared.certificate.Certificate.{Certificate}
use Rattle.vx_claims.specs.declared.acceptance.Test.{Test}
use Rattle.vx_claims.specs.declared.acceptance.Test.TheVariants.{Place}
use Rattle.vx_claims.specs.Accepts.{AcceptsFor, BodyMeets, IsVersion}
use Rattle.vx_claims.specs.Means.{Means, MeansFor}
use Rattle.vx_soundness.proofs.Meaning.{accepted_means}
use Rattle.vx_check.specs.declared.verdict.Verdict.{Verdict}
use Rattle.vx_check.specs.declared.verdict.Verdict.TheVariants.{Yes}
use Rattle.vx_check.specs.Answers.{IsVerdict, IsAnswerOver, BodyMeetsAsIndex, MeetsAsIndex}

met_means : (days window : ℕ) (events : List Event) (c : Certificate) → days + window ≤ DAYS_AHEAD_MAX → AreLawful events → IsVersion c.v
    → ((test : Test) → BodyMeets days window events c.v c.line c.time c.body test) → MeansFor days window events c
met_means days window events c fits lawful version met =
    let accepts : AcceptsFor days window events c = record { version = version; meets_all = met } in
    accepted_means days window events c fits lawful accepts

pub yes_means : (events : List Event) (c : Certificate) (verdict : Verdict) → IsAnswerOver events c verdict → AreLawful events → IsVersion c.v
    → verdict ≡ Yes → Means events c
yes_means events c verdict answer lawful version e =
    let met : IsAnswerOver events c Yes = subst (IsAnswerOver events c) e answer in
    met_means INDEX_DAYS INDEX_WINDOW events c (omega arith) lawful version met

-- only a certificate of kind index meets all tests of that kind
as_index : (days window : ℕ) (events : List Event) (version line time : ℕ) (body : CertBody)
    → ((test : Test) → BodyMeetsAsIndex days window events version line time body test)
    → (test : Test) → BodyMeets days window events version line time body test
as_index days window events version line time (Index stated near next figure) met = met
as_index days window events version line time (K0 x pair k0) met = absurd (met Place)
as_index days window events version line time (Single term figure) met = absurd (met Place)
as_index days window events version line time (Soq term figure) met = absurd (met Place)

pub index_yes_means : (days window : ℕ) (events : List Event) (c : Certificate) (verdict : Verdict) → IsVerdict (MeetsAsIndex days window events c) verdict
    → days + window ≤ DAYS_AHEAD_MAX → AreLawful events → IsVersion c.v → verdict ≡ Yes → MeansFor days window events c
index_yes_means days window events c verdict answer fits lawful version e =
    let met : IsVerdict (MeetsAsIndex days window events c) Yes = subst (IsVerdict (MeetsAsIndex days window events c)) e answer in
    met_means days window events c fits lawful version (as_index days window events c.v c.line c.time c.body met)
