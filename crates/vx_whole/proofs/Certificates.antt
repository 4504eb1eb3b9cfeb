-- Every certificate has a verdict, and a run of `check` is there.
use Rattle.std.proofs.Common.{refl, sym, subst, inl, inr, ℕ, ◌≤◌, List, take, drop, Ok, arith}
use Rattle.std.proofs.lemmas.List.{take-append-drop}
use Rattle.std.proofs.lemmas.Bool.{cases_order}
use Rattle.vx_clock.specs.declared.limits.TheConstants.{INDEX_DAYS, INDEX_WINDOW}
use Rattle.vx_feed.specs.declared.events.Event.{Event}
use Rattle.vx_feed.specs.Feed.{reading_of}
use Rattle.vx_feed.specs.Order.{AreLawful}
use Rattle.vx_feed.proofs.LawfulLists.{leading_parts_are_lawful}
use Rattle.vx_cert.specs.declared.certificate.Certificate.{Certificate}
use Rattle.vx_cert.specs.Reading.{ReadsAs}
use Rattle.vx_cert.specs.Ranges.{IsCertificateInRange}
use Rattle.vx_cert.proofs.ReadRanges.{read_is_in_range}
use Rattle.vx_claims.specs.Accepts.{IsVersion}
use Rattle.vx_claims.specs.Test.{test_number}
use Rattle.vx_soundness.proofs.Meaning.{accepted_means}
use Rattle.vx_drivers.specs.Answers.{said_no, said_yes}
use Rattle.vx_drivers.specs.CertificateRun.{certificates_of}
use Rattle.vx_drivers.proofs.RunIsThere.{run_is_there as certificate_run_is_there}
use Rattle.vx_cli.specs.CheckRuns.{check_rules, test_word, yes_words}
use Rattle.vx_feed.proofs.ReadingLemmas.{prefix_is_lawful}
use Rattle.vx_whole.specs.Runs.{CheckIsThere}
use Rattle.vx_whole.specs.Verdicts.{EveryCertificateHasVerdict}
use Rattle.vx_whole.proofs.Readings.{line_is_read}
use Rattle.vx_whole.proofs.Verdicts.{every_certificate_is_judged}

-- a certificate has a verdict over lawful events
pub every_certificate_has_verdict : EveryCertificateHasVerdict
every_certificate_has_verdict events c lawful version =
    elim (every_certificate_is_judged events c version) [
      | inl accepted ↦ (said_yes (yes_words c), (accepted, accepted_means INDEX_DAYS INDEX_WINDOW events c (omega arith) lawful accepted, refl))
      | inr found ↦ (said_no (test_word (test_number found.0)), (found.0, found.1, refl))
    ]

of_range : (version : ℕ) → 1 ≤ version → version ≤ 2 → IsVersion version
of_range version low high =
    elim (cases_order version 1) [
      | inl first ↦ inl first
      | inr apart ↦ elim apart [ inl less ↦ absurd (omega arith) | inr more ↦ inr (omega arith) ]
    ]

-- a certificate that was read is of one of the two versions
read_version : (line : List ℕ) (c : Certificate) → ReadsAs line (Ok c) → IsVersion c.v
read_version line c (d, value, is) =
    let range : IsCertificateInRange c = read_is_in_range d (Ok c) (λ h. sym is) in
    of_range c.v range.version_first range.version_last

first_are_lawful : (events : List Event) (count : ℕ) → AreLawful events → AreLawful (take count events)
first_are_lawful events count lawful =
    leading_parts_are_lawful (take count events) (drop count events) (subst AreLawful (sym (take-append-drop count events)) lawful)

-- a run of `check` is there
pub check_is_there : CheckIsThere
check_is_there feed certs =
    certificate_run_is_there check_rules (reading_of feed) (certificates_of certs) (record {
      reads = line_is_read;
      judges = λ line c reads.
          every_certificate_has_verdict (take c.line (reading_of feed).events) c
          (first_are_lawful (reading_of feed).events c.line (prefix_is_lawful feed)) (read_version line c reads);
    })
