-- Over a feed and a file of certificates `check` has one exit at most and sends one text.
use Rattle.std.specs.Prelude.{ℕ, List}
use Rattle.vx_feed.specs.Feed.{reading_of}
use Rattle.vx_drivers.specs.declared.exit.Exit.TheVariants.{Done}
use Rattle.vx_drivers.specs.CertificateRun.{certificates_of}
use Rattle.vx_drivers.proofs.OneRun.{run_is_one}
use Rattle.vx_cli.specs.Accepted.{JustChecks}
use Rattle.vx_cli.specs.CheckRuns.{Checks, check_rules}
use Rattle.vx_cli.specs.CheckLaws.{certificate_judges_one, line_reads_one}
use Rattle.vx_drivers.specs.Sending.{Text}
use Rattle.vx_cli.specs.Laws.{CheckIsOne}

pub check_is_one : CheckIsOne
check_is_one feed certs exit other text other_text h k =
    run_is_one check_rules line_reads_one certificate_judges_one (reading_of feed) (certificates_of certs) exit other text other_text h k

-- a run that is done is all that `check` does
pub just_checks : (feed certs : List ℕ) (text : Text) → Checks feed certs Done text → JustChecks feed certs text
just_checks feed certs text there = record {
  there = there;
  only = λ exit other run. check_is_one feed certs exit Done other text run there;
}
