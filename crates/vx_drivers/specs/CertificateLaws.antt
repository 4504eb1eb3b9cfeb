-- A law of the run that answers certificates: over a feed there is one for any certificates, where each of these can be
-- answered.
use Rattle.std.specs.Prelude.{ℕ, List, take, Result, Ok}
use Rattle.vx_lines.specs.TextLines.{TextLines}
use Rattle.vx_feed.specs.Feed.{Reading}
use Rattle.vx_drivers.specs.declared.exit.Exit.{Exit}
use Rattle.vx_drivers.specs.Answers.{Answer}
use Rattle.vx_drivers.specs.CertificateRun.{Rules, Runs}
use Rattle.vx_drivers.specs.Sending.{Text}

-- every line is read as something, and every certificate has an answer over the feed's events up to the line that it names
pub record AnswersEach {C : Type 0} (rules : Rules C) (feed : Reading) : Type 0 where
  pub reads : (line : List ℕ) → (said : Result C Text) × rules.ReadsAs line said
  pub judges : (line : List ℕ) (c : C) → rules.ReadsAs line (Ok c)
      → (answer : Answer) × rules.Judges (take (rules.named c) feed.events) c answer

-- over such a feed there is a run
abbrev pub RunIsThere : {C : Type 0} → Rules C → Type 0
RunIsThere rules =
    (feed : Reading) (certs : TextLines) → AnswersEach rules feed
    → (exit : Exit) × (text : Text) × Runs rules feed certs exit text
