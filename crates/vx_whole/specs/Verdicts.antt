-- That every certificate is judged, and that every line of a file of certificates is read as something.
use Rattle.std.specs.Prelude.{◌⊎◌, ℕ, List, Result}
use Rattle.vx_feed.specs.declared.events.Event.{Event}
use Rattle.vx_feed.specs.Order.{AreLawful}
use Rattle.vx_cert.specs.declared.certificate.Certificate.{Certificate}
use Rattle.vx_claims.specs.declared.acceptance.Test.{Test}
use Rattle.vx_claims.specs.Accepts.{Accepts, FirstFailing, IsVersion, Meets}
use Rattle.vx_drivers.specs.Answers.{Answer}
use Rattle.vx_cli.specs.CheckRuns.{IsAnswerTo, ReadsOrSays}
use Rattle.vx_drivers.specs.Sending.{Text}

-- a certificate of either version is accepted over some events, or one of its tests is the first that fails
abbrev pub EveryCertificateIsJudged : Type 0
EveryCertificateIsJudged = (events : List Event) (c : Certificate) → IsVersion c.v →
    Accepts events c ⊎ ((test : Test) × FirstFailing (Meets events c) test)

-- over lawful events it has a verdict: a yes, and then it means what it states, or a no with the first test that fails
abbrev pub EveryCertificateHasVerdict : Type 0
EveryCertificateHasVerdict = (events : List Event) (c : Certificate) → AreLawful events → IsVersion c.v →
    (answer : Answer) × IsAnswerTo events c answer

-- a line, whatever its bytes, is read as a certificate, or there is a word for why it is none
abbrev pub EveryLineIsRead : Type 0
EveryLineIsRead = (line : List ℕ) → (said : Result Certificate Text) × ReadsOrSays line said
