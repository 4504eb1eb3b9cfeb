-- What `check` makes of the lines of a file of certificates, and a run of it. This project's own.
use Rattle.std.specs.Prelude.{◌≡◌, ◌⊎◌, ℕ, ◌++◌, List, codes, Result, Ok, Err}
use Rattle.vx_num.specs.Written.{decimal_text}
use Rattle.vx_clock.specs.Clock.{clock_text}
use Rattle.vx_feed.specs.declared.events.Event.{Event}
use Rattle.vx_feed.specs.Feed.{reading_of}
use Rattle.vx_cert.specs.declared.certificate.CertBody.{CertBody}
use Rattle.vx_cert.specs.declared.certificate.CertBody.TheVariants.{K0, Single, Index, Soq}
use Rattle.vx_cert.specs.declared.certificate.Certificate.{Certificate}
use Rattle.vx_cert.specs.declared.fault.CertFault.TheVariants.{Syntax, Field}
use Rattle.vx_cert.specs.Reading.{ReadsAs}
use Rattle.vx_claims.specs.declared.acceptance.Test.{Test}
use Rattle.vx_claims.specs.Test.{test_number}
use Rattle.vx_claims.specs.Accepts.{Accepts, Meets, FirstFailing}
use Rattle.vx_claims.specs.Means.{Means}
use Rattle.vx_drivers.specs.declared.exit.Exit.{Exit}
use Rattle.vx_drivers.specs.Answers.{Answer, said_yes, said_no}
use Rattle.vx_drivers.specs.CertificateRun.{Rules, Runs, certificates_of}
use Rattle.vx_drivers.specs.Sending.{Text}
use Rattle.vx_cli.specs.ExitText.{field_word}
use Rattle.vx_cli.specs.OutputLines.{strike_text, cents_text}

-- what a certificate states: the level of kind `k0`, or a figure
abbrev pub stated_text : CertBody → Text
stated_text (K0 expiry pair k0) = strike_text k0
stated_text (Single term figure) = cents_text figure.cents
stated_text (Index days near next figure) = cents_text figure.cents
stated_text (Soq term figure) = cents_text figure.cents

-- what a yes says: `hh:mm,figure`
abbrev pub yes_words : Certificate → Text
yes_words c = clock_text c.time ++ codes "," ++ stated_text c.body

-- what a no says of the first test that fails: `An`
abbrev pub test_word : ℕ → Text
test_word number = codes "A" ++ decimal_text number 0

-- what a line is read as: a certificate, or the word for why it is none
abbrev pub ReadsOrSays : List ℕ → Result Certificate Text → Type 0
ReadsOrSays line (Ok c) = ReadsAs line (Ok c)
ReadsOrSays line (Err word) =
    (ReadsAs line (Err Syntax) × (word ≡ codes "syntax")) ⊎ ((n : ℕ) × ReadsAs line (Err (Field n)) × (word ≡ field_word n))

-- the answer to a certificate over the feed's events, those up to the line that it names: yes where it is accepted, and
-- then it means what it states, whoever made it; else no with the first test that fails
abbrev pub IsAnswerTo : List Event → Certificate → Answer → Type 0
IsAnswerTo events c (said_yes words) = Accepts events c × Means events c × (words ≡ yes_words c)
IsAnswerTo events c (said_no word) = (test : Test) × FirstFailing (Meets events c) test × (word ≡ test_word (test_number test))

-- what `check` makes of certificates
abbrev pub check_rules : Rules Certificate
check_rules = record { ReadsAs = ReadsOrSays; named = λ c. c.line; Judges = IsAnswerTo }

-- the run of `check` over a feed and a file of certificates, as texts: how it ends, and what it writes to the output
abbrev pub Checks : List ℕ → List ℕ → Exit → Text → Type 0
Checks feed certs exit text = Runs check_rules (reading_of feed) (certificates_of certs) exit text
