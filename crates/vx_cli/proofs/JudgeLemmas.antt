-- What the checker's verdict makes of a certificate that was read.
use Rattle.std.proofs.Common.{◌≡◌, ◌++◌, ap, subst, ◌∙◌, ℕ, List, [], inl, inr, Ok, Err}
use Rattle.std.specs.Prelude.{codes}
use Rattle.vx_feed.specs.declared.events.Event.{Event}
use Rattle.vx_cert.specs.declared.certificate.Certificate.{Certificate}
use Rattle.vx_cert.specs.declared.fault.CertFault.TheVariants.{Syntax, Field}
use Rattle.vx_cert.specs.Reading.{ReadsAs}
use Rattle.vx_claims.specs.Accepts.{IsVersion}
use Rattle.vx_claims.specs.Means.{Means}
use Rattle.vx_check.specs.declared.verdict.Verdict.{Verdict}
use Rattle.vx_check.specs.declared.verdict.Verdict.TheVariants.{Yes, No}
use Rattle.vx_check.specs.Answers.{IsAnswerOver}
use Rattle.vx_drivers.specs.Answers.{said_yes, said_no}
use Rattle.vx_drivers.specs.Sending.{Text}
use Rattle.vx_cli.specs.ExitText.{field_word}
use Rattle.vx_cli.specs.CheckRuns.{IsAnswerTo, ReadsOrSays, test_word, yes_words}
use Rattle.vx_cli.proofs.VersionLemmas.{read_has_version}

version_of : (c : Certificate) (line : List ℕ) → ReadsOrSays line (Ok c) → IsVersion c.v
version_of c line reads = read_has_version line c reads

appended : (words old text : Text) → old ≡ [] → words ≡ old ++ text → words ≡ text
appended words old text empty is = is ∙ ap (λ (o : Text). o ++ text) empty

-- a yes is the answer of a certificate that was read, which has a version; so it means what it states
pub said_yes_is : (events : List Event) (c : Certificate) (words old : Text) (verdict : Verdict) (line : List ℕ) → ReadsOrSays line (Ok c)
    → IsAnswerOver events c verdict → (IsVersion c.v → verdict ≡ Yes → Means events c) → verdict ≡ Yes → old ≡ [] → words ≡ old ++ yes_words c
    → IsAnswerTo events c (said_yes words)
said_yes_is events c words old verdict line reads answer sound is_yes empty is =
    let met : IsAnswerOver events c Yes = subst (IsAnswerOver events c) is_yes answer in
    let version : IsVersion c.v = version_of c line reads in
    (record { version = version; meets_all = λ test. met test }, sound version is_yes, appended words old (yes_words c) empty is)

-- and so is a no with the word of the first test that fails
pub said_no_is : (events : List Event) (c : Certificate) (words old : Text) (verdict : Verdict) (n : ℕ)
    → IsAnswerOver events c verdict → verdict ≡ No n → old ≡ [] → words ≡ old ++ test_word n → IsAnswerTo events c (said_no words)
said_no_is events c words old verdict n answer is_no empty is =
    let failing : IsAnswerOver events c (No n) = subst (IsAnswerOver events c) is_no answer in
    (failing.0, failing.2, appended words old (test_word n) empty is ∙ ap test_word failing.1)

-- ---- reading

pub syntax_read : (line : List ℕ) (word old : Text) → ReadsAs line (Err Syntax) → old ≡ [] → word ≡ old ++ codes "syntax" → ReadsOrSays line (Err word)
syntax_read line word old reads empty is = inl (reads, appended word old (codes "syntax") empty is)

pub field_read : (line : List ℕ) (word old : Text) (n : ℕ) → ReadsAs line (Err (Field n)) → old ≡ [] → word ≡ old ++ field_word n → ReadsOrSays line (Err word)
field_read line word old n reads empty is = inr (n, reads, appended word old (field_word n) empty is)
