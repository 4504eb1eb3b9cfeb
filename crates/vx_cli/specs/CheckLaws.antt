-- A line of certificates is read as one thing at most, and a certificate has one answer at most.
use Rattle.std.proofs.Common.{◌≡◌, ℕ, List, refl, sym, ◌∙◌, ap, inl, inr}
use Rattle.std.specs.Prelude.{codes, Result, Ok, Err}
use Rattle.std.proofs.lemmas.Option.{same_Some}
use Rattle.vx_feed.specs.declared.events.Event.{Event}
use Rattle.vx_cert.specs.declared.certificate.Certificate.{Certificate}
use Rattle.vx_cert.specs.declared.fault.CertFault.{CertFault}
use Rattle.vx_cert.specs.declared.fault.CertFault.TheVariants.{NoMemory, Syntax, Field}
use Rattle.vx_cert.specs.Reading.{ReadsAs, certificate_of}
use Rattle.vx_claims.specs.declared.acceptance.Test.{Test}
use Rattle.vx_claims.specs.Test.{test_number}
use Rattle.vx_claims.proofs.FailingLemmas.{failing_test_is_one, accepted_has_no_failing_test}
use Rattle.vx_drivers.specs.Answers.{Answer, said_yes, said_no}
use Rattle.vx_drivers.specs.Sending.{Text}
use Rattle.vx_cli.specs.ExitText.{field_word}
use Rattle.vx_cli.specs.CheckRuns.{IsAnswerTo, ReadsOrSays, test_word}

-- ---- reading

-- memory was not wanting
abbrev IsRead : Result Certificate CertFault → Type 0
IsRead (Err NoMemory) = ⊥
IsRead _ = Unit {0}

reads_as_one : (line : List ℕ) (s t : Result Certificate CertFault) → IsRead s → IsRead t → ReadsAs line s → ReadsAs line t → s ≡ t
reads_as_one line (Ok c) (Ok c') m n (d, h, p) (e, k, q) = sym p ∙ ap certificate_of (same_Some d e (sym h.1 ∙ k.1)) ∙ q
reads_as_one line (Ok c) (Err NoMemory) m n h k = elim n [ ]
reads_as_one line (Ok c) (Err Syntax) m n (d, h, p) none = absurd (none d h)
reads_as_one line (Ok c) (Err (Field j)) m n (d, h, p) (e, k, q) = sym p ∙ ap certificate_of (same_Some d e (sym h.1 ∙ k.1)) ∙ q
reads_as_one line (Err NoMemory) t m n h k = elim m [ ]
reads_as_one line (Err Syntax) (Ok c) m n none (e, k, q) = absurd (none e k)
reads_as_one line (Err Syntax) (Err NoMemory) m n h k = elim n [ ]
reads_as_one line (Err Syntax) (Err Syntax) m n h k = refl
reads_as_one line (Err Syntax) (Err (Field j)) m n none (e, k, q) = absurd (none e k)
reads_as_one line (Err (Field i)) (Ok c) m n (d, h, p) (e, k, q) = sym p ∙ ap certificate_of (same_Some d e (sym h.1 ∙ k.1)) ∙ q
reads_as_one line (Err (Field i)) (Err NoMemory) m n h k = elim n [ ]
reads_as_one line (Err (Field i)) (Err Syntax) m n (d, h, p) none = absurd (none d h)
reads_as_one line (Err (Field i)) (Err (Field j)) m n (d, h, p) (e, k, q) = sym p ∙ ap certificate_of (same_Some d e (sym h.1 ∙ k.1)) ∙ q

-- a fault as its word
abbrev with_word : Result Certificate CertFault → Result Certificate Text
with_word (Ok c) = Ok c
with_word (Err NoMemory) = Err (codes "")
with_word (Err Syntax) = Err (codes "syntax")
with_word (Err (Field n)) = Err (field_word n)

abbrev IsReadAs : List ℕ → Result Certificate Text → Type 0
IsReadAs line a = (said : Result Certificate CertFault) × IsRead said × ReadsAs line said × (a ≡ with_word said)

read_as : (line : List ℕ) (a : Result Certificate Text) → ReadsOrSays line a → IsReadAs line a
read_as line (Ok c) h = (Ok c, tt, h, refl)
read_as line (Err word) (inl (h, is)) = (Err Syntax, tt, h, ap (λ (w : Text). Err w) is)
read_as line (Err word) (inr (n, h, is)) = (Err (Field n), tt, h, ap (λ (w : Text). Err w) is)

both_read : (line : List ℕ) (a b : Result Certificate Text) → IsReadAs line a → IsReadAs line b → a ≡ b
both_read line a b (s, m, h, p) (t, n, k, q) = p ∙ ap with_word (reads_as_one line s t m n h k) ∙ sym q

pub line_reads_one : (line : List ℕ) (a b : Result Certificate Text) → ReadsOrSays line a → ReadsOrSays line b → a ≡ b
line_reads_one line a b h k = both_read line a b (read_as line a h) (read_as line b k)

-- ---- judging

pub certificate_judges_one : (events : List Event) (c : Certificate) (a b : Answer) → IsAnswerTo events c a → IsAnswerTo events c b → a ≡ b
certificate_judges_one events c (said_yes words) (said_yes others) (accepts, means, p) (accepts', means', q) = ap (λ (w : Text). said_yes w) (p ∙ sym q)
certificate_judges_one events c (said_yes words) (said_no word) (accepts, means, p) (test, first, q) = absurd (accepted_has_no_failing_test events c test accepts first)
certificate_judges_one events c (said_no word) (said_yes words) (test, first, p) (accepts, means, q) = absurd (accepted_has_no_failing_test events c test accepts first)
certificate_judges_one events c (said_no word) (said_no other) (test, first, p) (test', first', q) =
    ap (λ (w : Text). said_no w) (p ∙ ap (λ (t : Test). test_word (test_number t)) (failing_test_is_one events c test test' first first') ∙ sym q)
