-- A line that is read as a certificate is read as nothing else.
use Rattle.std.proofs.Common.{◌≡◌, refl, sym, ap, ◌∙◌, ◌⊎◌, inl, inr, ℕ, List, Result, Ok, Err}
use Rattle.std.proofs.lemmas.Option.{same_Some}
use Rattle.serde_json.specs.Data.{Data}
use Rattle.vx_cert.specs.declared.certificate.Certificate.{Certificate}
use Rattle.vx_cert.specs.declared.fault.CertFault.{CertFault}
use Rattle.vx_cert.specs.declared.fault.CertFault.TheVariants.{NoMemory, Syntax, Field}
use Rattle.vx_cert.specs.Reading.{certificate_of, IsValueOf, ReadsAs}

-- a line is one value at most, which is one certificate at most
same_answer : (line : List ℕ) (d e : Data) (a b : Result Certificate CertFault) → IsValueOf line d → IsValueOf line e → certificate_of d ≡ a → certificate_of e ≡ b → b ≡ a
same_answer line d e a b h k p q = sym q ∙ (ap certificate_of (sym (same_Some d e (sym h.1 ∙ k.1))) ∙ p)

pub one_reading : (line : List ℕ) (c : Certificate) (said : Result Certificate CertFault) → ReadsAs line (Ok c) → ReadsAs line said → (said ≡ Ok c) ⊎ (said ≡ Err NoMemory)
one_reading line c (Ok x) (d, h, p) (e, k, q) = inl (same_answer line d e (Ok c) (Ok x) h k p q)
one_reading line c (Err NoMemory) h k = inr refl
one_reading line c (Err Syntax) (d, h, p) none = absurd (none d h)
one_reading line c (Err (Field n)) (d, h, p) (e, k, q) = inl (same_answer line d e (Ok c) (Err (Field n)) h k p q)
