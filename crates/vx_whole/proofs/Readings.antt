-- Each line of certificates is read as something: a certificate, no JSON, or a field at fault.
use Rattle.std.proofs.Common.{◌≡◌, refl, inl, inr, ℕ, ◌+◌, ◌*◌, List, Option, Some, None, Result, Ok, Err}
use Rattle.std.specs.Prelude.{codes, if◌then◌else◌, IsUtf8}
use Rattle.std.proofs.lemmas.Str.{IsUtf8-from_is_utf8, is_utf8-from_IsUtf8}
use Rattle.serde_json.specs.Data.{Data}
use Rattle.serde_json.specs.Read.{read}
use Rattle.vx_cert.specs.declared.certificate.Certificate.{Certificate}
use Rattle.vx_cert.specs.declared.fault.CertFault.{CertFault}
use Rattle.vx_cert.specs.declared.fault.CertFault.TheVariants.{NoMemory, Syntax, Field}
use Rattle.vx_cert.specs.declared.form.Kind.TheVariants as kind
use Rattle.vx_cert.specs.Reading.{IsValueOf, certificate_of}
use Rattle.vx_cert.proofs.Faults.{IsOrNamesField, is_or_names_field}
use Rattle.vx_drivers.specs.Sending.{Text}
use Rattle.vx_cli.specs.ExitText.{field_word}
use Rattle.vx_cli.specs.CheckRuns.{ReadsOrSays}
use Rattle.vx_whole.proofs.Decided.{IsDecided, by_test}

abbrev IsReadAsSome : List ℕ → Type 0
IsReadAsSome line = (said : Result Certificate Text) × ReadsOrSays line said

of_value : (line : List ℕ) (d : Data) → IsValueOf line d → (r : Result Certificate CertFault) → certificate_of d ≡ r → IsOrNamesField r → IsReadAsSome line
of_value line d value (Ok c) is s = (Ok c, (d, value, is))
of_value line d value (Err NoMemory) is s = absurd s
of_value line d value (Err Syntax) is s = absurd s
of_value line d value (Err (Field n)) is s = (Err (field_word n), inr (n, (d, value, is), refl))

of_text : (line : List ℕ) → IsUtf8 line → (o : Option Data) → read line ≡ o → IsReadAsSome line
of_text line utf8 None none = (Err (codes "syntax"), inl ((λ d value. let some = value.1 in cc), refl))
of_text line utf8 (Some d) is = of_value line d (utf8, is) (certificate_of d) refl (is_or_names_field d)

by_bytes : (line : List ℕ) → IsDecided (IsUtf8 line) → IsReadAsSome line
by_bytes line (inl utf8) = of_text line utf8 (read line) refl
by_bytes line (inr other) = (Err (codes "syntax"), inl ((λ d value. other value.0), refl))

-- a line is read as something
pub line_is_read : (line : List ℕ) → (said : Result Certificate Text) × ReadsOrSays line said
line_is_read line = by_bytes line (by_test _ (IsUtf8-from_is_utf8 line, is_utf8-from_IsUtf8 line))
