-- A certificate that was read has one of the two versions.
use Rattle.std.proofs.Common.{◌≡◌, ◌≤◌, inl, inr, ◌∙◌, sym, ap, subst, refl, ℕ, Bool, true, false, List, Option, Some, None, Result, Ok, Err, arith, if◌then◌else◌}
use Rattle.std.specs.Prelude.{◌&&◌, nat_le, codes, option_and_then}
use Rattle.std.specs.Option.{ok_or}
use Rattle.std.proofs.lemmas.Bool.{cases_order}
use Rattle.std.proofs.lemmas.Bool.Decides.{nat_tests}
use Rattle.serde_json.specs.Find.{get, as_number, as_u64}
use Rattle.vx_cert.specs.declared.certificate.Certificate.{Certificate}
use Rattle.vx_cert.specs.declared.fault.CertFault.{CertFault}
use Rattle.vx_cert.specs.declared.fault.CertFault.TheVariants.{Field}
use Rattle.vx_cert.specs.declared.limits.TheConstants.{LINE_MAX, VERSION_MIN, VERSION_MAX}
use Rattle.vx_cert.specs.Form.{at, kind_in, time_in, whole_in}
use Rattle.vx_cert.specs.Reading.{ReadsAs, body_of, field_in, with}
use Rattle.vx_claims.specs.Accepts.{IsVersion}

-- whatever is read of this kind has this version
abbrev HasVersion : ℕ → Result Certificate CertFault → Type 0
HasVersion version said = (c : Certificate) → said ≡ Ok c → c.v ≡ version

with_version : {A : Type 0} (version : ℕ) (said : Result A CertFault) (next : A → Result Certificate CertFault) → ((a : A) → HasVersion version (next a)) → HasVersion version (with said next)
with_version version (Ok a) next h = h a
with_version version (Err fault) next h = λ c is. cc

ok_version : (version : ℕ) (a : Certificate) → a.v ≡ version → HasVersion version (Ok a)
ok_version version a h = λ c is. let same : a ≡ c = cc in ap (λ (x : Certificate). x.v) (sym same) ∙ h

-- a certificate that follows what was read has a version in range where the version is read first
abbrev IsRequestInRange : Result Certificate CertFault → Type 0
IsRequestInRange said = (c : Certificate) → said ≡ Ok c → IsVersion c.v

with_range : (said : Result ℕ CertFault) (next : ℕ → Result Certificate CertFault) → ((version : ℕ) → said ≡ Ok version → IsVersion version) → ((version : ℕ) → HasVersion version (next version)) → IsRequestInRange (with said next)
with_range (Ok version) next range h = λ c is. subst IsVersion (sym (h version c is)) (range version refl)
with_range (Err fault) next range h = λ c is. cc

in_limits : (n version : ℕ) (b : Bool) → (nat_le VERSION_MIN n && nat_le n VERSION_MAX) ≡ b → (if b then Some n else None) ≡ Some version → IsVersion version
in_limits n version false tests is = cc
in_limits n version true tests is =
    let same : n ≡ version = cc in
    let low : 1 ≤ n = grind (arith, nat_tests) in
    let high : n ≤ 2 = grind (arith, nat_tests) in
    elim (cases_order version 1) [
      | inl e ↦ inl e
      | inr apart ↦ elim apart [ inl less ↦ absurd (omega (arith, same, low, less)) | inr more ↦ inr (omega (arith, same, high, more)) ]
    ]

whole_in_limits : (number : Option ℕ) (version : ℕ) → option_and_then (λ (n : ℕ). if nat_le VERSION_MIN n && nat_le n VERSION_MAX then Some n else None) number ≡ Some version → IsVersion version
whole_in_limits None version is = cc
whole_in_limits (Some n) version is = in_limits n version (nat_le VERSION_MIN n && nat_le n VERSION_MAX) refl is

at_in_limits : {D : Type 0} (reading : D → Option ℕ) (value : Option D) (version : ℕ) → ((d : D) → reading d ≡ Some version → IsVersion version) → option_and_then reading value ≡ Some version → IsVersion version
at_in_limits reading None version range is = cc
at_in_limits reading (Some d) version range is = range d is

found : (o : Option ℕ) (n version : ℕ) → ok_or o (Field n) ≡ Ok version → o ≡ Some version
found None n version is = cc
found (Some x) n version is = let same : x ≡ version = cc in ap (λ (y : ℕ). Some y) same

pub read_has_version : (line : List ℕ) (c : Certificate) → ReadsAs line (Ok c) → IsVersion c.v
read_has_version line c (d, value, read) =
    with_range (field_in 1 (codes "v") (whole_in VERSION_MIN VERSION_MAX) d) _
    (λ version is. at_in_limits (whole_in VERSION_MIN VERSION_MAX) (get (codes "v") d) version (λ e whole. whole_in_limits (option_and_then as_u64 (as_number e)) version whole)
    (found (at (codes "v") (whole_in VERSION_MIN VERSION_MAX) d) 1 version is))
    (λ version. with_version version (field_in 2 (codes "kind") kind_in d) _ (λ named. with_version version (field_in 3 (codes "line") (whole_in 1 LINE_MAX) d) _ (λ number.
    with_version version (field_in 4 (codes "time") time_in d) _ (λ minute. with_version version (body_of named d) _ (λ said.
    ok_version version (record { v = version; line = number; time = minute; body = said }) refl))))) c read
