-- The certificate that a line of JSON holds, field by field in the order of the format, or the number
-- of the first field that is missing, of another form or out of range. This project's own format.
use Rattle.std.specs.Prelude.{◌≡◌, ℕ, ◌+◌, ◌*◌, List, [], ◌∷◌, IsUtf8, codes, if◌then◌else◌, Option, Some, Result, Ok, Err, ⊤}
use Rattle.std.specs.Option.{ok_or}
use Rattle.serde_json.specs.Data.{Data}
use Rattle.serde_json.specs.Read.{read}
use Rattle.vx_clock.specs.declared.limits.TheConstants.{MINUTES_MIN, MINUTES_MAX, RATE_MIN, RATE_MAX}
use Rattle.vx_cert.specs.declared.certificate.CertTerm.{CertTerm}
use Rattle.vx_cert.specs.declared.certificate.CertFigure.{CertFigure}
use Rattle.vx_cert.specs.declared.certificate.CertBody.{CertBody}
use Rattle.vx_cert.specs.declared.certificate.CertBody.TheVariants.{K0, Single, Index, Soq}
use Rattle.vx_cert.specs.declared.certificate.Certificate.{Certificate}
use Rattle.vx_cert.specs.declared.fault.CertFault.{CertFault}
use Rattle.vx_cert.specs.declared.fault.CertFault.TheVariants.{NoMemory, Syntax, Field}
use Rattle.vx_cert.specs.declared.limits.TheConstants.{VERSION_MIN, VERSION_MAX, LINE_MAX, DAYS_MAX, CENTS_MAX}
use Rattle.vx_cert.specs.declared.form.Kind.{Kind}
use Rattle.vx_cert.specs.declared.form.Kind.TheVariants as kind
use Rattle.vx_cert.specs.Form.{at, whole_in, signed_in, word_in, taylor_in, ends_in, index_ends_in, rows_in, object_in, root_in, date_in, time_in, pair_in, kind_in, has_only}

-- goes on with what was read, or keeps the fault
abbrev pub with : {A B : Type 0} → Result A CertFault → (A → Result B CertFault) → Result B CertFault
with (Ok said) next = next said
with (Err fault) next = Err fault

-- what a field says, or its number where it says nothing of its form
abbrev pub field_in : {A : Type 0} → ℕ → List ℕ → (Data → Option A) → Data → Result A CertFault
field_in n key reading d = ok_or (at key reading d) (Field n)

-- the names of the fields of kind `k0`
abbrev pub level_names : List (List ℕ)
level_names =
    codes "v" ∷ codes "kind" ∷ codes "line" ∷ codes "time" ∷ codes "root" ∷ codes "date"
    ∷ codes "pair" ∷ codes "k0" ∷ []

-- what was read, where the object has no other field; else the number of any other field
abbrev pub with_only : {A : Type 0} → List (List ℕ) → ℕ → Data → A → Result A CertFault
with_only names n d said = if has_only names d then Ok said else Err (Field n)

-- the fields of kind `k0` from the fifth on
abbrev pub level_body : Data → Result CertBody CertFault
level_body d =
    with (field_in 5 (codes "root") root_in d) (λ r.
    with (field_in 6 (codes "date") date_in d) (λ day.
    with (field_in 7 (codes "pair") pair_in d) (λ closest.
    with (field_in 8 (codes "k0") word_in d) (λ level.
    with_only level_names 0 d (K0 (record { root = r; date = day }) closest level)))))

-- the names of a term's fields
abbrev pub term_names : List (List ℕ)
term_names =
    codes "root" ∷ codes "date" ∷ codes "minutes" ∷ codes "rate" ∷ codes "exp" ∷ codes "e"
    ∷ codes "pair" ∷ codes "f" ∷ codes "k0" ∷ codes "g" ∷ codes "rows" ∷ codes "s" ∷ codes "w" ∷ []

-- the fields of a term whose number is n
abbrev pub term_fields : ℕ → Data → Result CertTerm CertFault
term_fields n d =
    with (field_in (100 * n + 1) (codes "root") root_in d) (λ r.
    with (field_in (100 * n + 2) (codes "date") date_in d) (λ day.
    with (field_in (100 * n + 3) (codes "minutes") (whole_in MINUTES_MIN MINUTES_MAX) d) (λ minutes_left.
    with (field_in (100 * n + 4) (codes "rate") (signed_in RATE_MIN RATE_MAX) d) (λ yearly.
    with (field_in (100 * n + 5) (codes "exp") taylor_in d) (λ terms.
    with (field_in (100 * n + 6) (codes "e") ends_in d) (λ exponential.
    with (field_in (100 * n + 7) (codes "pair") pair_in d) (λ closest.
    with (field_in (100 * n + 8) (codes "f") ends_in d) (λ forward.
    with (field_in (100 * n + 9) (codes "k0") word_in d) (λ level.
    with (field_in (100 * n + 10) (codes "g") ends_in d) (λ above.
    with (field_in (100 * n + 11) (codes "rows") rows_in d) (λ strip.
    with (field_in (100 * n + 12) (codes "s") ends_in d) (λ total.
    with (field_in (100 * n + 13) (codes "w") ends_in d) (λ variance.
    with_only term_names (100 * n) d (record {
      expiry = record { root = r; date = day };
      minutes = minutes_left;
      rate = yearly;
      t_lo = terms.0;
      t_hi = terms.1;
      e = exponential;
      pair = closest;
      f = forward;
      k0 = level;
      g = above;
      rows = strip;
      s = total;
      w = variance;
    }))))))))))))))

-- the term at a field: an object, and its fields
abbrev pub term_at : ℕ → List ℕ → Data → Result CertTerm CertFault
term_at n key d = with (field_in n key object_in d) (term_fields n)

-- the figure at three fields from n on
abbrev pub figure_from : ℕ → Data → Result CertFigure CertFault
figure_from n d =
    with (field_in n (codes "x") ends_in d) (λ square.
    with (field_in (n + 1) (codes "ends") index_ends_in d) (λ index.
    with (field_in (n + 2) (codes "cents") (whole_in 0 CENTS_MAX) d) (λ figure.
    Ok (record { x = square; lo = index.0; hi = index.1; cents = figure }))))

-- the names of the fields of kinds `single` and `soq`
abbrev pub one_term_names : List (List ℕ)
one_term_names =
    codes "v" ∷ codes "kind" ∷ codes "line" ∷ codes "time" ∷ codes "term" ∷ codes "x"
    ∷ codes "ends" ∷ codes "cents" ∷ []

-- the term and the figure of kinds `single` and `soq`, from the fifth field on
abbrev pub one_term : Data → Result (CertTerm × CertFigure) CertFault
one_term d =
    with (term_at 5 (codes "term") d) (λ term.
    with (figure_from 6 d) (λ figure.
    with_only one_term_names 0 d (term, figure)))

-- the names of the fields of kind `index`
abbrev pub index_names : List (List ℕ)
index_names =
    codes "v" ∷ codes "kind" ∷ codes "line" ∷ codes "time" ∷ codes "days" ∷ codes "near"
    ∷ codes "next" ∷ codes "x" ∷ codes "ends" ∷ codes "cents" ∷ []

-- the fields of kind `index` from the fifth on
abbrev pub index_body : Data → Result CertBody CertFault
index_body d =
    with (field_in 5 (codes "days") (whole_in 0 DAYS_MAX) d) (λ ahead.
    with (term_at 6 (codes "near") d) (λ first.
    with (term_at 7 (codes "next") d) (λ second.
    with (figure_from 8 d) (λ figure.
    with_only index_names 0 d (Index ahead first second figure)))))

-- the fields from the fifth on, by the kind
abbrev pub body_of : Kind → Data → Result CertBody CertFault
body_of kind.Level d = level_body d
body_of kind.Single d = with (one_term d) (λ said. Ok (Single said.0 said.1))
body_of kind.Index d = index_body d
body_of kind.Soq d = with (one_term d) (λ said. Ok (Soq said.0 said.1))

-- the certificate that a value of JSON is, or the first field that is not of its form
abbrev pub certificate_of : Data → Result Certificate CertFault
certificate_of d =
    with (field_in 1 (codes "v") (whole_in VERSION_MIN VERSION_MAX) d) (λ version.
    with (field_in 2 (codes "kind") kind_in d) (λ named.
    with (field_in 3 (codes "line") (whole_in 1 LINE_MAX) d) (λ number.
    with (field_in 4 (codes "time") time_in d) (λ minute.
    with (body_of named d) (λ said.
    Ok (record { v = version; line = number; time = minute; body = said }))))))

-- the value of JSON that a line is
abbrev pub IsValueOf : List ℕ → Data → Type 0
IsValueOf line d = IsUtf8 line × (read line ≡ Some d)

-- what a line is read as, where memory is not wanting: a certificate; no JSON; or the fault of the
-- first field that is not of its form
abbrev pub ReadsAs : List ℕ → Result Certificate CertFault → Type 0
ReadsAs line (Ok c) = (d : Data) × IsValueOf line d × (certificate_of d ≡ Ok c)
ReadsAs line (Err NoMemory) = ⊤
ReadsAs line (Err Syntax) = (d : Data) → IsValueOf line d → ⊥
ReadsAs line (Err (Field n)) = (d : Data) × IsValueOf line d × (certificate_of d ≡ Err (Field n))
