-- A value of JSON is read as a certificate, or has a field at fault: nothing else is told of it.
use Rattle.std.proofs.Common.{◌≡◌, ◌≢◌, ℕ, ◌+◌, ◌*◌, Bool, true, false, List, Option, Some, None, Result, Ok, Err, subst, sym}
use Rattle.std.specs.Prelude.{codes, if◌then◌else◌}
use Rattle.serde_json.specs.Data.{Data}
use Rattle.vx_cert.specs.declared.certificate.Certificate.{Certificate}
use Rattle.vx_cert.specs.declared.fault.CertFault.{CertFault}
use Rattle.vx_cert.specs.declared.fault.CertFault.TheVariants.{NoMemory, Syntax, Field}
use Rattle.vx_cert.specs.declared.form.Kind.{Kind}
use Rattle.vx_cert.specs.declared.form.Kind.TheVariants as kind
use Rattle.std.specs.Option.{ok_or}
use Rattle.vx_clock.specs.declared.limits.TheConstants.{MINUTES_MIN, MINUTES_MAX, RATE_MIN, RATE_MAX}
use Rattle.vx_cert.specs.declared.limits.TheConstants.{VERSION_MIN, VERSION_MAX, LINE_MAX, DAYS_MAX, CENTS_MAX}
use Rattle.vx_cert.specs.Form.{at, has_only, whole_in, signed_in, word_in, taylor_in, ends_in, index_ends_in, rows_in, object_in, root_in, date_in, time_in, pair_in, kind_in}
use Rattle.vx_cert.specs.Reading.{with, field_in, with_only, level_names, term_names, one_term_names, index_names, level_body, term_fields, term_at, figure_from, one_term, index_body, body_of, certificate_of, IsValueOf, ReadsAs}

-- it is something, or a field is at fault
abbrev pub IsOrNamesField : {A : Type 0} → Result A CertFault → Type 0
IsOrNamesField (Ok x) = Unit {0}
IsOrNamesField (Err (Field n)) = Unit {0}
IsOrNamesField (Err _) = ⊥

missing : {A : Type 0} (n : ℕ) (o : Option A) → IsOrNamesField (ok_or o (Field n))
missing n None = tt
missing n (Some x) = tt

onward : {A B : Type 0} (r : Result A CertFault) (next : A → Result B CertFault) → IsOrNamesField r → ((x : A) → IsOrNamesField (next x)) → IsOrNamesField (with r next)
onward (Ok x) next first rest = rest x
onward (Err (Field n)) next first rest = tt
onward (Err Syntax) next first rest = first
onward (Err NoMemory) next first rest = first

step : {A B : Type 0} (n : ℕ) (key : List ℕ) (reading : Data → Option A) (d : Data) (next : A → Result B CertFault) → ((x : A) → IsOrNamesField (next x)) → IsOrNamesField (with (field_in n key reading d) next)
step n key reading d next rest = onward (field_in n key reading d) next (missing n (at key reading d)) rest

decided : {A : Type 0} (allowed : Bool) (n : ℕ) (x : A) → IsOrNamesField (if allowed then Ok x else Err (Field n))
decided true n x = tt
decided false n x = tt

only : {A : Type 0} (names : List (List ℕ)) (n : ℕ) (d : Data) (x : A) → IsOrNamesField (with_only names n d x)
only names n d x = decided (has_only names d) n x

level : (d : Data) → IsOrNamesField (level_body d)
level d =
    step (5) (codes "root") root_in d _ (λ r.
    step (6) (codes "date") date_in d _ (λ day.
    step (7) (codes "pair") pair_in d _ (λ pair.
    step (8) (codes "k0") word_in d _ (λ k0.
    only level_names 0 d _))))

term_inside : (n : ℕ) (d : Data) → IsOrNamesField (term_fields n d)
term_inside n d =
    step (100 * n + 1) (codes "root") root_in d _ (λ r.
    step (100 * n + 2) (codes "date") date_in d _ (λ day.
    step (100 * n + 3) (codes "minutes") (whole_in MINUTES_MIN MINUTES_MAX) d _ (λ minutes.
    step (100 * n + 4) (codes "rate") (signed_in RATE_MIN RATE_MAX) d _ (λ rate.
    step (100 * n + 5) (codes "exp") taylor_in d _ (λ terms.
    step (100 * n + 6) (codes "e") ends_in d _ (λ e.
    step (100 * n + 7) (codes "pair") pair_in d _ (λ pair.
    step (100 * n + 8) (codes "f") ends_in d _ (λ f.
    step (100 * n + 9) (codes "k0") word_in d _ (λ k0.
    step (100 * n + 10) (codes "g") ends_in d _ (λ g.
    step (100 * n + 11) (codes "rows") rows_in d _ (λ rows.
    step (100 * n + 12) (codes "s") ends_in d _ (λ s.
    step (100 * n + 13) (codes "w") ends_in d _ (λ w.
    only term_names (100 * n) d _)))))))))))))

term : (n : ℕ) (key : List ℕ) (d : Data) → IsOrNamesField (term_at n key d)
term n key d = step n key object_in d (term_fields n) (term_inside n)

figure : (n : ℕ) (d : Data) → IsOrNamesField (figure_from n d)
figure n d =
    step (n) (codes "x") ends_in d _ (λ x.
    step (n + 1) (codes "ends") index_ends_in d _ (λ ends.
    step (n + 2) (codes "cents") (whole_in 0 CENTS_MAX) d _ (λ cents.
    tt)))

single : (d : Data) → IsOrNamesField (one_term d)
single d =
    onward (term_at 5 (codes "term") d) _ (term 5 (codes "term") d) (λ t.
    onward (figure_from 6 d) _ (figure 6 d) (λ f. only one_term_names 0 d _))

index : (d : Data) → IsOrNamesField (index_body d)
index d =
    step 5 (codes "days") (whole_in 0 DAYS_MAX) d _ (λ days.
    onward (term_at 6 (codes "near") d) _ (term 6 (codes "near") d) (λ near.
    onward (term_at 7 (codes "next") d) _ (term 7 (codes "next") d) (λ next.
    onward (figure_from 8 d) _ (figure 8 d) (λ f. only index_names 0 d _))))

body : (k : Kind) (d : Data) → IsOrNamesField (body_of k d)
body kind.Level d = level d
body kind.Single d = onward (one_term d) _ (single d) (λ x. tt)
body kind.Index d = index d
body kind.Soq d = onward (one_term d) _ (single d) (λ x. tt)

-- a value is read as a certificate, or a field of it is at fault
pub is_or_names_field : (d : Data) → IsOrNamesField (certificate_of d)
is_or_names_field d =
    step (1) (codes "v") (whole_in VERSION_MIN VERSION_MAX) d _ (λ v.
    step (2) (codes "kind") kind_in d _ (λ k.
    step (3) (codes "line") (whole_in 1 LINE_MAX) d _ (λ line.
    step (4) (codes "time") time_in d _ (λ time.
    onward (body_of k d) _ (body k d) (λ b. tt)))))

-- what is read of a line's value is what the line is read as
pub reads_as : (line : List ℕ) (d : Data) (r : Result Certificate CertFault) → IsValueOf line d → (r ≢ Err NoMemory → r ≡ certificate_of d) → ReadsAs line r
reads_as line d (Ok c) value same = (d, value, sym (same (λ e. cc)))
reads_as line d (Err NoMemory) value same = tt
reads_as line d (Err Syntax) value same = absurd (subst IsOrNamesField (sym (same (λ e. cc))) (is_or_names_field d))
reads_as line d (Err (Field n)) value same = (d, value, sym (same (λ e. cc)))
