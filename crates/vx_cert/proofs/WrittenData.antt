-- The value of JSON that a certificate is written as has no float, and is not deep.
use Rattle.std.proofs.Common.{◌≡◌, ℕ, false, List, [], ◌∷◌, map, ℤ, pos, negsuc, ◌≤◌, OnOk, Result, Ok, Err, refl, arith}
use Rattle.serde_json.specs.Data.{depth, items_depth}
use Rattle.serde_json.specs.Read.{max_depth}
use Rattle.serde_json.specs.Find.{of_integer, is_float}
use Rattle.serde_json.specs.View.{items_of}
use Rattle.serde_json.specs.Written.{has_float, items_have_float}
use Rattle.vx_cert.specs.declared.certificate.CertTerm.{CertTerm}
use Rattle.vx_cert.specs.declared.certificate.CertBody.{CertBody}
use Rattle.vx_cert.specs.declared.certificate.CertBody.TheVariants.{K0, Single, Index, Soq}
use Rattle.vx_cert.specs.declared.certificate.Certificate.{Certificate}
use Rattle.vx_cert.specs.declared.rows.CertRow.{CertRow}
use Rattle.vx_cert.specs.Written.{wide_number, row_data, term_data, data_by_kind, certificate_data}

integer_is_no_float : (z : ℤ) → is_float (of_integer z) ≡ false
integer_is_no_float (pos n) = refl
integer_is_no_float (negsuc n) = refl

terms_have_none : (terms : List ℕ) → items_have_float (items_of (map (λ term. wide_number (pos term)) terms)) ≡ false
terms_have_none [] = refl
terms_have_none (term ∷ terms) = terms_have_none terms

rows_have_none : (rows : List CertRow) → items_have_float (items_of (map row_data rows)) ≡ false
rows_have_none [] = refl
rows_have_none (row ∷ rows) = rows_have_none rows

term_has_none : (term : CertTerm) → has_float (term_data term) ≡ false
term_has_none term =
    rw (terms_have_none term.t_lo, terms_have_none term.t_hi, integer_is_no_float term.pair.d, integer_is_no_float term.rate, rows_have_none term.rows) refl

by_kind : (c : Certificate) (body : CertBody) → has_float (data_by_kind c body) ≡ false
by_kind c (K0 expiry pair k0) = rw (integer_is_no_float pair.d) refl
by_kind c (Single term figure) = rw (term_has_none term) refl
by_kind c (Index days near next figure) = rw (term_has_none near, term_has_none next) refl
by_kind c (Soq term figure) = rw (term_has_none term) refl

pub certificate_has_no_float : (c : Certificate) → has_float (certificate_data c) ≡ false
certificate_has_no_float c = by_kind c c.body

-- ---- how deep the value is

terms_are_flat : (terms : List ℕ) → items_depth (items_of (map (λ term. wide_number (pos term)) terms)) ≤ 0
terms_are_flat [] = omega arith
terms_are_flat (term ∷ terms) = let rest = terms_are_flat terms in grind arith

rows_are_flat : (rows : List CertRow) → items_depth (items_of (map row_data rows)) ≤ 1
rows_are_flat [] = omega arith
rows_are_flat (row ∷ rows) = let rest = rows_are_flat rows in grind arith

term_depth : (term : CertTerm) → depth (term_data term) ≤ 3
term_depth term =
    let low = terms_are_flat term.t_lo in let high = terms_are_flat term.t_hi in let rows = rows_are_flat term.rows in
    grind arith

kind_depth : (c : Certificate) (body : CertBody) → depth (data_by_kind c body) ≤ 4
kind_depth c (K0 expiry pair k0) = omega arith
kind_depth c (Single term figure) = let inner = term_depth term in grind arith
kind_depth c (Index days near next figure) = let first = term_depth near in let second = term_depth next in grind arith
kind_depth c (Soq term figure) = let inner = term_depth term in grind arith

-- far less deep than a reading takes
pub certificate_depth : (c : Certificate) → depth (certificate_data c) ≤ max_depth
certificate_depth c = let most = kind_depth c c.body in omega arith

-- where a result is Ok, what holds anyway
pub on_ok : {T E X : Type 0} (r : Result T E) → X → OnOk r X
on_ok (Ok t) x = x
on_ok (Err e) x = tt

-- what follows from a clause where it is answered
pub ok_then : {T E X Y : Type 0} (r : Result T E) → (X → Y) → OnOk r X → OnOk r Y
ok_then (Ok t) f x = f x
ok_then (Err e) f x = tt

-- and from two
pub both_then : {T E X Y Z : Type 0} (r : Result T E) → (X → Y → Z) → OnOk r X → OnOk r Y → OnOk r Z
both_then (Ok t) f x y = f x y
both_then (Err e) f x y = tt
