-- The value of JSON that a certificate is written as is read as that certificate.
use Rattle.std.proofs.Common.{◌≡◌, refl, sym, subst, ap, ◌∙◌, ℕ, suc, ◌+◌, ◌-◌, ◌*◌, ◌/◌, ◌%◌, ◌^◌, ◌<◌, ◌≤◌, true, cond, ◌&&◌}
use Rattle.std.proofs.Common.{List, [], ◌∷◌, map, length, take, get_or, ◌++◌, ℤ, pos, negsuc, neg_ℤ, ◌≤ℤ◌, Option, Some, None, Result, Ok, arith}
use Rattle.std.specs.Prelude.{◌==◌, option_and_then, nat_le, nat_lt, int_le, int_lt, nat_abs, codes}
use Rattle.std.specs.Result.{result_ok}
use Rattle.std.proofs.lemmas.Int.{ints}
use Rattle.std.proofs.lemmas.Bool.Decides.{nat_tests}
use Rattle.std.proofs.lemmas.List.{length-map, take_all, take_more, map-append}
use Rattle.serde_json.specs.Data.{Data, string}
use Rattle.serde_json.specs.Find.{get}
use Rattle.vx_num.proofs.ReadBack.{read_back_wide}
use Rattle.vx_clock.specs.Clock.{clock_text}
use Rattle.vx_clock.specs.DayText.{day_text}
use Rattle.vx_clock.specs.RootText.{bare_root_text}
use Rattle.vx_clock.specs.declared.terms.Expiry.{Expiry}
use Rattle.vx_clock.specs.declared.limits.TheConstants.{MINUTES_MIN, MINUTES_MAX, RATE_MIN, RATE_MAX}
use Rattle.vx_clock.proofs.ClockTexts.{read_back_clock, read_back_root}
use Rattle.vx_clock.proofs.DayTexts.{read_back_day}
use Rattle.vx_cert.specs.declared.certificate.Certificate.{Certificate}
use Rattle.vx_cert.specs.declared.certificate.CertBody.{CertBody}
use Rattle.vx_cert.specs.declared.certificate.CertBody.TheVariants.{K0, Single, Index, Soq}
use Rattle.vx_cert.specs.declared.certificate.CertTerm.{CertTerm}
use Rattle.vx_cert.specs.declared.certificate.CertFigure.{CertFigure}
use Rattle.vx_cert.specs.declared.certificate.Ends.{Ends}
use Rattle.vx_cert.specs.declared.certificate.Pair.{Pair}
use Rattle.vx_cert.specs.declared.rows.CertRow.{CertRow}
use Rattle.vx_cert.specs.declared.fault.CertFault.{CertFault}
use Rattle.vx_cert.specs.declared.form.Kind.{Kind}
use Rattle.vx_cert.specs.declared.form.Kind.TheVariants as kind
use Rattle.vx_cert.specs.declared.limits.TheConstants.{VERSION_MIN, VERSION_MAX, LINE_MAX, DAYS_MAX, CENTS_MAX, ROWS_MAX, TAYLOR_TERMS, END_BITS, INDEX_END_BITS}
use Rattle.vx_cert.specs.Form.{both, whole_in, signed_in, word_in, taylor_named, taylor_in, wide_in, part_in, index_end_in, ends_in, index_ends_in}
use Rattle.vx_cert.specs.Form.{all_read, row_in, rows_named, rows_in, list_in, object_in, root_in, date_in, time_in, pair_in, kind_in}
use Rattle.vx_cert.specs.Ranges.{IsBelowPower, AreEndsInRange, IsExpiryInRange, IsTermInRange, IsFigureInRange, IsBodyInRange, IsCertificateInRange}
use Rattle.vx_cert.specs.Reading.{with, field_in, term_fields, term_at, figure_from, one_term, level_body, index_body, body_of, certificate_of}
use Rattle.vx_cert.specs.ReadBack.{IsTermReadBack, IsReadBack}
use Rattle.vx_cert.specs.Written.{list_from, whole_number, signed_number, wide_number, pair_data, two_wide, ends_data, taylor_data, taylor_pair_data, row_data, rows_data, term_data, level_data, one_term_data, index_data, data_by_kind}
use Rattle.vx_cert.proofs.Values.{list_of_items_of}

-- ---- what parts say together

both_said : {A B C : Type 0} (f : A → B → C) (a : Option A) (b : Option B) (x : A) (y : B) → a ≡ Some x → b ≡ Some y → both f a b ≡ Some (f x y)
both_said f a b x y p q = rw (p, q) refl

then_said : {A B : Type 0} (f : A → Option B) (o : Option A) (x : A) (s : Option B) → o ≡ Some x → f x ≡ s → option_and_then f o ≡ s
then_said f o x s p q = rw p q

-- a list of values is read by what it holds
listed : {A : Type 0} (named : List Data → Option A) (ds : List Data) → option_and_then named (list_in (list_from ds)) ≡ named ds
listed named ds = ap named (list_of_items_of ds)

-- ---- whole numbers

whole_back : (low high n : ℕ) → low ≤ n → n ≤ high → whole_in low high (whole_number n) ≡ Some n
whole_back low high n a b =
    let least : nat_le low n ≡ true = grind (arith, nat_tests) in
    let most : nat_le n high ≡ true = grind (arith, nat_tests) in
    rw (least, most) refl

pub word_back : (n : ℕ) → n < 2 ^ 32 → word_in (whole_number n) ≡ Some n
word_back n small = whole_back 0 (2 ^ 32 - 1) n (omega arith) (omega arith)

between : (low high z : ℤ) → low ≤ℤ z → z ≤ℤ high → (int_le low z ≡ true) × (int_le z high ≡ true)
between low high z a b = (grind (arith, ints), grind (arith, ints))

signed_back : (low high z : ℤ) → low ≤ℤ z → z ≤ℤ high → nat_abs z < 2 ^ 63 → signed_in low high (signed_number z) ≡ Some z
signed_back low high (pos n) a b small =
    let fits : nat_lt n (2 ^ 63) ≡ true = grind (arith, nat_tests) in
    let tests = between low high (pos n) a b in
    rw (fits, tests.0, tests.1) refl
signed_back low high (negsuc n) a b small = let tests = between low high (negsuc n) a b in rw (tests.0, tests.1) refl

-- ---- wide numbers

wide_back : (z : ℤ) → IsBelowPower END_BITS z → wide_in (wide_number z) ≡ Some z
wide_back z h = let small : nat_abs z < 2 ^ END_BITS = omega (arith, ints, h.0, h.1) in ap result_ok (read_back_wide z END_BITS small)

pub part_back : (n : ℕ) → n < 2 ^ 64 → part_in (wide_number (pos n)) ≡ Some n
part_back n small =
    let wide = wide_back (pos n) (omega (arith, ints), omega (arith, ints)) in
    let fits : nat_lt n (2 ^ 64) ≡ true = grind (arith, nat_tests) in
    rw (wide, fits) refl

index_end_back : (z : ℤ) → IsBelowPower INDEX_END_BITS z → index_end_in (wide_number z) ≡ Some z
index_end_back z h =
    let wide = wide_back z (omega (arith, ints, h.0, h.1), omega (arith, ints, h.0, h.1)) in
    let low : int_lt (neg_ℤ (pos (2 ^ INDEX_END_BITS))) z ≡ true = grind (arith, ints, h.0) in
    let high : int_lt z (pos (2 ^ INDEX_END_BITS)) ≡ true = grind (arith, ints, h.1) in
    rw (wide, low, high) refl

ends_back : (e : Ends) → AreEndsInRange e → ends_in (ends_data e) ≡ Some e
ends_back e h = both_said (λ l h. record { lo = l; hi = h }) (wide_in (wide_number e.lo)) (wide_in (wide_number e.hi)) e.lo e.hi (wide_back e.lo h.lo) (wide_back e.hi h.hi)

index_ends_back : (lo hi : ℤ) → IsBelowPower INDEX_END_BITS lo → IsBelowPower INDEX_END_BITS hi → index_ends_in (two_wide lo hi) ≡ Some (lo, hi)
index_ends_back lo hi a b = both_said (λ l h. (l, h)) (index_end_in (wide_number lo)) (index_end_in (wide_number hi)) lo hi (index_end_back lo a) (index_end_back hi b)

-- ---- texts

expiry_date_back : (x : Expiry) → IsExpiryInRange x → date_in (string (day_text x.date)) ≡ Some x.date
expiry_date_back x h = ap result_ok (read_back_day x.date (h.first, h.last))

-- ---- lists

both_some : {A B C : Type 0} (f : A → B → C) (a : Option A) (b : Option B) (z : C) → both f a b ≡ Some z → (x : A) × (y : B) × (a ≡ Some x) × (b ≡ Some y) × (f x y ≡ z)
both_some f None b z h = absurd cc
both_some f (Some x) None z h = absurd cc
both_some f (Some x) (Some y) z h = (x, y, refl, refl, cc)

-- one more value that says something
read_last : {A B : Type 0} (reading : A → Option B) (xs : List A) (ys : List B) (x : A) (y : B) → reading x ≡ Some y → all_read reading xs ≡ Some ys → all_read reading (xs ++ x ∷ []) ≡ Some (ys ++ y ∷ [])
read_last reading [] ys x y said h = let none : ys ≡ [] = cc in rw (said, none) refl
read_last reading (z ∷ zs) ys x y said h =
    let p = both_some (λ first others. first ∷ others) (reading z) (all_read reading zs) ys h in
    let rest = read_last reading zs p.1 x y said p.3 in
    rw (p.2, rest) (ap (λ all. Some (all ++ y ∷ [])) p.4)

back_more : {B : Type 0} (reading : Data → Option B) (writing : B → Data) (xs : List B) (i : ℕ) (d : B) → i < length xs
    → reading (writing (get_or xs i d)) ≡ Some (get_or xs i d) → all_read reading (map writing (take i xs)) ≡ Some (take i xs)
    → all_read reading (map writing (take (i + 1) xs)) ≡ Some (take (i + 1) xs)
back_more reading writing xs i d h said before =
    let more : take (i + 1) xs ≡ take i xs ++ get_or xs i d ∷ [] = take_more xs i d h in
    rw (more, map-append) (read_last reading (map writing (take i xs)) (take i xs) (writing (get_or xs i d)) (get_or xs i d) said before)

-- the values of a front are read back, and then those of a front with one value more
pub back_in : {B : Type 0} (reading : Data → Option B) (writing : B → Data) (xs ys : List B) (i : ℕ) (d : B) → xs ≡ ys → i < length xs
    → reading (writing (get_or xs i d)) ≡ Some (get_or xs i d) → all_read reading (map writing (take i ys)) ≡ Some (take i ys)
    → all_read reading (map writing (take (i + 1) ys)) ≡ Some (take (i + 1) ys)
back_in {B} reading writing xs ys i d same h said =
    subst (λ (zs : List B). all_read reading (map writing (take i zs)) ≡ Some (take i zs) → all_read reading (map writing (take (i + 1) zs)) ≡ Some (take (i + 1) zs)) same
    (back_more reading writing xs i d h said)

-- all of them are the whole list
pub back_all : {B : Type 0} (reading : Data → Option B) (writing : B → Data) (xs ys : List B) (i : ℕ) → xs ≡ ys → length xs ≤ i
    → all_read reading (map writing (take i ys)) ≡ Some (take i ys) → all_read reading (map writing ys) ≡ Some ys
back_all {B} reading writing xs ys i same h before =
    let most : length ys ≤ i = subst (λ (zs : List B). length zs ≤ i) same h in
    subst (λ (zs : List B). all_read reading (map writing zs) ≡ Some zs) (take_all i ys most) before

-- numbers of 64 bits
taylor_terms_back : (terms : List ℕ) → ((i : ℕ) → get_or terms i 0 < 2 ^ 64) → all_read part_in (map (λ term. wide_number (pos term)) terms) ≡ Some terms
taylor_terms_back [] fits = refl
taylor_terms_back (term ∷ terms) fits =
    both_said (λ said others. said ∷ others) (part_in (wide_number (pos term))) (all_read part_in (map (λ term. wide_number (pos term)) terms)) term terms
    (part_back term (fits 0)) (taylor_terms_back terms (λ i. fits (suc i)))

pub pair_back : (pair : Pair) → pair.strike < 2 ^ 32 → negsuc (2 ^ 31 - 1) ≤ℤ pair.d → pair.d ≤ℤ pos (2 ^ 31 - 1) → pair_in (pair_data pair) ≡ Some pair
pair_back pair small low high =
    let strike = word_back pair.strike small in
    let d = signed_back (negsuc (2 ^ 31 - 1)) (pos (2 ^ 31 - 1)) pair.d low high (omega (arith, ints)) in
    both_said (λ k z. record { strike = k; d = z }) (word_in (whole_number pair.strike)) (signed_in (negsuc (2 ^ 31 - 1)) (pos (2 ^ 31 - 1)) (signed_number pair.d)) pair.strike pair.d strike d

pub row_back : (row : CertRow) → row.strike < 2 ^ 32 → row.d < 2 ^ 32 → row.q4 < 2 ^ 32 → row.lo < 2 ^ 64 → row.hi < 2 ^ 64 → row_in (row_data row) ≡ Some row
row_back row strike_fits d_fits q4_fits lo_fits hi_fits =
    then_said _ (word_in (whole_number row.strike)) row.strike (Some row) (word_back row.strike strike_fits)
    (then_said _ (word_in (whole_number row.d)) row.d (Some row) (word_back row.d d_fits)
    (then_said _ (word_in (whole_number row.q4)) row.q4 (Some row) (word_back row.q4 q4_fits)
    (both_said (λ l h. record { strike = row.strike; d = row.d; q4 = row.q4; lo = l; hi = h }) (part_in (wide_number (pos row.lo))) (part_in (wide_number (pos row.hi))) row.lo row.hi
    (part_back row.lo lo_fits) (part_back row.hi hi_fits))))

-- the Taylor terms of one side
pub terms_back : (terms : List ℕ) → length terms ≡ TAYLOR_TERMS → ((i : ℕ) → get_or terms i 0 < 2 ^ 64) → option_and_then taylor_named (list_in (taylor_data terms)) ≡ Some terms
terms_back terms many fits =
    let ds : List Data = map (λ term. wide_number (pos term)) terms in
    let same : length ds ≡ length terms = length-map terms (λ term. wide_number (pos term)) in
    let test : (length ds == TAYLOR_TERMS) ≡ true = grind (arith, nat_tests) in
    listed taylor_named ds ∙ (ap (λ t. cond t (all_read part_in ds) None) test ∙ taylor_terms_back terms fits)

-- and of both
pub taylor_back : (low high : List ℕ) → option_and_then taylor_named (list_in (taylor_data low)) ≡ Some low → option_and_then taylor_named (list_in (taylor_data high)) ≡ Some high
    → taylor_in (taylor_pair_data low high) ≡ Some (low, high)
taylor_back low high l h = both_said (λ l h. (l, h)) (option_and_then taylor_named (list_in (taylor_data low))) (option_and_then taylor_named (list_in (taylor_data high))) low high l h

rows_back : (rows : List CertRow) → 1 ≤ length rows → length rows ≤ ROWS_MAX → all_read row_in (map row_data rows) ≡ Some rows → rows_in (rows_data rows) ≡ Some rows
rows_back rows some most said =
    let ds : List Data = map row_data rows in
    let same : length ds ≡ length rows = length-map rows row_data in
    let test : (nat_le 1 (length ds) && nat_le (length ds) ROWS_MAX) ≡ true = grind (arith, nat_tests) in
    listed rows_named ds ∙ (ap (λ t. cond t (all_read row_in ds) None) test ∙ said)

-- ---- fields

step : {A B : Type 0} (n : ℕ) (key : List ℕ) (reading : Data → Option A) (d : Data) (next : A → Result B CertFault) (v : Data) (x : A) (s : Result B CertFault)
    → get key d ≡ Some v → reading v ≡ Some x → next x ≡ s → with (field_in n key reading d) next ≡ s
step n key reading d next v x s here said rest = rw (here, said) rest

goes : {A B : Type 0} (r : Result A CertFault) (next : A → Result B CertFault) (x : A) (s : Result B CertFault) → r ≡ Ok x → next x ≡ s → with r next ≡ s
goes r next x s first rest = rw first rest

pub term_back : (term : CertTerm) → IsTermInRange term → pair_in (pair_data term.pair) ≡ Some term.pair → word_in (whole_number term.k0) ≡ Some term.k0
    → taylor_in (taylor_pair_data term.t_lo term.t_hi) ≡ Some (term.t_lo, term.t_hi) → all_read row_in (map row_data term.rows) ≡ Some term.rows → (n : ℕ) → term_fields n (term_data term) ≡ Ok term
term_back term h pair k0 terms rows n =
    let d = term_data term in
    step (100 * n + 1) (codes "root") root_in d _ (string (bare_root_text term.expiry.root)) term.expiry.root (Ok term) refl (read_back_root term.expiry.root) (
    step (100 * n + 2) (codes "date") date_in d _ (string (day_text term.expiry.date)) term.expiry.date (Ok term) refl (expiry_date_back term.expiry h.date) (
    step (100 * n + 3) (codes "minutes") (whole_in MINUTES_MIN MINUTES_MAX) d _ (whole_number term.minutes) term.minutes (Ok term) refl (whole_back MINUTES_MIN MINUTES_MAX term.minutes h.minutes_first h.minutes_last) (
    step (100 * n + 4) (codes "rate") (signed_in RATE_MIN RATE_MAX) d _ (signed_number term.rate) term.rate (Ok term) refl (signed_back RATE_MIN RATE_MAX term.rate h.rate_least h.rate_greatest (omega (arith, ints))) (
    step (100 * n + 5) (codes "exp") taylor_in d _ (taylor_pair_data term.t_lo term.t_hi) (term.t_lo, term.t_hi) (Ok term) refl terms (
    step (100 * n + 6) (codes "e") ends_in d _ (ends_data term.e) term.e (Ok term) refl (ends_back term.e h.e) (
    step (100 * n + 7) (codes "pair") pair_in d _ (pair_data term.pair) term.pair (Ok term) refl pair (
    step (100 * n + 8) (codes "f") ends_in d _ (ends_data term.f) term.f (Ok term) refl (ends_back term.f h.f) (
    step (100 * n + 9) (codes "k0") word_in d _ (whole_number term.k0) term.k0 (Ok term) refl k0 (
    step (100 * n + 10) (codes "g") ends_in d _ (ends_data term.g) term.g (Ok term) refl (ends_back term.g h.g) (
    step (100 * n + 11) (codes "rows") rows_in d _ (rows_data term.rows) term.rows (Ok term) refl (rows_back term.rows h.rows_some h.rows_most rows) (
    step (100 * n + 12) (codes "s") ends_in d _ (ends_data term.s) term.s (Ok term) refl (ends_back term.s h.s) (
    step (100 * n + 13) (codes "w") ends_in d _ (ends_data term.w) term.w (Ok term) refl (ends_back term.w h.w) refl))))))))))))

-- ---- the parts of a certificate

term_at_back : (n : ℕ) (key : List ℕ) (d : Data) (term : CertTerm) → get key d ≡ Some (term_data term) → IsTermReadBack term → term_at n key d ≡ Ok term
term_at_back n key d term here back = step n key object_in d (term_fields n) (term_data term) (term_data term) (Ok term) here refl (back.read_back n)

figure_back : (n : ℕ) (d : Data) (f : CertFigure) → IsFigureInRange f
    → get (codes "x") d ≡ Some (ends_data f.x) → get (codes "ends") d ≡ Some (two_wide f.lo f.hi) → get (codes "cents") d ≡ Some (whole_number f.cents) → figure_from n d ≡ Ok f
figure_back n d f h square index cents =
    step n (codes "x") ends_in d _ (ends_data f.x) f.x (Ok f) square (ends_back f.x h.x) (
    step (n + 1) (codes "ends") index_ends_in d _ (two_wide f.lo f.hi) (f.lo, f.hi) (Ok f) index (index_ends_back f.lo f.hi h.lo h.hi) (
    step (n + 2) (codes "cents") (whole_in 0 CENTS_MAX) d _ (whole_number f.cents) f.cents (Ok f) cents (whole_back 0 CENTS_MAX f.cents (omega arith) h.cents) refl))

pub level_back : (c : Certificate) (x : Expiry) (pair : Pair) (k0 : ℕ) → IsExpiryInRange x → pair_in (pair_data pair) ≡ Some pair → word_in (whole_number k0) ≡ Some k0
    → level_body (level_data c x pair k0) ≡ Ok (K0 x pair k0)
level_back c x pair k0 h pair_said k0_said =
    let d = level_data c x pair k0 in
    let s : Result CertBody CertFault = Ok (K0 x pair k0) in
    step 5 (codes "root") root_in d _ (string (bare_root_text x.root)) x.root s refl (read_back_root x.root) (
    step 6 (codes "date") date_in d _ (string (day_text x.date)) x.date s refl (expiry_date_back x h) (
    step 7 (codes "pair") pair_in d _ (pair_data pair) pair s refl pair_said (
    step 8 (codes "k0") word_in d _ (whole_number k0) k0 s refl k0_said refl)))

single_back : (name : List ℕ) (c : Certificate) (term : CertTerm) (f : CertFigure) → IsFigureInRange f → IsTermReadBack term → one_term (one_term_data name c term f) ≡ Ok (term, f)
single_back name c term f h back =
    let d = one_term_data name c term f in
    goes (term_at 5 (codes "term") d) _ term (Ok (term, f)) (term_at_back 5 (codes "term") d term refl back) (
    goes (figure_from 6 d) _ f (Ok (term, f)) (figure_back 6 d f h refl refl refl) refl)

index_back : (c : Certificate) (days : ℕ) (near next : CertTerm) (f : CertFigure) → days ≤ DAYS_MAX → IsFigureInRange f → IsTermReadBack near → IsTermReadBack next
    → index_body (index_data c days near next f) ≡ Ok (Index days near next f)
index_back c days near next f few h first second =
    let d = index_data c days near next f in
    let s : Result CertBody CertFault = Ok (Index days near next f) in
    step 5 (codes "days") (whole_in 0 DAYS_MAX) d _ (whole_number days) days s refl (whole_back 0 DAYS_MAX days (omega arith) few) (
    goes (term_at 6 (codes "near") d) _ near s (term_at_back 6 (codes "near") d near refl first) (
    goes (term_at 7 (codes "next") d) _ next s (term_at_back 7 (codes "next") d next refl second) (
    goes (figure_from 8 d) _ f s (figure_back 8 d f h refl refl refl) refl)))

-- ---- the whole

-- the first four fields, and the body
headed : (d : Data) (c : Certificate) (named : Kind) (name : List ℕ) → IsCertificateInRange c → get (codes "v") d ≡ Some (whole_number c.v) → get (codes "kind") d ≡ Some (string name) → kind_in (string name) ≡ Some named
    → get (codes "line") d ≡ Some (whole_number c.line) → get (codes "time") d ≡ Some (string (clock_text c.time)) → body_of named d ≡ Ok c.body → certificate_of d ≡ Ok c
headed d c named name h v kind_here kind_said line time body_said =
    step 1 (codes "v") (whole_in VERSION_MIN VERSION_MAX) d _ (whole_number c.v) c.v (Ok c) v (whole_back VERSION_MIN VERSION_MAX c.v h.version_first h.version_last) (
    step 2 (codes "kind") kind_in d _ (string name) named (Ok c) kind_here kind_said (
    step 3 (codes "line") (whole_in 1 LINE_MAX) d _ (whole_number c.line) c.line (Ok c) line (whole_back 1 LINE_MAX c.line h.line_first h.line_last) (
    step 4 (codes "time") time_in d _ (string (clock_text c.time)) c.time (Ok c) time (read_back_clock c.time h.time) (
    goes (body_of named d) _ c.body (Ok c) body_said refl))))

-- kind k0
pub level_is_back : (c : Certificate) (x : Expiry) (pair : Pair) (k0 : ℕ) → IsCertificateInRange c → c.body ≡ K0 x pair k0 → level_body (level_data c x pair k0) ≡ Ok (K0 x pair k0) → IsReadBack c
level_is_back c x pair k0 h is back =
    let d = level_data c x pair k0 in
    let said : certificate_of d ≡ Ok c = headed d c kind.Level (codes "k0") h refl refl refl refl refl (back ∙ ap Ok (sym is)) in
    record { read_back = ap (λ body. certificate_of (data_by_kind c body)) is ∙ said }

-- kind single
pub single_is_back : (c : Certificate) (term : CertTerm) (f : CertFigure) → IsCertificateInRange c → c.body ≡ Single term f → IsTermReadBack term → IsReadBack c
single_is_back c term f h is back =
    let d = one_term_data (codes "single") c term f in
    let inside : IsBodyInRange (Single term f) = subst IsBodyInRange is h.body in
    let body_said : body_of kind.Single d ≡ Ok (Single term f) = ap (λ r. with r (λ said. Ok (Single said.0 said.1))) (single_back (codes "single") c term f inside.1 back) in
    let said : certificate_of d ≡ Ok c = headed d c kind.Single (codes "single") h refl refl refl refl refl (body_said ∙ ap Ok (sym is)) in
    record { read_back = ap (λ body. certificate_of (data_by_kind c body)) is ∙ said }

-- kind soq
pub soq_is_back : (c : Certificate) (term : CertTerm) (f : CertFigure) → IsCertificateInRange c → c.body ≡ Soq term f → IsTermReadBack term → IsReadBack c
soq_is_back c term f h is back =
    let d = one_term_data (codes "soq") c term f in
    let inside : IsBodyInRange (Soq term f) = subst IsBodyInRange is h.body in
    let body_said : body_of kind.Soq d ≡ Ok (Soq term f) = ap (λ r. with r (λ said. Ok (Soq said.0 said.1))) (single_back (codes "soq") c term f inside.1 back) in
    let said : certificate_of d ≡ Ok c = headed d c kind.Soq (codes "soq") h refl refl refl refl refl (body_said ∙ ap Ok (sym is)) in
    record { read_back = ap (λ body. certificate_of (data_by_kind c body)) is ∙ said }

-- kind index
pub index_is_back : (c : Certificate) (days : ℕ) (near next : CertTerm) (f : CertFigure) → IsCertificateInRange c → c.body ≡ Index days near next f → IsTermReadBack near → IsTermReadBack next → IsReadBack c
index_is_back c days near next f h is first second =
    let d = index_data c days near next f in
    let inside : IsBodyInRange (Index days near next f) = subst IsBodyInRange is h.body in
    let said : certificate_of d ≡ Ok c = headed d c kind.Index (codes "index") h refl refl refl refl refl (index_back c days near next f inside.0 inside.3 first second ∙ ap Ok (sym is)) in
    record { read_back = ap (λ body. certificate_of (data_by_kind c body)) is ∙ said }
