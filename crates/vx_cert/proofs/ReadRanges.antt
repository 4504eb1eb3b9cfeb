-- A certificate that is read from a value of JSON has each field in its range, and each number in that
-- of its type.
use Rattle.std.proofs.Common.{◌≡◌, ◌≢◌, refl, sym, subst, ap, ◌∙◌, ℕ, ◌+◌, ◌-◌, ◌*◌, ◌^◌, ◌<◌, ◌≤◌, Bool, true, false, cond, not}
use Rattle.std.proofs.Common.{◌&&◌, List, [], ◌∷◌, length, ℤ, pos, negsuc, neg_ℤ, ◌≤ℤ◌, ◌<ℤ◌, Option, Some, None, Result, Ok, Err, arith}
use Rattle.std.specs.Prelude.{◌==◌, IfOk, nat_le, nat_lt, int_le, int_lt, codes, option_and_then}
use Rattle.std.specs.List.{All}
use Rattle.std.specs.Option.{ok_or}
use Rattle.std.specs.Result.{result_ok}
use Rattle.std.proofs.lemmas.Bool.{and_parts, leb-true, ltb-true}
use Rattle.std.proofs.lemmas.Int.{ints}
use Rattle.std.proofs.lemmas.Bool.Decides.{nat_tests}
use Rattle.std.proofs.lemmas.List.Elements.{All-nil, All-cons}
use Rattle.serde_json.specs.Data.{Data}
use Rattle.serde_json.specs.Find.{get, as_number, as_u64, as_i64, as_str}
use Rattle.vx_num.specs.Decimal.{magnitude_of, wide_of as number_of_text, with_sign, digits_worth, is_digits, is_minus}
use Rattle.vx_num.specs.declared.fault.DecimalFault.{DecimalFault}
use Rattle.vx_num.specs.declared.fault.DecimalFault.TheVariants.{NotDigit, TooLarge}
use Rattle.vx_clock.specs.declared.limits.TheConstants.{MINUTES_MIN, MINUTES_MAX, RATE_MIN, RATE_MAX, MINUTE_MAX}
use Rattle.vx_clock.specs.Clock.{time_of_text}
use Rattle.vx_clock.specs.Day.{IsDayInRange, day_of_text}
use Rattle.vx_clock.proofs.TextRanges.{day_of_text_range, past_fault, some_test, time_of_text_range}
use Rattle.vx_cert.specs.declared.certificate.Certificate.{Certificate}
use Rattle.vx_cert.specs.declared.certificate.CertBody.{CertBody}
use Rattle.vx_cert.specs.declared.certificate.CertBody.TheVariants.{K0, Single, Index, Soq}
use Rattle.vx_cert.specs.declared.certificate.CertTerm.{CertTerm}
use Rattle.vx_cert.specs.declared.certificate.CertFigure.{CertFigure}
use Rattle.vx_cert.specs.declared.certificate.Ends.{Ends}
use Rattle.vx_cert.specs.declared.certificate.Pair.{Pair}
use Rattle.vx_cert.specs.declared.rows.CertRow.{CertRow}
use Rattle.vx_cert.specs.declared.fault.CertFault.{CertFault}
use Rattle.vx_cert.specs.declared.fault.CertFault.TheVariants.{NoMemory, Field}
use Rattle.vx_cert.specs.declared.form.Kind.{Kind}
use Rattle.vx_cert.specs.declared.form.Kind.TheVariants as kind
use Rattle.vx_cert.specs.declared.limits.TheConstants.{VERSION_MIN, VERSION_MAX, LINE_MAX, DAYS_MAX, CENTS_MAX, ROWS_MAX, TAYLOR_TERMS, END_BITS, INDEX_END_BITS}
use Rattle.vx_cert.specs.Form.{at, both, has_only, list_in, whole_in, signed_in, word_in, part_in_range, part_in, pair_named, taylor_named, taylor_pair, taylor_in, wide_in, index_end_in}
use Rattle.vx_cert.specs.Form.{ends_named, ends_in, index_ends_named, index_ends_in, all_read, row_named, row_in, rows_named, rows_in, object_in, root_in, date_in, time_in, pair_in, kind_in}
use Rattle.vx_cert.specs.Ranges.{IsBelowPower, AreEndsInRange, IsTermInRange, IsFigureInRange, IsBodyInRange, IsCertificateInRange}
use Rattle.vx_cert.specs.Reading.{with, field_in, with_only, level_names, term_names, one_term_names, index_names, level_body, term_fields, term_at, figure_from, one_term, index_body, body_of, certificate_of}

-- ---- what a result says of the steps that gave it

-- whatever a reading gives has a property
record Gives {A : Type 0} (P : A → Type 0) (reading : Data → Option A) : Type 0 where
  holds : (d : Data) (x : A) → reading d ≡ Some x → P x

-- whatever an answer is has a property
record Has {A : Type 0} (P : A → Type 0) (r : Result A CertFault) : Type 0 where
  holds : (x : A) → r ≡ Ok x → P x

-- ---- numbers in the ranges of their types

pub record FitsPair (pair : Pair) : Type 0 where
  pub strike : pair.strike ≤ 2 ^ 32 - 1
  pub d_low : negsuc (2 ^ 31 - 1) ≤ℤ pair.d
  pub d_high : pair.d ≤ℤ pos (2 ^ 31 - 1)

pub record FitsRow (row : CertRow) : Type 0 where
  pub strike : row.strike ≤ 2 ^ 32 - 1
  pub d : row.d ≤ 2 ^ 32 - 1
  pub q4 : row.q4 ≤ 2 ^ 32 - 1
  pub lo : row.lo < 2 ^ 64
  pub hi : row.hi < 2 ^ 64

-- so many numbers of 64 bits
pub record FitTerms (terms : List ℕ) : Type 0 where
  pub many : length terms ≡ TAYLOR_TERMS
  pub each : All (λ n. n < 2 ^ 64) terms

pub record FitsTerm (term : CertTerm) : Type 0 where
  pub low : FitTerms term.t_lo
  pub high : FitTerms term.t_hi
  pub pair : FitsPair term.pair
  pub k0 : term.k0 ≤ 2 ^ 32 - 1
  pub rows : All FitsRow term.rows

abbrev pub FitsBody : CertBody → Type 0
FitsBody (K0 expiry pair k0) = FitsPair pair × (k0 ≤ 2 ^ 32 - 1)
FitsBody (Single term figure) = FitsTerm term
FitsBody (Index days near next figure) = FitsTerm near × FitsTerm next
FitsBody (Soq term figure) = FitsTerm term

-- ---- what readings give

anything : {A : Type 0} (reading : Data → Option A) → Gives (λ _. Unit {0}) reading
anything reading = record { holds = λ d x e. tt }

found : {A B : Type 0} (f : A → Option B) (o : Option A) (y : B) → option_and_then f o ≡ Some y → (x : A) × (o ≡ Some x) × (f x ≡ Some y)
found f None y h = absurd cc
found f (Some x) y h = (x, refl, h)

some_of : {A : Type 0} (o : Option A) (n : ℕ) (x : A) → ok_or o (Field n) ≡ Ok x → o ≡ Some x
some_of None n x h = absurd cc
some_of (Some y) n x h = let same : y ≡ x = cc in ap Some same

onward : {A B : Type 0} {P : A → Type 0} {Q : B → Type 0} (r : Result A CertFault) (next : A → Result B CertFault) → Has P r → ((x : A) → P x → Has Q (next x)) → Has Q (with r next)
onward (Ok x) next first rest = rest x (first.holds x refl)
onward (Err fault) next first rest = record { holds = λ y e. absurd cc }

step : {A B : Type 0} {P : A → Type 0} {Q : B → Type 0} (n : ℕ) (key : List ℕ) (reading : Data → Option A) (d : Data) (next : A → Result B CertFault)
    → Gives P reading → ((x : A) → P x → Has Q (next x)) → Has Q (with (field_in n key reading d) next)
step n key reading d next gives rest =
    onward (field_in n key reading d) next
    (record { holds = λ x e. let v = found reading (get key d) x (some_of (at key reading d) n x e) in gives.holds v.0 x v.2 })
    rest

last : {A : Type 0} {P : A → Type 0} (x : A) → P x → Has P (Ok x)
last {A} {P} x p = record { holds = λ y e. let same : x ≡ y = cc in subst P same p }

decided : {A : Type 0} {P : A → Type 0} (allowed : Bool) (n : ℕ) (x : A) → P x → Has P (cond allowed (Ok x) (Err (Field n)))
decided true n x p = last x p
decided false n x p = record { holds = λ y e. absurd cc }

only : {A : Type 0} {P : A → Type 0} (names : List (List ℕ)) (n : ℕ) (d : Data) (x : A) → P x → Has P (with_only names n d x)
only names n d x p = decided (has_only names d) n x p

ok_of : {A E : Type 0} (r : Result A E) (x : A) → result_ok r ≡ Some x → r ≡ Ok x
ok_of (Ok y) x h = let same : y ≡ x = cc in ap Ok same
ok_of (Err e) x h = absurd cc

-- what two parts say together
parts : {A B C : Type 0} (f : A → B → C) (a : Option A) (b : Option B) (z : C) → both f a b ≡ Some z → (x : A) × (y : B) × (a ≡ Some x) × (b ≡ Some y) × (f x y ≡ z)
parts f None b z h = absurd cc
parts f (Some x) None z h = absurd cc
parts f (Some x) (Some y) z h = (x, y, refl, refl, cc)

-- ---- numbers

whole : (low high : ℕ) → Gives (λ n. (low ≤ n) × (n ≤ high)) (whole_in low high)
whole low high = record {
  holds = λ d x h.
      let n = found (λ n. cond (nat_le low n && nat_le n high) (Some n) None) (option_and_then as_u64 (as_number d)) x h in
      let t = some_test (nat_le low n.0 && nat_le n.0 high) (Some n.0) x n.2 in
      let both_hold = and_parts (nat_le low n.0) (nat_le n.0 high) t.0 in
      let same : n.0 ≡ x = cc in
      subst (λ m. (low ≤ m) × (m ≤ high)) same (leb-true low n.0 both_hold.0, leb-true n.0 high both_hold.1);
}

int_at_most : (a b : ℤ) → int_le a b ≡ true → a ≤ℤ b
int_at_most a b e = grind (arith, ints)

int_below : (a b : ℤ) → int_lt a b ≡ true → a <ℤ b
int_below a b e = grind (arith, ints)

signed : (low high : ℤ) → Gives (λ z. (low ≤ℤ z) × (z ≤ℤ high)) (signed_in low high)
signed low high = record {
  holds = λ d x h.
      let z = found (λ z. cond (int_le low z && int_le z high) (Some z) None) (option_and_then as_i64 (as_number d)) x h in
      let t = some_test (int_le low z.0 && int_le z.0 high) (Some z.0) x z.2 in
      let both_hold = and_parts (int_le low z.0) (int_le z.0 high) t.0 in
      let same : z.0 ≡ x = cc in
      subst (λ m. (low ≤ℤ m) × (m ≤ℤ high)) same (int_at_most low z.0 both_hold.0, int_at_most z.0 high both_hold.1);
}

magnitude_below : (text : List ℕ) (bits n : ℕ) → magnitude_of text bits ≡ Ok n → n < 2 ^ bits
magnitude_below [] bits n h = absurd cc
magnitude_below (b ∷ bs) bits n h =
    let form = past_fault (not (is_digits (b ∷ bs))) NotDigit (cond (nat_le (2 ^ bits) (digits_worth (b ∷ bs))) (Err TooLarge) (Ok (digits_worth (b ∷ bs)))) n h in
    let small = past_fault (nat_le (2 ^ bits) (digits_worth (b ∷ bs))) TooLarge (Ok (digits_worth (b ∷ bs))) n form.1 in
    let same : digits_worth (b ∷ bs) ≡ n = cc in
    let test = small.0 in
    grind (arith, nat_tests)

sign_below : (minus : Bool) (r : Result ℕ DecimalFault) (bits : ℕ) (z : ℤ) → ((n : ℕ) → r ≡ Ok n → n < 2 ^ bits) → with_sign minus r ≡ Ok z → IsBelowPower bits z
sign_below false (Ok n) bits z small h = let below = small n refl in let same : pos n ≡ z = cc in subst (IsBelowPower bits) same (omega (arith, ints), omega (arith, ints))
sign_below true (Ok n) bits z small h = let below = small n refl in let same : neg_ℤ (pos n) ≡ z = cc in subst (IsBelowPower bits) same (omega (arith, ints), omega (arith, ints))
sign_below false (Err e) bits z small h = absurd cc
sign_below true (Err e) bits z small h = absurd cc

text_below : (text : List ℕ) (bits : ℕ) (z : ℤ) → number_of_text text bits ≡ Ok z → IsBelowPower bits z
unfolding number_of_text
text_below [] bits z h = absurd cc
text_below (b ∷ bs) bits z h =
    sign_below (is_minus b) (magnitude_of (cond (is_minus b) bs (b ∷ bs)) bits) bits z
    (magnitude_below (cond (is_minus b) bs (b ∷ bs)) bits) h

word : Gives (λ n. n ≤ 2 ^ 32 - 1) word_in
word = record { holds = λ d x h. ((whole 0 (2 ^ 32 - 1)).holds d x h).1 }

wide : Gives (IsBelowPower END_BITS) wide_in
wide = record {
  holds = λ d x h.
      let text = found (λ text. result_ok (number_of_text text END_BITS)) (as_str d) x h in
      text_below text.0 END_BITS x (ok_of (number_of_text text.0 END_BITS) x text.2);
}

index_end : Gives (IsBelowPower INDEX_END_BITS) index_end_in
index_end = record {
  holds = λ d x h.
      let low = neg_ℤ (pos (2 ^ INDEX_END_BITS)) in
      let high = pos (2 ^ INDEX_END_BITS) in
      let z = found (λ z. cond (int_lt low z && int_lt z high) (Some z) None) (wide_in d) x h in
      let t = some_test (int_lt low z.0 && int_lt z.0 high) (Some z.0) x z.2 in
      let both_hold = and_parts (int_lt low z.0) (int_lt z.0 high) t.0 in
      let same : z.0 ≡ x = cc in
      subst (IsBelowPower INDEX_END_BITS) same (int_below low z.0 both_hold.0, int_below z.0 high both_hold.1);
}

part_inside : (z : ℤ) (x : ℕ) → part_in_range z ≡ Some x → x < 2 ^ 64
part_inside (pos n) x h =
    let t = some_test (nat_lt n (2 ^ 64)) (Some n) x h in
    let same : n ≡ x = cc in
    let test = t.0 in
    subst (λ m. m < 2 ^ 64) same (ltb-true n (2 ^ 64) test)
part_inside (negsuc n) x h = absurd cc

part : Gives (λ n. n < 2 ^ 64) part_in
part = record { holds = λ d x h. let z = found part_in_range (wide_in d) x h in part_inside z.0 x z.2 }

-- ---- pairs, intervals and lists

pair_inside : (ds : List Data) (x : Pair) → pair_named ds ≡ Some x → FitsPair x
pair_inside [] x h = absurd cc
pair_inside (strike ∷ []) x h = absurd cc
pair_inside (strike ∷ d ∷ []) x h =
    let low = negsuc (2 ^ 31 - 1) in
    let high = pos (2 ^ 31 - 1) in
    let p = parts (λ k z. record { strike = k; d = z }) (word_in strike) (signed_in low high d) x h in
    let range = (signed low high).holds d p.1 p.3 in
    subst FitsPair p.4 (record { strike = word.holds strike p.0 p.2; d_low = range.0; d_high = range.1 })
pair_inside (a ∷ b ∷ c ∷ rest) x h = absurd cc

pair : Gives FitsPair pair_in
pair = record { holds = λ d x h. let list = found pair_named (list_in d) x h in pair_inside list.0 x list.2 }

ends_inside : (ds : List Data) (x : Ends) → ends_named ds ≡ Some x → AreEndsInRange x
ends_inside [] x h = absurd cc
ends_inside (lo ∷ []) x h = absurd cc
ends_inside (lo ∷ hi ∷ []) x h =
    let p = parts (λ l h. record { lo = l; hi = h }) (wide_in lo) (wide_in hi) x h in
    subst AreEndsInRange p.4 (record { lo = wide.holds lo p.0 p.2; hi = wide.holds hi p.1 p.3 })
ends_inside (a ∷ b ∷ c ∷ rest) x h = absurd cc

ends : Gives AreEndsInRange ends_in
ends = record { holds = λ d x h. let list = found ends_named (list_in d) x h in ends_inside list.0 x list.2 }

abbrev AreIndexEnds : ℤ × ℤ → Type 0
AreIndexEnds p = IsBelowPower INDEX_END_BITS p.0 × IsBelowPower INDEX_END_BITS p.1

index_ends_inside : (ds : List Data) (x : ℤ × ℤ) → index_ends_named ds ≡ Some x → AreIndexEnds x
index_ends_inside [] x h = absurd cc
index_ends_inside (lo ∷ []) x h = absurd cc
index_ends_inside (lo ∷ hi ∷ []) x h =
    let p = parts (λ l h. (l, h)) (index_end_in lo) (index_end_in hi) x h in
    subst AreIndexEnds p.4 (index_end.holds lo p.0 p.2, index_end.holds hi p.1 p.3)
index_ends_inside (a ∷ b ∷ c ∷ rest) x h = absurd cc

index_ends : Gives AreIndexEnds index_ends_in
index_ends = record { holds = λ d x h. let list = found index_ends_named (list_in d) x h in index_ends_inside list.0 x list.2 }

-- each value that is read has the property of its reading, and as many are read as there are
all_inside : {A : Type 0} {P : A → Type 0} (reading : Data → Option A) → Gives P reading → (ds : List Data) (xs : List A) → all_read reading ds ≡ Some xs → All P xs × (length xs ≡ length ds)
all_inside {A} {P} reading gives [] xs h = let none : [] ≡ xs = cc in subst (λ ys. All P ys × (length ys ≡ 0)) none (All-nil P, refl)
all_inside {A} {P} reading gives (d ∷ ds) xs h =
    let p = parts (λ said others. said ∷ others) (reading d) (all_read reading ds) xs h in
    let rest = all_inside reading gives ds p.1 p.3 in
    let more : length (p.0 ∷ p.1) ≡ length (d ∷ ds) = omega (arith, rest.1) in
    subst (λ ys. All P ys × (length ys ≡ length (d ∷ ds))) p.4 (All-cons P p.0 p.1 (gives.holds d p.0 p.2) rest.0, more)

terms_inside : (ds : List Data) (xs : List ℕ) → taylor_named ds ≡ Some xs → FitTerms xs
terms_inside ds xs h =
    let t = some_test (length ds == TAYLOR_TERMS) (all_read part_in ds) xs h in
    let all = all_inside part_in part ds xs t.1 in
    let test = t.0 in
    let many : length ds ≡ TAYLOR_TERMS = grind (arith, nat_tests) in
    record { many = all.1 ∙ many; each = all.0 }

abbrev AreTaylor : List ℕ × List ℕ → Type 0
AreTaylor p = FitTerms p.0 × FitTerms p.1

taylor_inside : (ds : List Data) (x : List ℕ × List ℕ) → taylor_pair ds ≡ Some x → AreTaylor x
taylor_inside [] x h = absurd cc
taylor_inside (low ∷ []) x h = absurd cc
taylor_inside (low ∷ high ∷ []) x h =
    let p = parts (λ l h. (l, h)) (option_and_then taylor_named (list_in low)) (option_and_then taylor_named (list_in high)) x h in
    let l = found taylor_named (list_in low) p.0 p.2 in
    let r = found taylor_named (list_in high) p.1 p.3 in
    subst AreTaylor p.4 (terms_inside l.0 p.0 l.2, terms_inside r.0 p.1 r.2)
taylor_inside (a ∷ b ∷ c ∷ rest) x h = absurd cc

taylor : Gives AreTaylor taylor_in
taylor = record { holds = λ d x h. let list = found taylor_pair (list_in d) x h in taylor_inside list.0 x list.2 }

row_fits : (k width price l h : ℕ) (x : CertRow) → record { strike = k; d = width; q4 = price; lo = l; hi = h } ≡ x → k ≤ 2 ^ 32 - 1 → width ≤ 2 ^ 32 - 1 → price ≤ 2 ^ 32 - 1 → l < 2 ^ 64 → h < 2 ^ 64 → FitsRow x
row_fits k width price l h x is a b c d e = subst FitsRow is (record { strike = a; d = b; q4 = c; lo = d; hi = e })

row_inside : (ds : List Data) (x : CertRow) → row_named ds ≡ Some x → FitsRow x
row_inside [] x h = absurd cc
row_inside (a ∷ []) x h = absurd cc
row_inside (a ∷ b ∷ []) x h = absurd cc
row_inside (a ∷ b ∷ c ∷ []) x h = absurd cc
row_inside (a ∷ b ∷ c ∷ e ∷ []) x h = absurd cc
row_inside (strike ∷ d ∷ q4 ∷ lo ∷ hi ∷ []) x h =
    let k = found (λ k. option_and_then (λ width. option_and_then (λ price. both (λ l h. record { strike = k; d = width; q4 = price; lo = l; hi = h }) (part_in lo) (part_in hi)) (word_in q4)) (word_in d)) (word_in strike) x h in
    let w = found (λ width. option_and_then (λ price. both (λ l h. record { strike = k.0; d = width; q4 = price; lo = l; hi = h }) (part_in lo) (part_in hi)) (word_in q4)) (word_in d) x k.2 in
    let p = found (λ price. both (λ l h. record { strike = k.0; d = w.0; q4 = price; lo = l; hi = h }) (part_in lo) (part_in hi)) (word_in q4) x w.2 in
    let e = parts (λ l h. record { strike = k.0; d = w.0; q4 = p.0; lo = l; hi = h }) (part_in lo) (part_in hi) x p.2 in
    row_fits k.0 w.0 p.0 e.0 e.1 x e.4 (word.holds strike k.0 k.1) (word.holds d w.0 w.1) (word.holds q4 p.0 p.1) (part.holds lo e.0 e.2) (part.holds hi e.1 e.3)
row_inside (a ∷ b ∷ c ∷ e ∷ f ∷ g ∷ rest) x h = absurd cc

row : Gives FitsRow row_in
row = record { holds = λ d x h. let list = found row_named (list_in d) x h in row_inside list.0 x list.2 }

abbrev AreRows : List CertRow → Type 0
AreRows rows = (1 ≤ length rows) × (length rows ≤ ROWS_MAX) × All FitsRow rows

rows_inside : (ds : List Data) (x : List CertRow) → rows_named ds ≡ Some x → AreRows x
rows_inside ds x h =
    let t = some_test (nat_le 1 (length ds) && nat_le (length ds) ROWS_MAX) (all_read row_in ds) x h in
    let both_hold = and_parts (nat_le 1 (length ds)) (nat_le (length ds) ROWS_MAX) t.0 in
    let some = leb-true 1 (length ds) both_hold.0 in
    let most = leb-true (length ds) ROWS_MAX both_hold.1 in
    let all = all_inside row_in row ds x t.1 in
    let same = all.1 in
    (omega arith, omega arith, all.0)

rows : Gives AreRows rows_in
rows = record { holds = λ d x h. let list = found rows_named (list_in d) x h in rows_inside list.0 x list.2 }

-- ---- days and times

date : Gives IsDayInRange date_in
date = record {
  holds = λ v x h.
      let text = found (λ text. result_ok (day_of_text text)) (as_str v) x h in
      day_of_text_range text.0 x (ok_of (day_of_text text.0) x text.2);
}

time : Gives (λ minute. minute ≤ MINUTE_MAX) time_in
time = record {
  holds = λ v x h.
      let text = found time_of_text (as_str v) x h in
      time_of_text_range text.0 x text.2;
}

-- ---- the parts of a certificate

abbrev IsBody : CertBody → Type 0
IsBody body = IsBodyInRange body × FitsBody body

level : (d : Data) → Has IsBody (level_body d)
level d =
    step 5 (codes "root") root_in d _ (anything root_in) (λ r _.
    step 6 (codes "date") date_in d _ date (λ day day_in.
    step 7 (codes "pair") pair_in d _ pair (λ closest pair_in.
    step 8 (codes "k0") word_in d _ word (λ k0 k0_in.
    only level_names 0 d _ (record { first = day_in.0; last = day_in.1 }, (pair_in, k0_in))))))

abbrev IsTerm : CertTerm → Type 0
IsTerm term = IsTermInRange term × FitsTerm term

term_inside : (n : ℕ) (d : Data) → Has IsTerm (term_fields n d)
term_inside n d =
    step (100 * n + 1) (codes "root") root_in d _ (anything root_in) (λ r _.
    step (100 * n + 2) (codes "date") date_in d _ date (λ day day_in.
    step (100 * n + 3) (codes "minutes") (whole_in MINUTES_MIN MINUTES_MAX) d _ (whole MINUTES_MIN MINUTES_MAX) (λ minutes minutes_in.
    step (100 * n + 4) (codes "rate") (signed_in RATE_MIN RATE_MAX) d _ (signed RATE_MIN RATE_MAX) (λ rate rate_in.
    step (100 * n + 5) (codes "exp") taylor_in d _ taylor (λ terms terms_in.
    step (100 * n + 6) (codes "e") ends_in d _ ends (λ e e_in.
    step (100 * n + 7) (codes "pair") pair_in d _ pair (λ closest pair_in.
    step (100 * n + 8) (codes "f") ends_in d _ ends (λ f f_in.
    step (100 * n + 9) (codes "k0") word_in d _ word (λ k0 k0_in.
    step (100 * n + 10) (codes "g") ends_in d _ ends (λ g g_in.
    step (100 * n + 11) (codes "rows") rows_in d _ rows (λ strip rows_in.
    step (100 * n + 12) (codes "s") ends_in d _ ends (λ s s_in.
    step (100 * n + 13) (codes "w") ends_in d _ ends (λ w w_in.
    only term_names (100 * n) d _ (
      record {
        date = record { first = day_in.0; last = day_in.1 };
        minutes_first = minutes_in.0;
        minutes_last = minutes_in.1;
        rate_least = rate_in.0;
        rate_greatest = rate_in.1;
        e = e_in;
        f = f_in;
        g = g_in;
        rows_some = rows_in.0;
        rows_most = rows_in.1;
        s = s_in;
        w = w_in;
      },
      record { low = terms_in.0; high = terms_in.1; pair = pair_in; k0 = k0_in; rows = rows_in.2 },
    ))))))))))))))

term : (n : ℕ) (key : List ℕ) (d : Data) → Has IsTerm (term_at n key d)
term n key d = step n key object_in d (term_fields n) (anything object_in) (λ inner _. term_inside n inner)

figure : (n : ℕ) (d : Data) → Has IsFigureInRange (figure_from n d)
figure n d =
    step n (codes "x") ends_in d _ ends (λ x x_in.
    step (n + 1) (codes "ends") index_ends_in d _ index_ends (λ index index_in.
    step (n + 2) (codes "cents") (whole_in 0 CENTS_MAX) d _ (whole 0 CENTS_MAX) (λ cents cents_in.
    last _ (record { x = x_in; lo = index_in.0; hi = index_in.1; cents = cents_in.1 }))))

abbrev IsOneTerm : CertTerm × CertFigure → Type 0
IsOneTerm p = IsTerm p.0 × IsFigureInRange p.1

single : (d : Data) → Has IsOneTerm (one_term d)
single d =
    onward (term_at 5 (codes "term") d) _ (term 5 (codes "term") d) (λ t t_in.
    onward (figure_from 6 d) _ (figure 6 d) (λ f f_in. only one_term_names 0 d _ (t_in, f_in)))

index : (d : Data) → Has IsBody (index_body d)
index d =
    step 5 (codes "days") (whole_in 0 DAYS_MAX) d _ (whole 0 DAYS_MAX) (λ days days_in.
    onward (term_at 6 (codes "near") d) _ (term 6 (codes "near") d) (λ near near_in.
    onward (term_at 7 (codes "next") d) _ (term 7 (codes "next") d) (λ next next_in.
    onward (figure_from 8 d) _ (figure 8 d) (λ f f_in. only index_names 0 d _ ((days_in.1, near_in.0, next_in.0, f_in), (near_in.1, next_in.1))))))

body : (k : Kind) (d : Data) → Has IsBody (body_of k d)
body kind.Level d = level d
body kind.Single d = onward (one_term d) _ (single d) (λ x x_in. last _ ((x_in.0.0, x_in.1), x_in.0.1))
body kind.Index d = index d
body kind.Soq d = onward (one_term d) _ (single d) (λ x x_in. last _ ((x_in.0.0, x_in.1), x_in.0.1))

abbrev IsWhole : Certificate → Type 0
IsWhole c = IsCertificateInRange c × FitsBody c.body

whole_certificate : (d : Data) → Has IsWhole (certificate_of d)
whole_certificate d =
    step 1 (codes "v") (whole_in VERSION_MIN VERSION_MAX) d _ (whole VERSION_MIN VERSION_MAX) (λ v v_in.
    step 2 (codes "kind") kind_in d _ (anything kind_in) (λ k _.
    step 3 (codes "line") (whole_in 1 LINE_MAX) d _ (whole 1 LINE_MAX) (λ line line_in.
    step 4 (codes "time") time_in d _ time (λ minute time_in.
    onward (body_of k d) _ (body k d) (λ b b_in.
    last _ (
      record {
        version_first = v_in.0;
        version_last = v_in.1;
        line_first = line_in.0;
        line_last = line_in.1;
        time = time_in;
        body = b_in.0;
      },
      b_in.1,
    ))))))

-- a certificate that is read from a value is in range
pub read_is_in_range : (d : Data) (r : Result Certificate CertFault) → (r ≢ Err NoMemory → r ≡ certificate_of d) → IfOk r IsCertificateInRange
read_is_in_range d (Ok c) same = ((whole_certificate d).holds c (sym (same (λ e. cc)))).0
read_is_in_range d (Err fault) same = tt

-- and each of its numbers has the range of its type
pub read_fits : (d : Data) (c : Certificate) → certificate_of d ≡ Ok c → FitsBody c.body
read_fits d c h = ((whole_certificate d).holds c h).1
