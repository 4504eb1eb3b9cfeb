-- How long the line is that a certificate is written as.
use Rattle.std.proofs.Common.{◌≡◌, refl, ℕ, suc, ◌+◌, ◌-◌, ◌*◌, ◌/◌, ◌%◌, ◌^◌, ◌<◌, ◌≤◌, Bool, true, false, not, ◌&&◌, List, [], ◌∷◌, ◌++◌, map, length, ℤ, pos, negsuc, ◌≤ℤ◌, arith}
use Rattle.std.specs.Prelude.{◌==◌, nat_le, nat_lt, nat_abs, codes}
use Rattle.std.specs.List.{All, list_all}
use Rattle.std.proofs.lemmas.Bool.{and_parts}
use Rattle.std.proofs.lemmas.Bool.Decides.{nat_tests}
use Rattle.std.proofs.lemmas.Fmt.{length-decimal-le}
use Rattle.std.proofs.lemmas.Int.{ints}
use Rattle.std.proofs.lemmas.List.{length-append}
use Rattle.std.proofs.lemmas.List.Elements.{All-head, All-tail}
use Rattle.json.specs.Print.{escape_letter, escape_byte, escape, quoted}
use Rattle.serde_json.specs.Data.{Data, string, array, object, Items, no_items, item, Members, no_members, member}
use Rattle.serde_json.specs.View.{items_of}
use Rattle.serde_json.specs.Written.{compact_text, items_text, members_text}
use Rattle.vx_num.specs.Decimal.{is_digit}
use Rattle.vx_num.specs.Written.{wide_text, natural_text}
use Rattle.vx_num.proofs.ReadBack.{natural_text_all, length-natural_text-le}
use Rattle.vx_clock.specs.Clock.{clock_text}
use Rattle.vx_clock.specs.DayText.{day_text, digit_at, year_of, month_of, day_in_month}
use Rattle.vx_clock.specs.RootText.{bare_root_text}
use Rattle.vx_clock.specs.declared.days.DayNo.{DayNo}
use Rattle.vx_clock.specs.declared.terms.Expiry.{Expiry}
use Rattle.vx_clock.specs.declared.terms.Root.{Root}
use Rattle.vx_clock.specs.declared.terms.Root.TheVariants.{Spx, Spxw}
use Rattle.vx_clock.specs.declared.limits.TheConstants.{MINUTE_MAX, RATE_MIN, RATE_MAX}
use Rattle.vx_cert.specs.declared.certificate.Certificate.{Certificate}
use Rattle.vx_cert.specs.declared.certificate.CertBody.{CertBody}
use Rattle.vx_cert.specs.declared.certificate.CertBody.TheVariants.{K0, Single, Index, Soq}
use Rattle.vx_cert.specs.declared.certificate.CertTerm.{CertTerm}
use Rattle.vx_cert.specs.declared.certificate.CertFigure.{CertFigure}
use Rattle.vx_cert.specs.declared.certificate.Ends.{Ends}
use Rattle.vx_cert.specs.declared.certificate.Pair.{Pair}
use Rattle.vx_cert.specs.declared.rows.CertRow.{CertRow}
use Rattle.vx_cert.specs.declared.limits.TheConstants.{INDEX_END_BITS, WRITTEN_LEN_MAX}
use Rattle.vx_cert.specs.Ranges.{IsBelowPower, AreEndsInRange, IsTermInRange, IsFigureInRange, IsBodyInRange, IsCertificateInRange}
use Rattle.vx_cert.specs.ReadBack.{IsReadBack}
use Rattle.vx_cert.specs.Written.{whole_number, signed_number, wide_number, pair_data, two_wide, ends_data, taylor_data, taylor_pair_data}
use Rattle.vx_cert.specs.Written.{row_data, rows_data, term_data, level_data, one_term_data, index_data, data_by_kind, certificate_data, certificate_line}
use Rattle.vx_cert.proofs.ReadRanges.{FitsPair, FitsRow, FitTerms, FitsTerm, FitsBody, read_fits}

-- ---- texts that stand for themselves in a text of JSON

-- the byte is written as it is
abbrev is_plain : ℕ → Bool
is_plain x = nat_le 32 x && not (x == 34) && not (x == 92)

letter_none : (x : ℕ) → is_plain x ≡ true → escape_letter x ≡ 0
letter_none x h = grind (arith, nat_tests)

plain_byte_stays : (x : ℕ) → is_plain x ≡ true → escape_byte x ≡ x ∷ []
unfolding escape_byte
plain_byte_stays x h = let no_letter = letter_none x h in let above : nat_lt x 32 ≡ false = grind (arith, nat_tests) in rw (no_letter, above) refl

length-escape : (xs : List ℕ) → list_all is_plain xs ≡ true → length (escape xs) ≡ length xs
length-escape [] h = refl
length-escape (x ∷ xs) h =
    let p = and_parts (is_plain x) (list_all is_plain xs) h in
    let rest = length-escape xs p.1 in
    rw (plain_byte_stays x p.0) (omega arith)

-- a text as it is written, with its two quotes
pub length-quoted : (xs : List ℕ) → list_all is_plain xs ≡ true → length (quoted xs) ≡ 2 + length xs
length-quoted xs h = let inner = length-escape xs h in omega (arith, length-append (escape xs) (34 ∷ []))

digit_plain : (b : ℕ) → is_digit b ≡ true → is_plain b ≡ true
digit_plain b h = grind (arith, nat_tests)

digits_plain : (xs : List ℕ) → list_all is_digit xs ≡ true → list_all is_plain xs ≡ true
digits_plain [] h = refl
digits_plain (x ∷ xs) h = let p = and_parts (is_digit x) (list_all is_digit xs) h in rw (digit_plain x p.0) (digits_plain xs p.1)

-- ---- numbers

natural_length : (k n : ℕ) → 1 ≤ k → n < 10 ^ k → length (compact_text (wide_number (pos n))) ≤ 2 + k
unfolding wide_text
natural_length k n some small =
    let text = length-natural_text-le k some n small in
    let whole = length-quoted (natural_text n) (digits_plain (natural_text n) (natural_text_all n)) in
    omega arith

negative_length : (k n : ℕ) → 1 ≤ k → suc n < 10 ^ k → length (compact_text (wide_number (negsuc n))) ≤ 3 + k
unfolding wide_text
negative_length k n some small =
    let text = length-natural_text-le k some (suc n) small in
    let whole = length-quoted (45 ∷ natural_text (suc n)) (digits_plain (natural_text (suc n)) (natural_text_all (suc n))) in
    omega arith

-- a wide number of so many digits, with its quotes and its sign
wide_length : (k : ℕ) (z : ℤ) → 1 ≤ k → nat_abs z < 10 ^ k → length (compact_text (wide_number z)) ≤ 3 + k
wide_length k (pos n) some small = let least = natural_length k n some small in omega arith
wide_length k (negsuc n) some small = negative_length k n some small

whole_length : (k n : ℕ) → 0 < k → n < 10 ^ k → n < 2 ^ 64 → length (compact_text (whole_number n)) ≤ k
whole_length k n some few small = length-decimal-le k n some few small

word_length : (n : ℕ) → n ≤ 2 ^ 32 - 1 → length (compact_text (whole_number n)) ≤ 10
word_length n h = whole_length 10 n (omega arith) (omega arith) (omega arith)

signed_length : (k : ℕ) (z : ℤ) → 0 < k → nat_abs z < 10 ^ k → nat_abs z < 2 ^ 64 → length (compact_text (signed_number z)) ≤ 1 + k
signed_length k (pos n) some few small = let least = length-decimal-le k n some few small in omega arith
signed_length k (negsuc n) some few small = let least = length-decimal-le k (suc n) some few small in omega arith

-- ---- lists

-- the values behind a first one, each with its comma, and the bracket
record ShortItems (ds : Items) (most : ℕ) : Type 0 where
  holds : length (items_text true ds) ≤ most

more_items : (d : Data) {ds : Items} (a : ℕ) {b : ℕ} → length (compact_text d) ≤ a → ShortItems ds b → ShortItems (item d ds) (1 + (a + b))
more_items d {ds} a h rest = record { holds = omega (arith, rest.holds, length-append (compact_text d) (items_text true ds)) }

list_length : (d : Data) {ds : Items} (a : ℕ) {b : ℕ} → length (compact_text d) ≤ a → ShortItems ds b → length (compact_text (array (item d ds))) ≤ 1 + (a + b)
list_length d {ds} a h rest = omega (arith, rest.holds, length-append (compact_text d) (items_text true ds))

no_more_items : ShortItems no_items 1
no_more_items = record { holds = omega arith }

two_length : (a : ℕ) (d e : Data) → length (compact_text d) ≤ a → length (compact_text e) ≤ a → length (compact_text (array (item d (item e no_items)))) ≤ 3 + 2 * a
two_length a d e h k =
    let whole = list_length d a h (more_items e a k no_more_items) in
    omega arith

ends_length : (e : Ends) → AreEndsInRange e → length (compact_text (ends_data e)) ≤ 85
ends_length e h =
    let lo : nat_abs e.lo < 10 ^ 38 = omega (arith, ints, h.lo) in
    let hi : nat_abs e.hi < 10 ^ 38 = omega (arith, ints, h.hi) in
    two_length 41 (wide_number e.lo) (wide_number e.hi) (wide_length 38 e.lo (omega arith) lo) (wide_length 38 e.hi (omega arith) hi)

index_ends_length : (lo hi : ℤ) → IsBelowPower INDEX_END_BITS lo → IsBelowPower INDEX_END_BITS hi → length (compact_text (two_wide lo hi)) ≤ 47
index_ends_length lo hi h k =
    let low : nat_abs lo < 10 ^ 19 = omega (arith, ints, h) in
    let high : nat_abs hi < 10 ^ 19 = omega (arith, ints, k) in
    two_length 22 (wide_number lo) (wide_number hi) (wide_length 19 lo (omega arith) low) (wide_length 19 hi (omega arith) high)

pair_length : (pair : Pair) → FitsPair pair → length (compact_text (pair_data pair)) ≤ 24
pair_length pair h =
    let abs : nat_abs pair.d < 10 ^ 10 = omega (arith, ints, h.d_low, h.d_high) in
    let small : nat_abs pair.d < 2 ^ 64 = omega (arith, ints, h.d_low, h.d_high) in
    let d = signed_length 10 pair.d (omega arith) abs small in
    let strike = word_length pair.strike h.strike in
    list_length (whole_number pair.strike) 10 strike (more_items (signed_number pair.d) 11 d no_more_items)

-- numbers of 64 bits
parts_length : (terms : List ℕ) → All (λ n. n < 2 ^ 64) terms → ShortItems (items_of (map (λ term. wide_number (pos term)) terms)) (1 + 23 * length terms)
parts_length [] h = record { holds = omega arith }
parts_length (term ∷ terms) h =
    let small : term < 10 ^ 20 = omega (arith, All-head (λ n. n < 2 ^ 64) term terms h) in
    let rest = parts_length terms (All-tail (λ n. n < 2 ^ 64) term terms h) in
    let whole = more_items (wide_number (pos term)) 22 (natural_length 20 term (omega arith) small) rest in
    record { holds = omega (arith, whole.holds) }

taylor_length : (terms : List ℕ) → FitTerms terms → length (compact_text (taylor_data terms)) ≤ 323
taylor_length [] h = omega (arith, h.many)
taylor_length (term ∷ terms) h =
    let small : term < 10 ^ 20 = omega (arith, All-head (λ n. n < 2 ^ 64) term terms h.each) in
    let rest = parts_length terms (All-tail (λ n. n < 2 ^ 64) term terms h.each) in
    let whole = list_length (wide_number (pos term)) 22 (natural_length 20 term (omega arith) small) rest in
    omega (arith, h.many)

both_taylor_length : (low high : List ℕ) → FitTerms low → FitTerms high → length (compact_text (taylor_pair_data low high)) ≤ 649
both_taylor_length low high h k = two_length 323 (taylor_data low) (taylor_data high) (taylor_length low h) (taylor_length high k)

row_length : (row : CertRow) → FitsRow row → length (compact_text (row_data row)) ≤ 80
row_length row h =
    let strike = word_length row.strike h.strike in
    let d = word_length row.d h.d in
    let q4 = word_length row.q4 h.q4 in
    let lo = natural_length 20 row.lo (omega arith) (omega (arith, h.lo)) in
    let hi = natural_length 20 row.hi (omega arith) (omega (arith, h.hi)) in
    list_length (whole_number row.strike) 10 strike
    (more_items (whole_number row.d) 10 d
    (more_items (whole_number row.q4) 10 q4
    (more_items (wide_number (pos row.lo)) 22 lo
    (more_items (wide_number (pos row.hi)) 22 hi no_more_items))))

more_rows_length : (rows : List CertRow) → All FitsRow rows → ShortItems (items_of (map row_data rows)) (1 + 81 * length rows)
more_rows_length [] h = record { holds = omega arith }
more_rows_length (row ∷ rows) h =
    let first = row_length row (All-head FitsRow row rows h) in
    let rest = more_rows_length rows (All-tail FitsRow row rows h) in
    let whole = more_items (row_data row) 80 first rest in
    record { holds = omega (arith, whole.holds) }

rows_length : (rows : List CertRow) → All FitsRow rows → 1 ≤ length rows → length (compact_text (rows_data rows)) ≤ 1 + 81 * length rows
rows_length [] h some = absurd (omega arith)
rows_length (row ∷ rows) h some =
    let first = row_length row (All-head FitsRow row rows h) in
    let rest = more_rows_length rows (All-tail FitsRow row rows h) in
    let whole = list_length (row_data row) 80 first rest in
    omega arith

-- ---- texts

root_length : (r : Root) → length (compact_text (string (bare_root_text r))) ≤ 6
root_length Spx = let whole = length-quoted (codes "SPX") refl in omega arith
root_length Spxw = let whole = length-quoted (codes "SPXW") refl in omega arith

digit_at_plain : (n unit : ℕ) → is_plain (digit_at n unit) ≡ true
digit_at_plain n unit = let small : n / unit % 10 < 10 = omega arith in grind (arith, nat_tests)

day_length : (day : DayNo) → length (compact_text (string (day_text day))) ≤ 12
unfolding day_text
day_length day =
    let y = year_of day in let m = month_of day in let d = day_in_month day in
    let plain : list_all is_plain (day_text day) ≡ true = rw (digit_at_plain y 1000, digit_at_plain y 100, digit_at_plain y 10, digit_at_plain y 1, digit_at_plain m 10, digit_at_plain m 1, digit_at_plain d 10, digit_at_plain d 1) refl in
    let whole = length-quoted (day_text day) plain in
    omega arith

byte_plain : (d : ℕ) → d < 10 → is_plain (48 + d) ≡ true
byte_plain d small = grind (arith, nat_tests)

clock_length : (minute : ℕ) → minute ≤ MINUTE_MAX → length (compact_text (string (clock_text minute))) ≤ 7
clock_length minute h =
    let a = byte_plain (minute / 60 / 10) (omega arith) in
    let b = byte_plain (minute / 60 % 10) (omega arith) in
    let c = byte_plain (minute % 60 / 10) (omega arith) in
    let d = byte_plain (minute % 60 % 10) (omega arith) in
    let plain : list_all is_plain (clock_text minute) ≡ true = rw (a, b, c, d) refl in
    let whole = length-quoted (clock_text minute) plain in
    omega arith

-- ---- numbers in their ranges

rate_length : (z : ℤ) → RATE_MIN ≤ℤ z → z ≤ℤ RATE_MAX → length (compact_text (signed_number z)) ≤ 8
rate_length (pos n) least most = let few : n < 10 ^ 8 = omega (arith, ints) in whole_length 8 n (omega arith) few (omega arith)
rate_length (negsuc n) least most = let few : suc n < 10 ^ 7 = omega (arith, ints) in let rest = length-decimal-le 7 (suc n) (omega arith) few (omega arith) in omega arith

version_length : (c : Certificate) → IsCertificateInRange c → length (compact_text (whole_number c.v)) ≤ 1
version_length c h = whole_length 1 c.v (omega arith) (omega (arith, h.version_last)) (omega (arith, h.version_last))

line_length : (c : Certificate) → IsCertificateInRange c → length (compact_text (whole_number c.line)) ≤ 8
line_length c h = whole_length 8 c.line (omega arith) (omega (arith, h.line_last)) (omega (arith, h.line_last))

cents_length : (f : CertFigure) → IsFigureInRange f → length (compact_text (whole_number f.cents)) ≤ 6
cents_length f h = whole_length 6 f.cents (omega arith) (omega (arith, h.cents)) (omega (arith, h.cents))

-- ---- objects

-- the members behind a first one, each with its comma, and the bracket
record ShortMembers (ms : Members) (most : ℕ) : Type 0 where
  holds : length (members_text true ms) ≤ most

more : (k : List ℕ) (d : Data) {ms : Members} (a : ℕ) {b : ℕ} → list_all is_plain k ≡ true → length (compact_text d) ≤ a → ShortMembers ms b → ShortMembers (member k d ms) (length k + (4 + (a + b)))
more k d {ms} a plain h rest =
    let key = length-quoted k plain in
    record { holds = omega (arith, rest.holds, length-append (quoted k) (58 ∷ (compact_text d ++ members_text true ms)), length-append (compact_text d) (members_text true ms)) }

object_length : (k : List ℕ) (d : Data) {ms : Members} (a : ℕ) {b : ℕ} → list_all is_plain k ≡ true → length (compact_text d) ≤ a → ShortMembers ms b
    → length (compact_text (object (member k d ms))) ≤ length k + (4 + (a + b))
object_length k d {ms} a plain h rest =
    let key = length-quoted k plain in
    omega (arith, rest.holds, length-append (quoted k) (58 ∷ (compact_text d ++ members_text true ms)), length-append (compact_text d) (members_text true ms))

no_members_are_short : ShortMembers no_members 1
no_members_are_short = record { holds = omega arith }

-- a term
term_length : (term : CertTerm) → IsTermInRange term → FitsTerm term → length (compact_text (term_data term)) ≤ 163231
term_length term h fits =
    let w = more (codes "w") (ends_data term.w) 85 refl (ends_length term.w h.w) no_members_are_short in
    let s = more (codes "s") (ends_data term.s) 85 refl (ends_length term.s h.s) w in
    let strip : length (compact_text (rows_data term.rows)) ≤ 162001 = omega (arith, rows_length term.rows fits.rows h.rows_some, h.rows_most) in
    let rows = more (codes "rows") (rows_data term.rows) 162001 refl strip s in
    let root = more (codes "root") (string (bare_root_text term.expiry.root)) 6 refl (root_length term.expiry.root) rows in
    let rate = more (codes "rate") (signed_number term.rate) 8 refl (rate_length term.rate h.rate_least h.rate_greatest) root in
    let pair = more (codes "pair") (pair_data term.pair) 24 refl (pair_length term.pair fits.pair) rate in
    let minutes_text = whole_length 6 term.minutes (omega arith) (omega (arith, h.minutes_last)) (omega (arith, h.minutes_last)) in
    let minutes = more (codes "minutes") (whole_number term.minutes) 6 refl minutes_text pair in
    let k0 = more (codes "k0") (whole_number term.k0) 10 refl (word_length term.k0 fits.k0) minutes in
    let g = more (codes "g") (ends_data term.g) 85 refl (ends_length term.g h.g) k0 in
    let f = more (codes "f") (ends_data term.f) 85 refl (ends_length term.f h.f) g in
    let exp = more (codes "exp") (taylor_pair_data term.t_lo term.t_hi) 649 refl (both_taylor_length term.t_lo term.t_hi fits.low fits.high) f in
    let e = more (codes "e") (ends_data term.e) 85 refl (ends_length term.e h.e) exp in
    object_length (codes "date") (string (day_text term.expiry.date)) 12 refl (day_length term.expiry.date) e

-- ---- certificates

level_length : (c : Certificate) (x : Expiry) (pair : Pair) (k0 : ℕ) → IsCertificateInRange c → FitsPair pair → k0 ≤ 2 ^ 32 - 1 → length (compact_text (level_data c x pair k0)) ≤ 132
level_length c x pair k0 h pair_fits k0_fits =
    let v = more (codes "v") (whole_number c.v) 1 refl (version_length c h) no_members_are_short in
    let time = more (codes "time") (string (clock_text c.time)) 7 refl (clock_length c.time h.time) v in
    let root = more (codes "root") (string (bare_root_text x.root)) 6 refl (root_length x.root) time in
    let closest = more (codes "pair") (pair_data pair) 24 refl (pair_length pair pair_fits) root in
    let line = more (codes "line") (whole_number c.line) 8 refl (line_length c h) closest in
    let kind_text : length (compact_text (string (codes "k0"))) ≤ 4 = omega (arith, length-quoted (codes "k0") refl) in
    let kind = more (codes "kind") (string (codes "k0")) 4 refl kind_text line in
    let level = more (codes "k0") (whole_number k0) 10 refl (word_length k0 k0_fits) kind in
    object_length (codes "date") (string (day_text x.date)) 12 refl (day_length x.date) level

single_length : (name : List ℕ) (c : Certificate) (term : CertTerm) (f : CertFigure) → length (compact_text (string name)) ≤ 8 → IsCertificateInRange c → IsTermInRange term → IsFigureInRange f → FitsTerm term
    → length (compact_text (one_term_data name c term f)) ≤ 163453
single_length name c term f name_fits h term_in f_in fits =
    let x = more (codes "x") (ends_data f.x) 85 refl (ends_length f.x f_in.x) no_members_are_short in
    let v = more (codes "v") (whole_number c.v) 1 refl (version_length c h) x in
    let time = more (codes "time") (string (clock_text c.time)) 7 refl (clock_length c.time h.time) v in
    let inner = more (codes "term") (term_data term) 163231 refl (term_length term term_in fits) time in
    let line = more (codes "line") (whole_number c.line) 8 refl (line_length c h) inner in
    let kind = more (codes "kind") (string name) 8 refl name_fits line in
    let index = more (codes "ends") (two_wide f.lo f.hi) 47 refl (index_ends_length f.lo f.hi f_in.lo f_in.hi) kind in
    object_length (codes "cents") (whole_number f.cents) 6 refl (cents_length f f_in) index

index_length : (c : Certificate) (days : ℕ) (near next : CertTerm) (f : CertFigure) → IsCertificateInRange c → days ≤ 1000 → IsTermInRange near → IsTermInRange next → IsFigureInRange f → FitsTerm near → FitsTerm next
    → length (compact_text (index_data c days near next f)) ≤ 326703
index_length c days near next f h few near_in next_in f_in near_fits next_fits =
    let x = more (codes "x") (ends_data f.x) 85 refl (ends_length f.x f_in.x) no_members_are_short in
    let v = more (codes "v") (whole_number c.v) 1 refl (version_length c h) x in
    let time = more (codes "time") (string (clock_text c.time)) 7 refl (clock_length c.time h.time) v in
    let second = more (codes "next") (term_data next) 163231 refl (term_length next next_in next_fits) time in
    let first = more (codes "near") (term_data near) 163231 refl (term_length near near_in near_fits) second in
    let line = more (codes "line") (whole_number c.line) 8 refl (line_length c h) first in
    let kind_text : length (compact_text (string (codes "index"))) ≤ 7 = omega (arith, length-quoted (codes "index") refl) in
    let kind = more (codes "kind") (string (codes "index")) 7 refl kind_text line in
    let index = more (codes "ends") (two_wide f.lo f.hi) 47 refl (index_ends_length f.lo f.hi f_in.lo f_in.hi) kind in
    let ahead = more (codes "days") (whole_number days) 4 refl (whole_length 4 days (omega arith) (omega arith) (omega arith)) index in
    object_length (codes "cents") (whole_number f.cents) 6 refl (cents_length f f_in) ahead

by_kind : (c : Certificate) (body : CertBody) → IsCertificateInRange c → IsBodyInRange body → FitsBody body → length (compact_text (data_by_kind c body)) ≤ WRITTEN_LEN_MAX
by_kind c (K0 x pair k0) h inside fits = let most = level_length c x pair k0 h fits.0 fits.1 in omega arith
by_kind c (Single term f) h inside fits =
    let name : length (compact_text (string (codes "single"))) ≤ 8 = omega (arith, length-quoted (codes "single") refl) in
    let most = single_length (codes "single") c term f name h inside.0 inside.1 fits in
    omega arith
by_kind c (Index days near next f) h inside fits = index_length c days near next f h inside.0 inside.1 inside.2 inside.3 fits.0 fits.1
by_kind c (Soq term f) h inside fits =
    let name : length (compact_text (string (codes "soq"))) ≤ 8 = omega (arith, length-quoted (codes "soq") refl) in
    let most = single_length (codes "soq") c term f name h inside.0 inside.1 fits in
    omega arith

-- a line that is read back is no longer than the longest
pub line_is_short : (c : Certificate) → IsCertificateInRange c → IsReadBack c → length (certificate_line c) ≤ WRITTEN_LEN_MAX
line_is_short c h back = by_kind c c.body h h.body (read_fits (certificate_data c) c back.read_back)
