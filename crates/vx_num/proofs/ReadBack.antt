-- What is written is read back.
use Rattle.std.proofs.Common.{◌≡◌, ◌≢◌, refl, sym, ap, subst, ◌∙◌, ℕ, zero, suc, ◌+◌, ◌-◌, ◌*◌, ◌^◌, ◌/◌, ◌%◌, ◌<◌, ◌≤◌, Bool, true, false, List, [], ◌∷◌, ◌++◌, length, get_or, map, ℤ, pos, negsuc, ◌≤ℤ◌, ◌<ℤ◌, arith, pow-add}
use Rattle.std.specs.Prelude.{◌==◌, ◌&&◌, filter, nat_abs, nat_le, neg_ℤ, slice_index, Ok, Some}
use Rattle.std.specs.List.{list_all}
use Rattle.std.specs.Int.Digits.{digits_of, number_from_digits_after, AllBelowBase}
use Rattle.std.proofs.lemmas.Int.Digits.{digits_of_step, number_digits_of, all_below_base_digits_of, length-digits_of-le}
use Rattle.std.proofs.lemmas.List.{append-nil, length-append, length-map}
use Rattle.std.proofs.lemmas.List.Folds.{list_all-append}
use Rattle.std.proofs.lemmas.Bool.Decides.{nat_tests}
use Rattle.std.proofs.Math.Nat.{pow-suc, one-le-pow, pow-le-pow_right}
use Rattle.std.proofs.lemmas.Nat.{div_below}
use Rattle.std.proofs.lemmas.Int.{ints}
use native.Mathlib.Nat.{div-add-mod'}
use Rattle.vx_num.specs.Decimal.{is_digit, is_digits, is_minus, is_decimal, is_decimal_rest, places_of, digits_worth, scaled_value, decimal_of, magnitude_of, signed_decimal_of, with_sign, wide_of}
use Rattle.vx_num.specs.Written.{digit_byte, natural_text, last_digits, decimal_text, signed_text, wide_text}
use Rattle.vx_num.proofs.Texts.{digits_worth-append}
use Rattle.vx_num.proofs.Decimals.{digit_no_dot, filter_digits, decimal_of_value, wide_of_plain}
use Rattle.vx_num.proofs.WrittenLemmas.{last_digits_more, last_digits_none, high_part}

-- ---- the digits of a number

byte_is_digit : (d : ℕ) → d < 10 → is_digit (digit_byte d) ≡ true
byte_is_digit d h = grind (arith, nat_tests)

all_digits : (ds : List ℕ) → AllBelowBase 10 ds → list_all is_digit (map digit_byte ds) ≡ true
all_digits [] h = refl
all_digits (d ∷ ds) h = let first = byte_is_digit d h.0 in rw first (all_digits ds h.1)

worth_after : (n : ℕ) (ds : List ℕ) → number_from_digits_after 10 n ds ≡ n * 10 ^ length ds + digits_worth (map digit_byte ds)
worth_after n [] = omega arith
worth_after n (d ∷ ds) =
    let e = worth_after (n * 10 + d) ds in
    let p = pow-suc 10 (length ds) in
    let l : length (map digit_byte ds) ≡ length ds = length-map ds digit_byte in
    let one : digit_byte d - 48 ≡ d = omega arith in
    rw (l, one, p) (e ∙ omega arith)

natural_text_positive : (n : ℕ) → 0 < n → natural_text n ≡ map digit_byte (digits_of 10 n)
unfolding natural_text
natural_text_positive n p = let some : (n == 0) ≡ false = grind (arith, nat_tests) in rw some

natural_text_zero : natural_text 0 ≡ 48 ∷ []
unfolding natural_text
natural_text_zero = refl

-- what holds of the digit 0 and of the digits of each number above 0
by_natural : (P : ℕ → List ℕ → Type 0) → P 0 (48 ∷ []) → ((n : ℕ) → 0 < n → P n (map digit_byte (digits_of 10 n))) → (n : ℕ) → P n (natural_text n)
by_natural P z f zero = rw natural_text_zero z
by_natural P z f (suc n) = rw (natural_text_positive (suc n) (omega arith)) (f (suc n) (omega arith))

positive_some : (n : ℕ) → 0 < n → 0 < length (digits_of 10 n)
positive_some n h = let e = digits_of_step 10 n (omega arith) h in rw (e, length-append (digits_of 10 (n / 10)) (n % 10 ∷ [])) (omega arith)

-- the text of a number has digits alone
pub natural_text_all : (n : ℕ) → list_all is_digit (natural_text n) ≡ true
natural_text_all = by_natural (λ n xs. list_all is_digit xs ≡ true) refl (λ n p. all_digits (digits_of 10 n) (all_below_base_digits_of 10 n (omega arith)))

-- they are worth the number
pub natural_text_worth : (n : ℕ) → digits_worth (natural_text n) ≡ n
natural_text_worth = by_natural (λ n xs. digits_worth xs ≡ n) refl (λ n p. omega (arith, worth_after 0 (digits_of 10 n), number_digits_of 10 n (omega arith)))

-- and there is one at least
pub natural_text_some : (n : ℕ) → 0 < length (natural_text n)
natural_text_some = by_natural (λ n xs. 0 < length xs) (omega arith) (λ n p. omega (arith, length-map (digits_of 10 n) digit_byte, positive_some n p))

-- a number below 10^k has at most k digits
pub length-natural_text-le : (k : ℕ) → 1 ≤ k → (n : ℕ) → n < 10 ^ k → length (natural_text n) ≤ k
length-natural_text-le k one = by_natural (λ n xs. n < 10 ^ k → length xs ≤ k) (λ h. omega arith) (λ n p h. omega (arith, length-map (digits_of 10 n) digit_byte, length-digits_of-le 10 k n (omega arith) h))

-- the last digits of a number are digits
pub last_digits_all : (k n : ℕ) → list_all is_digit (last_digits k n) ≡ true
last_digits_all zero n = rw (last_digits_none n)
last_digits_all (suc k) n =
    let rest = last_digits_all k (n / 10) in
    let last : is_digit (digit_byte (n % 10)) ≡ true = byte_is_digit (n % 10) (omega arith) in
    rw (last_digits_more k n, list_all-append is_digit (last_digits k (n / 10)) (digit_byte (n % 10) ∷ []), rest, last)

-- as many as are asked
pub length-last_digits : (k n : ℕ) → length (last_digits k n) ≡ k
length-last_digits zero n = rw (last_digits_none n)
length-last_digits (suc k) n = let rest = length-last_digits k (n / 10) in rw (last_digits_more k n, length-append (last_digits k (n / 10)) (digit_byte (n % 10) ∷ []), rest) (omega arith)

-- the part before the last digits, and they, are the number
pub parts_worth : (k n : ℕ) → n / 10 ^ k * 10 ^ k + digits_worth (last_digits k n) ≡ n
parts_worth zero n = rw (last_digits_none n) (omega arith)
parts_worth (suc k) n =
    let rest = parts_worth k (n / 10) in
    let split = div-add-mod' n 10 in
    let one : digit_byte (n % 10) - 48 ≡ n % 10 = omega arith in
    let worth : digits_worth (last_digits (suc k) n) ≡ digits_worth (last_digits k (n / 10)) * 10 + n % 10 = rw (last_digits_more k n, digits_worth-append (last_digits k (n / 10)) (digit_byte (n % 10) ∷ []), one) (omega arith) in
    rw (high_part n k, pow-suc 10 k, worth) (omega arith)

-- ---- decimals

rest_behind : (w r : List ℕ) → list_all is_digit w ≡ true → is_decimal_rest (w ++ r) ≡ is_decimal_rest r
rest_behind [] r h = refl
rest_behind (x ∷ w) r h = by (is_digit x) refl (λ k. rest_behind w r k)
  where
    by : (t : Bool) → is_digit x ≡ t → (list_all is_digit w ≡ true → is_decimal_rest (w ++ r) ≡ is_decimal_rest r) → is_decimal_rest (x ∷ (w ++ r)) ≡ is_decimal_rest r
    by true e f = let g = rw e at h in let d = digit_no_dot x e in rw (d, e) (f g)
    by false e f = absurd (let g = rw e at h in cc)

decimal_behind : (w r : List ℕ) → list_all is_digit w ≡ true → 0 < length w → is_decimal (w ++ r) ≡ is_decimal_rest r
decimal_behind [] r h s = absurd (omega arith)
decimal_behind (x ∷ w) r h s = by (is_digit x) refl
  where
    by : (t : Bool) → is_digit x ≡ t → is_decimal (x ∷ (w ++ r)) ≡ is_decimal_rest r
    by true e = let g = rw e at h in rw e (rest_behind w r g)
    by false e = absurd (let g = rw e at h in cc)

places_behind : (w r : List ℕ) → list_all is_digit w ≡ true → places_of (w ++ r) ≡ places_of r
places_behind [] r h = refl
places_behind (x ∷ w) r h = by (is_digit x) refl (λ k. places_behind w r k)
  where
    by : (t : Bool) → is_digit x ≡ t → (list_all is_digit w ≡ true → places_of (w ++ r) ≡ places_of r) → places_of (x ∷ (w ++ r)) ≡ places_of r
    by true e f = let g = rw e at h in let d = digit_no_dot x e in rw d (f g)
    by false e f = absurd (let g = rw e at h in cc)

filter_behind : (w r : List ℕ) → list_all is_digit w ≡ true → filter is_digit (w ++ r) ≡ w ++ filter is_digit r
filter_behind [] r h = refl
filter_behind (x ∷ w) r h = by (is_digit x) refl (λ k. filter_behind w r k)
  where
    by : (t : Bool) → is_digit x ≡ t → (list_all is_digit w ≡ true → filter is_digit (w ++ r) ≡ w ++ filter is_digit r) → filter is_digit (x ∷ (w ++ r)) ≡ x ∷ (w ++ filter is_digit r)
    by true e f = let g = rw e at h in rw e (ap (λ ys. x ∷ ys) (f g))
    by false e f = absurd (let g = rw e at h in cc)

some_digits : (xs : List ℕ) → 0 < length xs → list_all is_digit xs ≡ true → is_digits xs ≡ true
some_digits [] s h = absurd (omega arith)
some_digits (x ∷ xs) s h = h

-- the text of a decimal is read back as its value
pub read_back_decimal : (value places max : ℕ) → value ≤ max → decimal_of (decimal_text value places) places max ≡ Ok value
unfolding decimal_text
read_back_decimal value zero max h =
    let w = natural_text value in
    let all = natural_text_all value in
    let form : is_decimal (w ++ []) ≡ true = decimal_behind w [] all (natural_text_some value) in
    let places : places_of (w ++ []) ≡ 0 = places_behind w [] all in
    let worth : scaled_value (w ++ []) 0 ≡ value = rw (filter_behind w [] all, places, append-nil w, natural_text_worth value) (omega arith) in
    rw (sym (append-nil w)) (decimal_of_value (w ++ []) 0 max form (omega arith) (omega arith) ∙ ap Ok worth)
read_back_decimal value (suc k) max h =
    let w = natural_text (value / 10 ^ suc k) in
    let f = last_digits (suc k) value in
    let all = natural_text_all (value / 10 ^ suc k) in
    let behind = last_digits_all (suc k) value in
    let many : length f ≡ suc k = length-last_digits (suc k) value in
    let form : is_decimal (w ++ 46 ∷ f) ≡ true = decimal_behind w (46 ∷ f) all (natural_text_some (value / 10 ^ suc k)) ∙ some_digits f (omega arith) behind in
    let places : places_of (w ++ 46 ∷ f) ≡ suc k = places_behind w (46 ∷ f) all ∙ many in
    let digits : filter is_digit (w ++ 46 ∷ f) ≡ w ++ f = filter_behind w (46 ∷ f) all ∙ ap (λ ys. w ++ ys) (filter_digits f behind) in
    let both : digits_worth (w ++ f) ≡ value = rw (digits_worth-append w f, many, natural_text_worth (value / 10 ^ suc k)) (parts_worth (suc k) value) in
    let none : suc k - suc k ≡ 0 = omega arith in
    let worth : scaled_value (w ++ 46 ∷ f) (suc k) ≡ value = rw (digits, places, both, none) (omega arith) in
    decimal_of_value (w ++ 46 ∷ f) (suc k) max form (omega arith) (omega arith) ∙ ap Ok worth

-- ---- whole numbers

magnitude_of_digits : (xs : List ℕ) (bits : ℕ) → 0 < length xs → list_all is_digit xs ≡ true → digits_worth xs < 2 ^ bits → magnitude_of xs bits ≡ Ok (digits_worth xs)
magnitude_of_digits [] bits s h l = absurd (omega arith)
magnitude_of_digits (x ∷ xs) bits s h l = let t : nat_le (2 ^ bits) (digits_worth (x ∷ xs)) ≡ false = grind (arith, nat_tests) in rw (h, t)

read_back_natural : (n bits : ℕ) → n < 2 ^ bits → magnitude_of (natural_text n) bits ≡ Ok n
read_back_natural n bits h =
    let worth = natural_text_worth n in
    magnitude_of_digits (natural_text n) bits (natural_text_some n) (natural_text_all n) (omega arith) ∙ ap Ok worth

no_minus : (xs : List ℕ) → 0 < length xs → list_all is_digit xs ≡ true → get_or xs 0 0 ≢ 45
no_minus [] s h e = absurd (omega arith)
no_minus (x ∷ xs) s h e = let f = rw e at h in cc

-- the text of a whole number is read back as that number
pub read_back_wide : (z : ℤ) (bits : ℕ) → nat_abs z < 2 ^ bits → wide_of (wide_text z) bits ≡ Ok z
unfolding wide_text wide_of
read_back_wide (pos n) bits h = wide_of_plain (natural_text n) bits (no_minus (natural_text n) (natural_text_some n) (natural_text_all n)) ∙ ap (with_sign false) (read_back_natural n bits h)
read_back_wide (negsuc n) bits h = ap (with_sign true) (read_back_natural (suc n) bits h)

-- ---- the parts of a text, as they are written

-- without places the text is that of the number
pub decimal_text_whole : (value places : ℕ) → places ≡ 0 → decimal_text value places ≡ natural_text value
unfolding decimal_text
decimal_text_whole value zero e = refl
decimal_text_whole value (suc k) e = absurd (omega arith)

-- with places it is the whole part, a dot and the last digits
pub decimal_text_parts : (value places : ℕ) → 0 < places → decimal_text value places ≡ natural_text (value / 10 ^ places) ++ 46 ∷ last_digits places value
unfolding decimal_text
decimal_text_parts value zero h = absurd (omega arith)
decimal_text_parts value (suc k) h = refl

-- the whole part of a number of 128 bits has at most 39 digits less its places
whole_part_below : (value places : ℕ) → value < 2 ^ 128 → places ≤ 12 → value / 10 ^ places < 10 ^ (39 - places)
whole_part_below value places v p =
    let sum : 39 - places + places ≡ 39 = omega arith in
    let split : 10 ^ (39 - places) * 10 ^ places ≡ 10 ^ 39 = sym (pow-add 10 (39 - places) places) ∙ ap (λ k. 10 ^ k) sum in
    let one : 0 < 10 ^ places = one-le-pow places 10 (omega arith) in
    let some : value < 10 ^ (39 - places) * 10 ^ places = omega arith in
    div_below value (10 ^ places) (10 ^ (39 - places)) one some

-- so it fits in front of its places and the dot
pub whole_fits : (value places len : ℕ) → value < 2 ^ 128 → places ≤ 12 → len ≡ suc places → value / 10 ^ places < 10 ^ (41 - len)
whole_fits value places len v p e =
    let low = whole_part_below value places v p in
    let room : 39 - places ≤ 41 - len = omega arith in
    let ten : 0 < 10 = omega arith in
    let more : 10 ^ (39 - places) ≤ 10 ^ (41 - len) = pow-le-pow_right ten room in
    omega arith

-- the text of a number of 128 bits leaves room for its sign
pub decimal_text_short : (value places : ℕ) → value < 2 ^ 128 → places ≤ 12 → length (decimal_text value places) ≤ 40
decimal_text_short value zero v p =
    let few : length (natural_text value) ≤ 39 = length-natural_text-le 39 (omega arith) value (omega arith) in
    let same = ap length (decimal_text_whole value 0 refl) in
    omega arith
decimal_text_short value (suc k) v p =
    let whole = natural_text (value / 10 ^ suc k) in
    let few : length whole ≤ 39 - suc k = length-natural_text-le (39 - suc k) (omega arith) (value / 10 ^ suc k) (whole_part_below value (suc k) v p) in
    let many = length-append whole (46 ∷ last_digits (suc k) value) in
    let behind = length-last_digits (suc k) value in
    let same = ap length (decimal_text_parts value (suc k) (omega arith)) in
    omega arith

-- a text with a digit at its front has no minus sign there
no_minus_in_front : (xs rest : List ℕ) → 0 < length xs → list_all is_digit xs ≡ true → is_minus (slice_index (xs ++ rest) 0) ≡ false
no_minus_in_front [] rest s h = absurd (omega arith)
no_minus_in_front (x ∷ xs) rest s h = let digit = both_left (is_digit x) (list_all is_digit xs) h in grind (arith, nat_tests)
  where
    both_left : (a b : Bool) → (a && b) ≡ true → a ≡ true
    both_left true b h = refl
    both_left false b h = h

decimal_has_no_minus : (n places : ℕ) → is_minus (slice_index (decimal_text n places) 0) ≡ false
decimal_has_no_minus n zero =
    let front = no_minus_in_front (natural_text n) [] (natural_text_some n) (natural_text_all n) in
    subst (λ (t : List ℕ). is_minus (slice_index t 0) ≡ false) (append-nil (natural_text n) ∙ sym (decimal_text_whole n 0 refl)) front
decimal_has_no_minus n (suc k) =
    let whole = n / 10 ^ suc k in
    let front = no_minus_in_front (natural_text whole) (46 ∷ last_digits (suc k) n) (natural_text_some whole) (natural_text_all whole) in
    subst (λ (t : List ℕ). is_minus (slice_index t 0) ≡ false) (sym (decimal_text_parts n (suc k) (omega arith))) front

signed_back_by : (text : List ℕ) (places below above n : ℕ) → is_minus (slice_index text 0) ≡ false → decimal_of text places above ≡ Ok n
    → signed_decimal_of text places below above ≡ Some (pos n)
signed_back_by text places below above n sign value = rw (sign, value) refl

-- the text of a decimal with a sign is read back as its value
pub read_back_signed : (z : ℤ) (places below above : ℕ) → neg_ℤ (pos below) ≤ℤ z → z ≤ℤ pos above
    → signed_decimal_of (signed_text z places) places below above ≡ Some z
read_back_signed (pos n) places below above low high =
    signed_back_by (decimal_text n places) places below above n (decimal_has_no_minus n places) (read_back_decimal n places above (omega (arith, ints)))
read_back_signed (negsuc n) places below above low high =
    let value = read_back_decimal (suc n) places below (omega (arith, ints)) in
    rw value refl

-- a number below zero has a minus sign in front
pub wide_text_negative : (z : ℤ) → z <ℤ pos 0 → wide_text z ≡ 45 ∷ natural_text (nat_abs z)
unfolding wide_text
wide_text_negative (pos n) h = absurd (omega (arith, ints))
wide_text_negative (negsuc n) h = refl

-- another has none
pub wide_text_natural : (z : ℤ) → pos 0 ≤ℤ z → wide_text z ≡ natural_text (nat_abs z)
unfolding wide_text
wide_text_natural (pos n) h = refl
wide_text_natural (negsuc n) h = absurd (omega (arith, ints))
