-- A decimal that has all its places: digits, a dot, and as many digits as there are places.
use Rattle.std.proofs.Common.{◌≡◌, refl, ap, ◌∙◌, ℕ, zero, suc, ◌+◌, ◌-◌, ◌*◌, ◌^◌, ◌<◌, ◌≤◌, Bool, true, false, List, [], ◌∷◌, ◌++◌, length, take, drop, get_or, arith, length-drop}
use Rattle.std.specs.Prelude.{filter, Ok}
use Rattle.std.specs.List.{list_all}
use Rattle.std.proofs.Math.Nat.{mul-le-mul_right, pow-le-pow_right}
use Rattle.std.proofs.lemmas.List.{take_rest}
use Rattle.std.proofs.lemmas.Bool.Decides.{nat_tests}
use Rattle.std.proofs.lemmas.Grind.{pow_more}
use Rattle.vx_num.specs.Decimal.{is_digit, is_digits, is_decimal, is_decimal_rest, places_of, digits_worth, scaled_value, decimal_of}
use Rattle.vx_num.proofs.Decimals.{digit_no_dot, dot_is, filter_digits, rest_from, decimal_of_value}
use Rattle.vx_num.proofs.Texts.{digits_worth-append}

one_digit_below : (d p w : ℕ) → d ≤ 9 → w < p → d * p + w < p * 10
one_digit_below d p w digit low =
    let nines : d * p ≤ 9 * p = mul-le-mul_right p digit in
    omega arith

-- digits are worth less than ten to the power of their number
digits_below : (xs : List ℕ) → list_all is_digit xs ≡ true → digits_worth xs < 10 ^ length xs
digits_below [] h = omega arith
digits_below (x ∷ xs) h = by (is_digit x) refl (λ k. digits_below xs k)
  where
    by : (t : Bool) → is_digit x ≡ t → (list_all is_digit xs ≡ true → digits_worth xs < 10 ^ length xs) → digits_worth (x ∷ xs) < 10 ^ length (x ∷ xs)
    by true e r =
        let others = rw e at h in
        let digit : x - 48 ≤ 9 = grind (arith, nat_tests) in
        let one : length (x ∷ xs) ≡ length xs + 1 = omega arith in
        rw (one, pow_more 10 (length xs)) (one_digit_below (x - 48) (10 ^ length xs) (digits_worth xs) digit (r others))
    by false e r = absurd (let f = rw e at h in cc)

-- few digits are worth little
pub few_digits : (xs : List ℕ) (whole p : ℕ) → length xs ≤ 9 → list_all is_digit xs ≡ true → whole ≡ 0 * p + digits_worth xs → whole < 1000000000
few_digits xs whole p few all is =
    let below = digits_below xs all in
    let most : 10 ^ length xs ≤ 10 ^ 9 = pow-le-pow_right (omega arith) few in
    omega arith

all_digits : (xs : List ℕ) → is_digits xs ≡ true → list_all is_digit xs ≡ true
all_digits [] h = refl
all_digits (x ∷ xs) h = h

some_digits : (xs : List ℕ) → 0 < length xs → list_all is_digit xs ≡ true → is_digits xs ≡ true
some_digits [] some h = absurd (omega arith)
some_digits (x ∷ xs) some h = h

-- digits, a dot and digits are a decimal's rest, with the places and the digits that one sees
parts : (xs : List ℕ) (n : ℕ) → n < length xs → list_all is_digit (take n xs) ≡ true → get_or xs n 0 ≡ 46 → is_digits (drop (suc n) xs) ≡ true
    → (is_decimal_rest xs ≡ true) × (places_of xs ≡ length (drop (suc n) xs)) × (filter is_digit xs ≡ take n xs ++ drop (suc n) xs)
parts [] n within front dot back = absurd (omega arith)
parts (x ∷ xs) zero within front dot back =
    let is = dot_is x dot in
    rw (is.0, is.1) (back, refl, filter_digits xs (all_digits xs back))
parts (x ∷ xs) (suc n) within front dot back = by (is_digit x) refl (λ k. parts xs n (omega arith) k dot back)
  where
    by : (t : Bool) → is_digit x ≡ t
        → (list_all is_digit (take n xs) ≡ true → (is_decimal_rest xs ≡ true) × (places_of xs ≡ length (drop (suc n) xs)) × (filter is_digit xs ≡ take n xs ++ drop (suc n) xs))
        → (is_decimal_rest (x ∷ xs) ≡ true) × (places_of (x ∷ xs) ≡ length (drop (suc n) xs)) × (filter is_digit (x ∷ xs) ≡ x ∷ (take n xs ++ drop (suc n) xs))
    by true e r =
        let others = rw e at front in
        let is = r others in
        let no_dot = digit_no_dot x e in
        rw (e, no_dot) (is.0, is.1, ap (λ ys. x ∷ ys) is.2)
    by false e r = absurd (let f = rw e at front in cc)

-- a decimal's rest that begins with a digit is a decimal
from_rest : (xs : List ℕ) (n : ℕ) → 0 < n → n < length xs → list_all is_digit (take n xs) ≡ true → is_decimal_rest xs ≡ true → is_decimal xs ≡ true
from_rest [] n some within front rest = absurd (omega arith)
from_rest (x ∷ xs) zero some within front rest = absurd (omega arith)
from_rest (x ∷ xs) (suc n) some within front rest = by (is_digit x) refl
  where
    by : (t : Bool) → is_digit x ≡ t → is_decimal (x ∷ xs) ≡ true
    by true e =
        let no_dot = digit_no_dot x e in
        let others = rw (e, no_dot) at rest in
        rw e others
    by false e = absurd (let f = rw e at front in cc)

-- a decimal with all its places is read as the digits before the dot and those behind it
pub decimal_with_all_places : (xs : List ℕ) (point places whole value max p : ℕ) → 0 < point → 0 < places → point + 1 + places ≡ length xs → get_or xs point 0 ≡ 46
    → list_all is_digit (take point xs) ≡ true → whole ≡ 0 * p + digits_worth (take point xs)
    → list_all is_digit (rest_from (point + 1) xs) ≡ true → value ≡ whole * 10 ^ length (rest_from (point + 1) xs) + digits_worth (rest_from (point + 1) xs)
    → value ≤ max → decimal_of xs places max ≡ Ok value
decimal_with_all_places xs point places whole value max p some room len dot front is_whole back is_value fits =
    let next : point + 1 ≡ suc point = omega arith in
    let behind : rest_from (point + 1) xs ≡ drop (suc point) xs = take_rest xs (point + 1) ∙ ap (λ n. drop n xs) next in
    let count : length (drop (suc point) xs) ≡ places = omega (arith, length-drop (suc point) xs) in
    let all = rw behind at back in
    let digits : whole ≡ digits_worth (take point xs) = omega arith in
    let worth = rw (behind, count, digits) at is_value in
    let is = parts xs point (omega arith) front dot (some_digits (drop (suc point) xs) (omega arith) all) in
    let form = from_rest xs point some (omega arith) front is.0 in
    let here : places_of xs ≡ places = is.1 ∙ count in
    let none : places - places ≡ 0 = omega arith in
    let scaled : scaled_value xs places ≡ value = rw (is.2, here, none, digits_worth-append (take point xs) (drop (suc point) xs), count) (omega arith) in
    decimal_of_value xs places max form (omega arith) (omega arith) ∙ ap Ok scaled
