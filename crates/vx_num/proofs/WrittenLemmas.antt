-- What the written texts are, digit by digit, and that they are read back.
use Rattle.std.proofs.Common.{◌≡◌, refl, sym, ℕ, zero, suc, ◌-◌, ◌*◌, ◌^◌, ◌/◌, ◌%◌, ◌<◌, ◌≤◌, false, List, [], ◌∷◌, ◌++◌, arith}
use Rattle.std.specs.Prelude.{◌==◌}
use Rattle.std.specs.Int.Digits.{digits_of}
use Rattle.std.proofs.lemmas.Int.Digits.{digits_of_step}
use Rattle.std.proofs.lemmas.List.{append_assoc, map-append}
use Rattle.std.proofs.lemmas.Bool.Decides.{nat_tests}
use Rattle.std.proofs.Math.Nat.{pow-suc, pow-succ', div-div-eq-div-mul}
use Rattle.std.proofs.lemmas.Nat.{div_below}
use Rattle.vx_num.specs.Written.{digit_byte, natural_text, last_digits}

-- ---- one digit more

positive_digit : (n : ℕ) → 0 < n → n < 10 → natural_text n ≡ digit_byte n ∷ []
unfolding natural_text
positive_digit n p h =
    let some : (n == 0) ≡ false = grind (arith, nat_tests) in
    let high : n / 10 ≡ 0 = omega arith in
    let low : n % 10 ≡ n = omega arith in
    rw (some, digits_of_step 10 n (omega arith) p, high, low)

-- a number below 10 is one digit
pub natural_text_digit : (n : ℕ) → n < 10 → natural_text n ≡ digit_byte n ∷ []
unfolding natural_text
natural_text_digit zero h = refl
natural_text_digit (suc n) h = positive_digit (suc n) (omega arith) h

-- another is the digits of its tenth, and its last digit
pub natural_text_more : (n : ℕ) → 10 ≤ n → natural_text n ≡ natural_text (n / 10) ++ digit_byte (n % 10) ∷ []
unfolding natural_text
natural_text_more n h =
    let some : (n == 0) ≡ false = grind (arith, nat_tests) in
    let high : 0 < n / 10 = omega arith in
    let more : (n / 10 == 0) ≡ false = grind (arith, nat_tests) in
    let step = digits_of_step 10 n (omega arith) (omega arith) in
    rw (some, more, step) (map-append digit_byte (digits_of 10 (n / 10)) (n % 10 ∷ []))

-- one last digit more stands behind those of the tenth
pub last_digits_more : (count n : ℕ) → last_digits (suc count) n ≡ last_digits count (n / 10) ++ digit_byte (n % 10) ∷ []
unfolding last_digits
last_digits_more count n = refl

-- no last digits are no text
pub last_digits_none : (n : ℕ) → last_digits 0 n ≡ []
unfolding last_digits
last_digits_none n = refl

-- one digit moves from the number to the text behind it
pub natural_text_moved : (n : ℕ) (xs : List ℕ) → 10 ≤ n → natural_text n ++ xs ≡ natural_text (n / 10) ++ digit_byte (n % 10) ∷ xs
natural_text_moved n xs h = rw (natural_text_more n h, append_assoc)

-- the first digit is put in front of the text
pub natural_text_last : (n : ℕ) (xs : List ℕ) → n < 10 → natural_text n ++ xs ≡ digit_byte n ∷ xs
natural_text_last n xs h = rw (natural_text_digit n h)

-- one of the last digits moves from the number to the text behind it
pub last_digits_moved : (count n : ℕ) (xs : List ℕ) → last_digits (suc count) n ++ xs ≡ last_digits count (n / 10) ++ digit_byte (n % 10) ∷ xs
last_digits_moved count n xs = rw (last_digits_more count n, append_assoc)

-- a number of more than one digit leaves room for the others
pub room_more : (room n len : ℕ) → len < room → 10 ≤ n → n < 10 ^ (room - len) → (n / 10 < 10 ^ (room - suc len)) × (suc len < room)
room_more room n len l h f = by (room - suc len) refl
  where
    split : room - len ≡ suc (room - suc len)
    split = omega arith

    high : n < 10 ^ (room - suc len) * 10
    high = rw (split, pow-suc) at f

    by : (k : ℕ) → room - suc len ≡ k → (n / 10 < 10 ^ (room - suc len)) × (suc len < room)
    by zero e = absurd (let g = rw e at high in omega arith)
    by (suc k) e = (div_below n 10 (10 ^ (room - suc len)) (omega arith) high, omega arith)

-- the part before the last digits, one digit at a time
pub high_part : (n k : ℕ) → n / 10 ^ suc k ≡ n / 10 / 10 ^ k
high_part n k = rw (pow-succ' 10 k) (sym (div-div-eq-div-mul n 10 (10 ^ k)))
