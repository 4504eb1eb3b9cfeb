-- The text of a wide number is what the kit's `itoa` writes.
use Rattle.std.proofs.Common.{◌≡◌, ℕ, zero, suc, ◌/◌, ◌%◌, ◌^◌, ◌<◌, ◌≤◌, false, List, [], ◌∷◌, ◌++◌, ℤ, pos, negsuc, map, ◌==◌, sym, ap, ◌∙◌, arith}
use Rattle.std.specs.Prelude.{nat_abs}
use Rattle.std.specs.Fmt.{decimal, signed_decimal}
use Rattle.std.specs.Int.Digits.{digits_of}
use Rattle.std.proofs.lemmas.Fmt.{decimal_digit, decimal_by_steps_wide}
use Rattle.std.proofs.lemmas.Int.Digits.{digits_of_step}
use Rattle.std.proofs.lemmas.List.{map-append}
use Rattle.std.proofs.lemmas.Bool.Decides.{nat_tests}
use Rattle.vx_num.specs.Written.{digit_byte, wide_text, natural_text}

-- the text of a number above 0 is its digits
text_above_zero : (n : ℕ) → 0 < n → natural_text n ≡ map digit_byte (digits_of 10 n)
unfolding natural_text
text_above_zero n p = let some : (n == 0) ≡ false = grind (arith, nat_tests) in rw some

one_digit : (n : ℕ) → n < 10 → 0 < n → digit_byte n ∷ [] ≡ map digit_byte (digits_of 10 n)
one_digit n small some =
    let front : n / 10 ≡ 0 = omega arith in
    let last : n % 10 ≡ n = omega arith in
    sym (ap (map digit_byte) (digits_of_step 10 n (omega arith) some ∙ ap (λ k. digits_of 10 k ++ n % 10 ∷ []) front ∙ ap (λ d. d ∷ []) last))

more_digits : (n : ℕ) (ds : List ℕ) → 10 ≤ n → (0 < n / 10 → ds ≡ map digit_byte (digits_of 10 (n / 10))) → 0 < n → ds ++ digit_byte (n % 10) ∷ [] ≡ map digit_byte (digits_of 10 n)
more_digits n ds most front some =
    ap (λ xs. xs ++ digit_byte (n % 10) ∷ []) (front (omega arith))
    ∙ sym (ap (map digit_byte) (digits_of_step 10 n (omega arith) some) ∙ map-append digit_byte (digits_of 10 (n / 10)) (n % 10 ∷ []))

decimal_is_natural_text : (n : ℕ) → n < 10 ^ 64 → decimal n ≡ natural_text n
unfolding natural_text
decimal_is_natural_text zero h = decimal_digit 0 (omega arith)
decimal_is_natural_text (suc n) h =
    decimal_by_steps_wide (λ m ds. 0 < m → ds ≡ map digit_byte (digits_of 10 m)) one_digit more_digits (suc n) h (omega arith) ∙ sym (text_above_zero (suc n) (omega arith))

-- a number of 64 bits
pub decimal_is_wide_text : (n : ℕ) → n < 2 ^ 64 → decimal n ≡ wide_text (pos n)
unfolding wide_text
decimal_is_wide_text n h = decimal_is_natural_text n (omega arith)

-- a number of 128 bits with its sign
pub signed_decimal_is_wide_text : (z : ℤ) → nat_abs z ≤ 2 ^ 127 → signed_decimal z ≡ wide_text z
unfolding wide_text
signed_decimal_is_wide_text (pos n) h = decimal_is_natural_text n (omega arith)
signed_decimal_is_wide_text (negsuc n) h = ap (λ xs. 45 ∷ xs) (decimal_is_natural_text (suc n) (omega arith))
