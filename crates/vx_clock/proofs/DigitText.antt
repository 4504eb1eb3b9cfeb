-- What is written digit by digit is read back.
use Rattle.std.proofs.Common.{◌≡◌, ℕ, ◌*◌, ◌+◌, ◌-◌, ◌/◌, ◌%◌, ◌<◌, true, List, fold, ap, ◌∙◌, ◌∷◌, [], refl, arith}
use Rattle.std.specs.Char.{is_ascii_digit}
use Rattle.std.proofs.lemmas.Bool.Decides.{nat_tests}
use Rattle.vx_clock.specs.Digits.{are_digits, digits_value}

-- the byte of the digit that a value has at a unit
abbrev pub digit_at : ℕ → ℕ → ℕ
digit_at v unit = 48 + v / unit % 10

-- the byte of a digit is one
pub is_digit : (d : ℕ) → d < 10 → is_ascii_digit (48 + d) ≡ true
is_digit d small = grind (arith, nat_tests)

-- the digit of a value at a unit is one
pub digit_below : (v unit : ℕ) → is_ascii_digit (48 + v / unit % 10) ≡ true
digit_below v unit = is_digit (v / unit % 10) (omega arith)

-- two digits are written as digits
pub are_digits-two : (v : ℕ) → are_digits (digit_at v 10 ∷ digit_at v 1 ∷ []) ≡ true
are_digits-two v = rw (digit_below v 10, digit_below v 1) refl

-- so are four
pub are_digits-four : (v : ℕ) → are_digits (digit_at v 1000 ∷ digit_at v 100 ∷ digit_at v 10 ∷ digit_at v 1 ∷ []) ≡ true
are_digits-four v = rw (digit_below v 1000, digit_below v 100, digit_below v 10, digit_below v 1) refl

-- two digits are worth the number below 100 that they are of
pub digits_value-two : (v : ℕ) → v < 100 → digits_value (digit_at v 10 ∷ digit_at v 1 ∷ []) ≡ v
digits_value-two v small = omega arith

-- four digits are worth the number below 10,000 that they are of
pub digits_value-four : (v : ℕ) → v < 10000 → digits_value (digit_at v 1000 ∷ digit_at v 100 ∷ digit_at v 10 ∷ digit_at v 1 ∷ []) ≡ v
digits_value-four v small = omega arith

-- eight digits are written as digits
pub are_digits-eight : (v : ℕ) → are_digits (digit_at v 10000000 ∷ digit_at v 1000000 ∷ digit_at v 100000 ∷ digit_at v 10000 ∷ digit_at v 1000 ∷ digit_at v 100 ∷ digit_at v 10 ∷ digit_at v 1 ∷ []) ≡ true
are_digits-eight v =
    rw (digit_below v 10000000, digit_below v 1000000, digit_below v 100000, digit_below v 10000, digit_below v 1000, digit_below v 100, digit_below v 10, digit_below v 1) refl

-- one more digit takes the value at ten units to that at one
next_digit : (v acc next unit : ℕ) (rest : List ℕ) → next ≡ 10 * acc + v / unit % 10 → fold (λ value digit. 10 * value + (digit - 48)) acc (digit_at v unit ∷ rest) ≡ fold (λ value digit. 10 * value + (digit - 48)) next rest
next_digit v acc next unit rest e = ap (λ n. fold (λ value digit. 10 * value + (digit - 48)) n rest) (omega arith)

-- eight digits are worth the number below 10^8 that they are of
pub digits_value-eight : (v : ℕ) → v < 100000000 → digits_value (digit_at v 10000000 ∷ digit_at v 1000000 ∷ digit_at v 100000 ∷ digit_at v 10000 ∷ digit_at v 1000 ∷ digit_at v 100 ∷ digit_at v 10 ∷ digit_at v 1 ∷ []) ≡ v
digits_value-eight v small =
    let r0 : List ℕ = digit_at v 1 ∷ [] in
    let r1 : List ℕ = digit_at v 10 ∷ r0 in
    let r2 : List ℕ = digit_at v 100 ∷ r1 in
    let r3 : List ℕ = digit_at v 1000 ∷ r2 in
    let r4 : List ℕ = digit_at v 10000 ∷ r3 in
    let r5 : List ℕ = digit_at v 100000 ∷ r4 in
    let r6 : List ℕ = digit_at v 1000000 ∷ r5 in
    next_digit v 0 (v / 10000000) 10000000 r6 (omega arith)
    ∙ next_digit v (v / 10000000) (v / 1000000) 1000000 r5 (omega arith)
    ∙ next_digit v (v / 1000000) (v / 100000) 100000 r4 (omega arith)
    ∙ next_digit v (v / 100000) (v / 10000) 10000 r3 (omega arith)
    ∙ next_digit v (v / 10000) (v / 1000) 1000 r2 (omega arith)
    ∙ next_digit v (v / 1000) (v / 100) 100 r1 (omega arith)
    ∙ next_digit v (v / 100) (v / 10) 10 r0 (omega arith)
    ∙ next_digit v (v / 10) v 1 [] (omega arith)
