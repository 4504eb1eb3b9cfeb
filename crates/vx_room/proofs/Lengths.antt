-- How long the texts of numbers are.
use Rattle.std.proofs.Common.{◌≡◌, refl, sym, ap, ◌∙◌, ℕ, zero, suc, ◌+◌, ◌-◌, ◌*◌, ◌/◌, ◌%◌, ◌^◌, ◌<◌, ◌≤◌, ℤ, pos, negsuc, List, [], ◌∷◌, ◌++◌, length, append_assoc, w64, pow-add, arith}
use Rattle.std.specs.Prelude.{FitsSigned, nat_abs}
use Rattle.std.specs.Int.{w128}
use Rattle.std.proofs.lemmas.List.{length-append}
use Rattle.std.proofs.lemmas.Nat.{div_below}
use Rattle.std.proofs.lemmas.Int.{ints}
use Rattle.std.proofs.Math.Nat.{one-le-pow}
use Rattle.vx_num.specs.Written.{digit_byte, natural_text, last_digits, decimal_text, signed_text}
use Rattle.vx_num.proofs.WrittenLemmas.{natural_text_digit, natural_text_more}
use Rattle.vx_num.proofs.ReadBack.{decimal_text_whole, decimal_text_parts, length-last_digits, length-natural_text-le}

-- ---- digit by digit

-- a number below 10 is one digit
pub length_one : (n : ℕ) → n < 10 → length (natural_text n) ≡ 1
length_one n h = ap length (natural_text_digit n h)

-- another is one digit longer than its tenth
pub length_more : (n : ℕ) → 10 ≤ n → length (natural_text n) ≡ suc (length (natural_text (n / 10)))
length_more n h =
    let parts = ap length (natural_text_more n h) ∙ length-append (natural_text (n / 10)) (digit_byte (n % 10) ∷ []) in
    omega arith

-- ---- parts of a number over 10 ^ places

-- without places the text is that of the number
pub length_whole : (value places : ℕ) → places ≡ 0 → length (decimal_text value places) ≡ length (natural_text value)
length_whole value places h = ap length (decimal_text_whole value places h)

-- with places it is the whole part, a dot and the digits
pub length_parts : (value places : ℕ) → 0 < places → length (decimal_text value places) ≡ length (natural_text (value / 10 ^ places)) + suc places
length_parts value places h =
    let digits = length-last_digits places value in
    let parts = ap length (decimal_text_parts value places h) ∙ length-append (natural_text (value / 10 ^ places)) (46 ∷ last_digits places value) in
    omega arith

-- whole part, dot and digits, with what stands behind them
pub decimal_before : (value places : ℕ) → 0 < places → (rest : List ℕ) → natural_text (value / 10 ^ places) ++ 46 ∷ (last_digits places value ++ rest) ≡ decimal_text value places ++ rest
decimal_before value places some rest =
    sym (append_assoc (natural_text (value / 10 ^ places)) (46 ∷ last_digits places value) rest)
    ∙ ap (λ t. t ++ rest) (sym (decimal_text_parts value places some))

-- ---- bounds

-- the whole part of a number of k digits has at most the digits before its places
quotient_below : (k value places : ℕ) → places < k → value < 10 ^ k → value / 10 ^ places < 10 ^ (k - places)
quotient_below k value places p v =
    let sum : k - places + places ≡ k = omega arith in
    let split : 10 ^ (k - places) * 10 ^ places ≡ 10 ^ k = sym (pow-add 10 (k - places) places) ∙ ap (λ n. 10 ^ n) sum in
    let one : 0 < 10 ^ places = one-le-pow places 10 (omega arith) in
    let some : value < 10 ^ (k - places) * 10 ^ places = omega arith in
    div_below value (10 ^ places) (10 ^ (k - places)) one some

-- a number of at most k digits over 10 ^ places has at most a dot more
pub decimal_short : (k value places : ℕ) → places < k → value < 10 ^ k → length (decimal_text value places) ≤ suc k
decimal_short k value zero p v =
    let few = length-natural_text-le k p value v in
    let same = length_whole value 0 refl in
    omega arith
decimal_short k value (suc places) p v =
    let few = length-natural_text-le (k - suc places) (omega arith) (value / 10 ^ suc places) (quotient_below k value (suc places) p v) in
    let parts = length_parts value (suc places) (omega arith) in
    omega arith

-- and a sign
pub signed_short : (k : ℕ) (z : ℤ) (places : ℕ) → places < k → nat_abs z < 10 ^ k → length (signed_text z places) ≤ suc (suc k)
signed_short k (pos n) places p v = let short = decimal_short k n places p v in omega arith
signed_short k (negsuc n) places p v = let short = decimal_short k (suc n) places p v in omega arith

-- a number of 64 bits
pub narrow_short : (value places : ℕ) → value < 2 ^ 64 → places ≤ 12 → length (decimal_text value places) ≤ 21
narrow_short value places v p = decimal_short 20 value places (omega arith) (omega arith)

-- a number of 64 bits with a sign
pub narrow_signed_short : (z : ℤ) (places : ℕ) → FitsSigned w64 z → places ≤ 12 → length (signed_text z places) ≤ 21
narrow_signed_short z places fits p = signed_short 19 z places (omega arith) (omega (arith, ints))

-- a number of 128 bits with a sign
pub wide_signed_short : (z : ℤ) (places : ℕ) → FitsSigned w128 z → places ≤ 12 → length (signed_text z places) ≤ 41
wide_signed_short z places fits p = signed_short 39 z places (omega arith) (omega (arith, ints))
