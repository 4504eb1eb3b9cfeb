-- The texts that numbers are written as, which are the canonical ones that reading takes. This project's own forms.
use Rattle.std.specs.Prelude.{ℕ, zero, suc, ◌+◌, ◌/◌, ◌%◌, ◌^◌, ℤ, pos, negsuc, List, [], ◌∷◌, ◌++◌, map, ◌==◌, if◌then◌else◌}
use Rattle.std.specs.Int.Digits.{digits_of}

-- the byte of a digit
abbrev pub digit_byte : ℕ → ℕ
digit_byte d = 48 + d

-- a natural number without leading zeros
unfoldable pub natural_text : ℕ → List ℕ
natural_text n = if n == 0 then digit_byte 0 ∷ [] else map digit_byte (digits_of 10 n)

-- the last digits of a number, as many as are asked
unfoldable pub last_digits : ℕ → ℕ → List ℕ
last_digits zero n = []
last_digits (suc count) n = last_digits count (n / 10) ++ digit_byte (n % 10) ∷ []

-- a number over 10 ^ places: the whole part, and where there are places a dot and exactly so many digits
unfoldable pub decimal_text : ℕ → ℕ → List ℕ
decimal_text value zero = natural_text value
decimal_text value (suc places) = natural_text (value / 10 ^ suc places) ++ 46 ∷ last_digits (suc places) value

-- the same with a sign: a minus sign (45) in front of a number below zero
abbrev pub signed_text : ℤ → ℕ → List ℕ
signed_text (pos n) places = decimal_text n places
signed_text (negsuc n) places = 45 ∷ decimal_text (suc n) places

-- a whole number, with a minus sign in front where it is below zero
unfoldable pub wide_text : ℤ → List ℕ
wide_text (pos n) = natural_text n
wide_text (negsuc n) = 45 ∷ natural_text (suc n)
