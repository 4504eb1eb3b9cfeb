-- Texts of numbers, as lists of bytes. This project's own forms.
use Rattle.std.specs.Prelude.{ℕ, ◌+◌, ◌-◌, ◌*◌, ◌^◌, ℤ, pos, neg_ℤ, List, [], ◌∷◌, length, filter, drop, slice_index, Bool, true, false, not, ◌&&◌, ◌==◌, nat_le, nat_lt, if◌then◌else◌, Option, Result, Ok, Err}
use Rattle.std.specs.List.{list_all}
use Rattle.std.specs.Option.{option_map}
use Rattle.std.specs.Result.{result_ok}
use Rattle.vx_num.specs.declared.fault.DecimalFault.{DecimalFault}
use Rattle.vx_num.specs.declared.fault.DecimalFault.TheVariants.{Empty, NotDigit, Places, TooLarge}

-- '0' to '9'; '.'; '-'
abbrev pub is_digit : ℕ → Bool
is_digit b = nat_le 48 b && nat_le b 57

abbrev pub is_dot : ℕ → Bool
is_dot b = b == 46

abbrev pub is_minus : ℕ → Bool
is_minus b = b == 45

-- one digit or more, and no other byte
abbrev pub is_digits : List ℕ → Bool
is_digits [] = false
is_digits (b ∷ bs) = is_digit b && list_all is_digit bs

-- what may follow a first digit: digits, and then at most once a dot with one digit or more behind it
abbrev pub is_decimal_rest : List ℕ → Bool
is_decimal_rest [] = true
is_decimal_rest (b ∷ bs) = if is_dot b then is_digits bs else is_digit b && is_decimal_rest bs

-- a decimal: one digit, and what may follow it
abbrev pub is_decimal : List ℕ → Bool
is_decimal [] = false
is_decimal (b ∷ bs) = is_digit b && is_decimal_rest bs

-- how many bytes stand behind the dot
abbrev pub places_of : List ℕ → ℕ
places_of [] = 0
places_of (b ∷ bs) = if is_dot b then length bs else places_of bs

-- what digits are worth, the last of them in ones
abbrev pub digits_worth : List ℕ → ℕ
digits_worth [] = 0
digits_worth (b ∷ bs) = (b - 48) * 10 ^ length bs + digits_worth bs

-- a decimal times 10 ^ places: its digits without the dot, and a zero for each place that it leaves out
abbrev pub scaled_value : List ℕ → ℕ → ℕ
scaled_value text places = digits_worth (filter is_digit text) * 10 ^ (places - places_of text)

-- what reading a decimal answers: the first of the four faults whose cause holds, or the value times 10 ^ places
unfoldable pub decimal_of : List ℕ → ℕ → ℕ → Result ℕ DecimalFault
decimal_of [] places max = Err Empty
decimal_of (b ∷ bs) places max =
    if not (is_decimal (b ∷ bs)) then Err NotDigit
    else if nat_lt places (places_of (b ∷ bs)) then Err Places
    else if nat_lt max (scaled_value (b ∷ bs) places) then Err TooLarge
    else Ok (scaled_value (b ∷ bs) places)

-- what reading a decimal with a sign answers: the value times 10 ^ places, at most `above`, or behind a minus sign at most `below`
-- in absolute value; None where the text is no such decimal
abbrev pub signed_decimal_of : List ℕ → ℕ → ℕ → ℕ → Option ℤ
signed_decimal_of text places below above =
    if is_minus (slice_index text 0) then option_map (λ n. neg_ℤ (pos n)) (result_ok (decimal_of (drop 1 text) places below))
    else option_map pos (result_ok (decimal_of text places above))

-- what reading a whole number without a sign answers: the first fault whose cause holds, or the value, which is below 2 ^ bits
abbrev pub magnitude_of : List ℕ → ℕ → Result ℕ DecimalFault
magnitude_of [] bits = Err Empty
magnitude_of (b ∷ bs) bits =
    if not (is_digits (b ∷ bs)) then Err NotDigit
    else if nat_le (2 ^ bits) (digits_worth (b ∷ bs)) then Err TooLarge
    else Ok (digits_worth (b ∷ bs))

-- the same with a sign in front
abbrev pub with_sign : Bool → Result ℕ DecimalFault → Result ℤ DecimalFault
with_sign false (Ok n) = Ok (pos n)
with_sign true (Ok n) = Ok (neg_ℤ (pos n))
with_sign s (Err fault) = Err fault

-- what reading a wide number answers: one minus sign may stand at the front, and '-0' is 0
unfoldable pub wide_of : List ℕ → ℕ → Result ℤ DecimalFault
wide_of [] bits = Err Empty
wide_of (b ∷ bs) bits = with_sign (is_minus b) (magnitude_of (if is_minus b then bs else b ∷ bs) bits)
