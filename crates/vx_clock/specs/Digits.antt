-- Whole numbers in decimal digits, as dates, times and symbols write them.
use Rattle.std.specs.Prelude.{ℕ, ◌+◌, ◌-◌, ◌*◌, Bool, List, Option, Some, None, fold, if◌then◌else◌}
use Rattle.std.specs.List.{list_all}
use Rattle.std.specs.Char.{is_ascii_digit}

-- every byte is a digit
abbrev pub are_digits : List ℕ → Bool
are_digits text = list_all is_ascii_digit text

-- the number that the digits write; 48 is the byte of `0`
abbrev pub digits_value : List ℕ → ℕ
digits_value text = fold (λ value digit. 10 * value + (digit - 48)) 0 text

-- the number that the bytes write, where all are digits
abbrev pub number_of : List ℕ → Option ℕ
number_of text = if are_digits text then Some (digits_value text) else None
