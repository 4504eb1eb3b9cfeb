-- The text `hh:mm` of a minute of the day. This project's own form.
use Rattle.std.specs.Prelude.{ℕ, ◌+◌, ◌*◌, ◌/◌, ◌%◌, Bool, ◌&&◌, ◌==◌, nat_le, List, [], ◌∷◌, length, take, slice_index, slice_range, Option, Some, None, if◌then◌else◌}
use Rattle.vx_clock.specs.Digits.{are_digits, digits_value}

-- as it is written; 48 is the byte of `0` and 58 that of `:`
abbrev pub clock_text : ℕ → List ℕ
clock_text minute = let hours = minute / 60 in let minutes = minute % 60 in
    (48 + hours / 10) ∷ (48 + hours % 10) ∷ 58 ∷ (48 + minutes / 10) ∷ (48 + minutes % 10) ∷ []

-- the text is of the form `hh:mm`
abbrev pub has_time_form : List ℕ → Bool
has_time_form text =
    (length text == 5) && (slice_index text 2 == 58) && are_digits (take 2 text)
    && are_digits (slice_range text 3 5)

-- the minute of the day that an hour and a minute make, where there is one
abbrev pub minute_of : ℕ → ℕ → Option ℕ
minute_of hour minute = if nat_le hour 23 && nat_le minute 59 then Some (60 * hour + minute) else None

-- a time from `00:00` to `23:59`, as the minute of the day
abbrev pub time_of_text : List ℕ → Option ℕ
time_of_text text =
    if has_time_form text then minute_of (digits_value (take 2 text)) (digits_value (slice_range text 3 5))
    else None
