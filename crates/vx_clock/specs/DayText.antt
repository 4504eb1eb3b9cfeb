-- The text `yyyy-mm-dd` of a day, and the year, the month and the day of the month that it names (the
-- form is this project's own).
use Rattle.std.specs.Prelude.{ℕ, zero, suc, ◌+◌, ◌-◌, ◌/◌, ◌%◌, ◌-ℤ◌, int_le, unsigned_abs, Bool, List, [], ◌∷◌, ◌++◌, if◌then◌else◌}
use Rattle.vx_clock.specs.Day.{day_number}
use Rattle.vx_clock.specs.declared.days.DayNo.{DayNo}
use Rattle.vx_clock.specs.declared.limits.TheConstants.{YEAR_MIN, YEAR_MAX}

-- the last number at which a test holds, of one and so many more after it; that one, where it holds at
-- none of the others
unfoldable pub last_holding : (ℕ → Bool) → ℕ → ℕ → ℕ
last_holding test first zero = first
last_holding test first (suc more) =
    if test (first + suc more) then first + suc more else last_holding test first more

-- the year of a day: the last year that does not begin after it
unfoldable pub year_of : DayNo → ℕ
year_of day = last_holding (λ year. int_le (day_number year 1 1) day.0) YEAR_MIN (YEAR_MAX - YEAR_MIN)

-- its month: the last month of that year that does not begin after it
unfoldable pub month_of : DayNo → ℕ
month_of day = last_holding (λ month. int_le (day_number (year_of day) month 1) day.0) 1 11

-- its day of that month, from 1
unfoldable pub day_in_month : DayNo → ℕ
day_in_month day = unsigned_abs (day.0 -ℤ day_number (year_of day) (month_of day) 1) + 1

-- the digit that a number has at a unit, as a byte: at 1 its last digit, at 10 the one before
abbrev pub digit_at : ℕ → ℕ → ℕ
digit_at n unit = 48 + n / unit % 10

-- the last digits of a number
abbrev pub two_digits : ℕ → List ℕ
two_digits n = digit_at n 10 ∷ digit_at n 1 ∷ []

abbrev pub four_digits : ℕ → List ℕ
four_digits n = digit_at n 1000 ∷ digit_at n 100 ∷ two_digits n

abbrev pub eight_digits : ℕ → List ℕ
eight_digits n =
    digit_at n 10000000 ∷ digit_at n 1000000 ∷ digit_at n 100000 ∷ digit_at n 10000 ∷ four_digits n

-- the text of a day; 45 is the byte of `-`
unfoldable pub day_text : DayNo → List ℕ
day_text day =
    four_digits (year_of day) ++ 45 ∷ (two_digits (month_of day) ++ 45 ∷ two_digits (day_in_month day))
