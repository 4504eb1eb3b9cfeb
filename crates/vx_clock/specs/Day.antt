-- Days of the calendar: their numbers, and their text. That 1970-01-01 has the number 0 and that
-- the years are 2000 to 2099 is this project's own; how long months and years are is `jiff`'s
-- calendar, the Gregorian one.
use Rattle.std.specs.Prelude.{ℕ, ℤ, pos, ◌≤ℤ◌, Bool, not, ◌&&◌, ◌==◌, nat_le, List, length, take, slice_index, slice_range, Result, Ok, Err, if◌then◌else◌}
use Rattle.jiff_core.specs.Calendar.{days_from_civil, days_in_month}
use Rattle.vx_clock.specs.declared.days.DayNo.{DayNo}
use Rattle.vx_clock.specs.declared.days.DayFault.{DayFault}
use Rattle.vx_clock.specs.declared.days.DayFault.TheVariants.{Form, Year, NoSuchDay}
use Rattle.vx_clock.specs.declared.limits.TheConstants.{YEAR_MIN, YEAR_MAX, DAY_MIN, DAY_MAX}
use Rattle.vx_clock.specs.Digits.{are_digits, digits_value}

-- how many days a date lies after 1970-01-01
abbrev pub day_number : ℕ → ℕ → ℕ → ℤ
day_number year month day = days_from_civil (pos year) month day

-- the day is one of the years 2000 to 2099
abbrev pub IsDayInRange : DayNo → Type 0
IsDayInRange day = (DAY_MIN ≤ℤ day.0) × (day.0 ≤ℤ DAY_MAX)

-- the year is one of 2000 to 2099
abbrev pub is_year_in_range : ℕ → Bool
is_year_in_range year = nat_le YEAR_MIN year && nat_le year YEAR_MAX

-- the year has this month, and the month this day
abbrev pub is_in_calendar : ℕ → ℕ → ℕ → Bool
is_in_calendar year month day =
    (nat_le 1 month && nat_le month 12)
    && (nat_le 1 day && nat_le day (days_in_month (pos year) month))

-- the day of a year, a month and a day, or else the first fault
abbrev pub day_of_date : ℕ → ℕ → ℕ → Result DayNo DayFault
day_of_date year month day =
    if not (is_year_in_range year) then Err Year
    else (if is_in_calendar year month day then Ok (record { 0 = day_number year month day })
    else Err NoSuchDay)

-- the text is of the form `yyyy-mm-dd`; 45 is the byte of `-`
abbrev pub has_day_form : List ℕ → Bool
has_day_form text =
    (length text == 10) && (slice_index text 4 == 45) && (slice_index text 7 == 45)
    && are_digits (take 4 text) && are_digits (slice_range text 5 7)
    && are_digits (slice_range text 8 10)

-- the day that a text names, or else the first fault
abbrev pub day_of_text : List ℕ → Result DayNo DayFault
day_of_text text =
    if has_day_form text then day_of_date (digits_value (take 4 text))
    (digits_value (slice_range text 5 7)) (digits_value (slice_range text 8 10))
    else Err Form
