-- The days of the years 2000 to 2099 have the numbers 10,957 to 47,481.
use Rattle.std.proofs.Common.{refl, ◌≡◌, ℕ, ◌+◌, ◌-◌, ◌*◌, ◌/◌, ◌≤◌, ℤ, pos, ◌≤ℤ◌, ◌<ℤ◌, ◌+ℤ◌, arith}
use Rattle.std.proofs.lemmas.Int.{by_lt_z}
use Rattle.jiff_core.specs.declared.civil.date.Date.{Date}
use Rattle.jiff_core.specs.Calendar.{day_count, days_from_civil, days_in_year, IsCivilDate}
use Rattle.jiff_core.specs.Date.{epoch_day}
use Rattle.jiff_core.proofs.SignedLemmas.{signed_arith}
use Rattle.jiff_core.proofs.CalendarLemmas.{days_from_civil-day_count, day_count-day_of_year, day_of_year_bound, day_count-next_year, day_count-later_year}
use Rattle.jiff_core.proofs.DateLemmas.{civil}
use Rattle.jiff_core.proofs.MarchLemmas.{day_count-early}

-- the first day of a year, counted from the year -10000
pub year_start : (y : ℤ) (n : ℕ) → y +ℤ pos 1 ≡ pos (n - 9998) → 9999 ≤ n → day_count y 1 1 ≡ 365 * n + n / 4 - n / 100 + n / 400 + 366
year_start y n e low = omega (arith, day_count-early y n 1 1 (omega (arith, signed_arith)) (omega arith) (omega arith) (omega arith))

-- the days of the years 2000 to 2099 have the numbers 10957 to 47481
pub days_from_civil_range : (y m d : ℕ) → 2000 ≤ y → y ≤ 2099 → IsCivilDate (pos y) m d → (pos 10957 ≤ℤ days_from_civil (pos y) m d) × (days_from_civil (pos y) m d ≤ℤ pos 47481)
days_from_civil_range y m d low high is =
    let first = year_start (pos y) (y + 9999) (omega (arith, signed_arith)) (omega arith) in
    let after = year_start (pos (y + 1)) (y + 10000) (omega (arith, signed_arith)) (omega arith) in
    let here = day_count-day_of_year (pos y) m d is.2.0 in
    let bound = day_of_year_bound (pos y) m d is in
    let next = day_count-next_year (pos y) (pos (y + 1)) (omega (arith, signed_arith)) (omega (arith, signed_arith)) in
    let number = days_from_civil-day_count (pos y) m d in
    (omega (arith, signed_arith), omega (arith, signed_arith))

-- the same of a date
pub epoch_day_in_range : (date : Date) (y : ℕ) → date.year ≡ pos y → 2000 ≤ y → y ≤ 2099 → (pos 10957 ≤ℤ epoch_day date) × (epoch_day date ≤ℤ pos 47481)
epoch_day_in_range date y e low high = rw e (days_from_civil_range y date.month date.day low high (rw e at (civil date)))

-- the number of a day in year y lies in that year
number_in_year : (date : Date) → (day_count date.year 1 1 ≤ day_count date.year date.month date.day) × (day_count date.year date.month date.day + 1 ≤ day_count date.year 1 1 + days_in_year date.year)
number_in_year date =
    let here = day_count-day_of_year date.year date.month date.day (civil date).2.0 in
    let bound = day_of_year_bound date.year date.month date.day (civil date) in
    (omega arith, omega arith)

-- a year past 2099 begins where 2100 does, or later
ends_before : (y : ℤ) → pos 2099 <ℤ y → day_count (pos 2099) 1 1 + days_in_year (pos 2099) ≤ day_count y 1 1
ends_before y after = day_count-later_year (pos 2099) y (omega (arith, signed_arith)) after

-- a day of these numbers has such a year
pub year_in_range : (date : Date) → pos 10957 ≤ℤ epoch_day date → epoch_day date ≤ℤ pos 47481 → (pos 2000 ≤ℤ date.year) × (date.year ≤ℤ pos 2099)
year_in_range date low high =
    let year = (civil date).0 in
    let within = number_in_year date in
    let number = days_from_civil-day_count date.year date.month date.day in
    let first = year_start (pos 2000) 11999 refl (omega arith) in
    let last = year_start (pos 2099) 12098 refl (omega arith) in (
      by_lt_z date.year (pos 2000) (λ before. absurd (omega (arith, signed_arith, day_count-later_year date.year (pos 2000) (omega (arith, signed_arith)) before))) (λ from. from),
      by_lt_z (pos 2099) date.year (λ after. absurd (omega (arith, signed_arith, ends_before date.year after))) (λ to. to),
    )
