use Rattle.std.proofs.Common.{◌≡◌, ℕ, ◌≤◌, ℤ, pos, negsuc, nat_abs, ◌≤ℤ◌, not, ◌&&◌, nat_le, Result, Ok, Err, cond, arith, refl, sym, ap, subst, ◌∙◌, to_z, of_z, w16}
use Rattle.std.proofs.lemmas.Bool.Decides.{nat_tests}
use Rattle.std.proofs.lemmas.Int.{to_z-of_z}
use Rattle.jiff_core.specs.declared.civil.date.Date.{Date}
use Rattle.jiff_core.specs.Calendar.{days_in_month, days_from_civil, IsCivilDate}
use Rattle.jiff_core.specs.Date.{epoch_day}
use Rattle.jiff_core.proofs.DateLemmas.{civil}
use Rattle.jiff_core.proofs.SignedLemmas.{signed_arith}
use Rattle.vx_clock.specs.declared.days.DayNo.{DayNo}
use Rattle.vx_clock.specs.declared.days.DayFault.{DayFault}
use Rattle.vx_clock.specs.declared.days.DayFault.TheVariants.{Year, NoSuchDay}
use Rattle.vx_clock.specs.Day.{day_of_date}
use Rattle.vx_clock.proofs.DayNumbers.{year_in_range}
use Rattle.vx_clock.proofs.days.date_of.Goals as goal

-- the tests of a date that there is; l is the length of its month
tested : (y m d l : ℕ) (found : DayNo) → 2000 ≤ y → y ≤ 2099 → 1 ≤ m → m ≤ 12 → 1 ≤ d → d ≤ l → cond {A = Result DayNo DayFault} (not (nat_le 2000 y && nat_le y 2099)) (Err Year) (cond ((nat_le 1 m && nat_le m 12) && (nat_le 1 d && nat_le d l)) (Ok found) (Err NoSuchDay)) ≡ Ok found
tested y m d l found a b e f g h = grind (arith, nat_tests)

dated : (y m d : ℕ) → 2000 ≤ y → y ≤ 2099 → IsCivilDate (pos y) m d → day_of_date y m d ≡ Ok (record { 0 = days_from_civil (pos y) m d })
dated y m d low high is =
    tested y m d (days_in_month (pos y) m) (record { 0 = days_from_civil (pos y) m d }) low high is.1.0 is.1.1 is.2.0 is.2.1

-- a year from 2000 on is its absolute value
year_is : (z : ℤ) → pos 2000 ≤ℤ z → z ≡ pos (nat_abs z)
year_is (pos n) low = refl
year_is (negsuc n) low = absurd (omega (arith, signed_arith))

-- the date with a day's number is that day's
found : (date : Date) (day : DayNo) → epoch_day date ≡ day.0 → pos 10957 ≤ℤ day.0 → day.0 ≤ℤ pos 47481 → day_of_date (nat_abs date.year) date.month date.day ≡ Ok day
found date day e low high =
    let year = year_in_range date (subst (λ z. pos 10957 ≤ℤ z) (sym e) low) (subst (λ z. z ≤ℤ pos 47481) (sym e) high) in
    let same = year_is date.year year.0 in
    dated (nat_abs date.year) date.month date.day (omega (arith, signed_arith)) (omega (arith, signed_arith)) (rw same at (civil date))
    ∙ ap (λ (z : ℤ). Ok (record { 0 = z })) (rw (← same) e)

-- the year of a day in range
year_of : (date : Date) (day : DayNo) → epoch_day date ≡ day.0 → pos 10957 ≤ℤ day.0 → day.0 ≤ℤ pos 47481 → (pos 2000 ≤ℤ date.year) × (date.year ≤ℤ pos 2099)
year_of date day e low high = year_in_range date (subst (λ z. pos 10957 ≤ℤ z) (sym e) low) (subst (λ z. z ≤ℤ pos 47481) (sym e) high)

year_kept : (date : Date) (day : DayNo) → epoch_day date ≡ day.0 → pos 10957 ≤ℤ day.0 → day.0 ≤ℤ pos 47481 → to_z w16 (of_z w16 date.year) ≡ date.year
year_kept date day e low high =
    let year = year_of date day e low high in
    to_z-of_z w16 date.year (omega (arith, signed_arith))

pub returns-clause-value : goal.returns-clause-value
returns-clause-value c =
    rw (year_kept c.calendar_date-date.result c.args.day c.calendar_date-date.ensures c.requires.0 c.requires.1, c.from.ensures, c.from-2.ensures) (found c.calendar_date-date.result c.args.day c.calendar_date-date.ensures c.requires.0 c.requires.1)

pub returns-clause-year : goal.returns-clause-year
returns-clause-year c =
    let year = year_of c.calendar_date-date.result c.args.day c.calendar_date-date.ensures c.requires.0 c.requires.1 in
    let same = year_is c.calendar_date-date.result.year year.0 in
    rw (year_kept c.calendar_date-date.result c.args.day c.calendar_date-date.ensures c.requires.0 c.requires.1) (omega (arith, signed_arith), omega (arith, signed_arith))

pub overflow_cast-result : goal.overflow_cast-result
overflow_cast-result c =
    let year = year_of c.calendar_date-date.result c.args.day c.calendar_date-date.ensures c.requires.0 c.requires.1 in
    let same = year_is c.calendar_date-date.result.year year.0 in
    rw (year_kept c.calendar_date-date.result c.args.day c.calendar_date-date.ensures c.requires.0 c.requires.1, same) (tt, omega (arith, signed_arith))
