-- The date of a day, and that the text of a day is read back.
use Rattle.std.proofs.Common.{◌≡◌, refl, ap, subst, ◌∙◌, inl, inr, ℕ, zero, suc, ◌+◌, ◌-◌, ◌<◌, ◌≤◌, ◌⊎◌, ◌∷◌, ◌++◌, arith}
use Rattle.std.proofs.Common.{Bool, true, false, cond, not, ◌&&◌, nat_le, int_le, ℤ, pos, negsuc, ◌≤ℤ◌, ◌<ℤ◌, ◌-ℤ◌, ◌+ℤ◌, unsigned_abs, Result, Ok, Err}
use Rattle.std.proofs.lemmas.Bool.{cases_lt}
use Rattle.std.specs.Int.Signed.{le_z_yes}
use Rattle.std.proofs.lemmas.Float.{T_from_true}
use Rattle.std.proofs.lemmas.Int.{by_lt_z}
use Rattle.std.proofs.lemmas.Bool.Decides.{nat_tests}
use Rattle.jiff_core.specs.Calendar.{days_in_month, IsCivilDate}
use Rattle.jiff_core.proofs.SignedLemmas.{signed_arith}
use Rattle.jiff_core.proofs.CalendarLemmas.{days_from_civil-day_count, day_count-lt_year, day_count-lt_month, day_count-day}
use Rattle.jiff_core.proofs.CalendarLemmas.{day_count-next_month, day_count-next_year, day_count-last_of_year, day_count-day_of_year, days_in_month_bounds}
use Rattle.vx_clock.specs.declared.days.DayNo.{DayNo}
use Rattle.vx_clock.specs.declared.days.DayFault.{DayFault}
use Rattle.vx_clock.specs.declared.days.DayFault.TheVariants.{Year, NoSuchDay}
use Rattle.vx_clock.specs.Day.{day_number, day_of_date, day_of_text, IsDayInRange}
use Rattle.vx_clock.specs.DayText.{last_holding, year_of, month_of, day_in_month, day_text, two_digits, four_digits}
use Rattle.vx_clock.proofs.DigitText.{are_digits-two, are_digits-four, digits_value-two, digits_value-four}
use Rattle.vx_clock.proofs.DayNumbers.{year_start}

-- ---- the last number at which a test holds

-- it is where the test holds, and after which it does not
pub last_is : (test : ℕ → Bool) (first more n : ℕ) → first ≤ n → n ≤ first + more → test n ≡ true → ((k : ℕ) → n < k → test k ≡ false) → last_holding test first more ≡ n
unfolding last_holding
last_is test first zero n low high holds after = omega arith
last_is test first (suc more) n low high holds after =
    elim (cases_lt n (first + suc more)) [
      | inl below ↦ rw (after (first + suc more) below) (last_is test first more n low (omega arith) holds after)
      | inr reached ↦ let same : first + suc more ≡ n = omega arith in rw (same, holds)
    ]

-- where it holds at the first, it holds there
pub last_holds : (test : ℕ → Bool) (first more : ℕ) → test first ≡ true → test (last_holding test first more) ≡ true
unfolding last_holding
last_holds test first zero holds = holds
last_holds test first (suc more) holds = by (test (first + suc more)) refl (last_holds test first more holds)
  where
    by : (t : Bool) → test (first + suc more) ≡ t → test (last_holding test first more) ≡ true → test (cond t (first + suc more) (last_holding test first more)) ≡ true
    by true e before = e
    by false e before = before

-- it is not before the first
pub last_from : (test : ℕ → Bool) (first more : ℕ) → first ≤ last_holding test first more
unfolding last_holding
last_from test first zero = omega arith
last_from test first (suc more) =
    elim (test (first + suc more)) as (λ t. first ≤ cond t (first + suc more) (last_holding test first more))
    [ true ↦ omega arith | false ↦ last_from test first more ]

-- a number is the last of all that are tested, or the test fails at the next
abbrev EndsTests : (ℕ → Bool) → ℕ → ℕ → Type 0
EndsTests test last n = (n ≡ last) ⊎ ((n < last) × (test (n + 1) ≡ false))

-- the last number at which a test holds does so
pub last_next : (test : ℕ → Bool) (first more : ℕ) → EndsTests test (first + more) (last_holding test first more)
unfolding last_holding
last_next test first zero = inl (omega arith)
last_next test first (suc more) = by (test (first + suc more)) refl (last_next test first more)
  where
    by : (t : Bool) → test (first + suc more) ≡ t → EndsTests test (first + more) (last_holding test first more)
        → EndsTests test (first + suc more) (cond t (first + suc more) (last_holding test first more))
    by true e before = inl refl
    by false e (inl all) = let next : last_holding test first more + 1 ≡ first + suc more = omega arith in inr (omega arith, rw next e)
    by false e (inr some) = inr (omega arith, some.1)

-- ---- day numbers in order

-- the test of at most holds where it is so
pub is_at_most : (a b : ℤ) → a ≤ℤ b → int_le a b ≡ true
is_at_most a b h = grind (arith, signed_arith)

-- and fails where it is not
pub is_not_at_most : (a b : ℤ) → b <ℤ a → int_le a b ≡ false
is_not_at_most a b h = grind (arith, signed_arith)

-- what the test of at most says where it holds
tested_at_most : (a b : ℤ) → int_le a b ≡ true → a ≤ℤ b
tested_at_most a b e = le_z_yes (T_from_true (int_le a b) e)

-- and where it fails
tested_above : (a b : ℤ) → int_le a b ≡ false → b <ℤ a
tested_above a b e = by_lt_z b a (λ lt. lt) (λ le. let t = is_at_most a b le in cc)

-- the number of a date
abbrev numbered : ℕ → ℕ → ℕ → DayNo
numbered y m d = record { 0 = day_number y m d }

year_is : (y m d : ℕ) → 2000 ≤ y → y ≤ 2099 → IsCivilDate (pos y) m d → year_of (numbered y m d) ≡ y
unfolding year_of
year_is y m d low high is =
    let here = days_from_civil-day_count (pos y) m d in
    let start = days_from_civil-day_count (pos y) 1 1 in
    let place = day_count-day_of_year (pos y) m d is.2.0 in
    let began : day_number y 1 1 ≤ℤ day_number y m d = omega (arith, signed_arith, is.2.0) in
    let later : (k : ℕ) → y < k → int_le (day_number k 1 1) (day_number y m d) ≡ false = λ k after.
    let lt : pos y <ℤ pos k = omega (arith, signed_arith) in
    let before = day_count-lt_year (pos y) m d (pos k) 1 1 is (omega arith) lt in
    let there = days_from_civil-day_count (pos k) 1 1 in
    let not_yet : day_number y m d <ℤ day_number k 1 1 = omega (arith, signed_arith) in
    is_not_at_most (day_number k 1 1) (day_number y m d) not_yet in
    last_is (λ year. int_le (day_number year 1 1) (day_number y m d)) 2000 99 y low (omega arith)
    (is_at_most (day_number y 1 1) (day_number y m d) began) later

month_is : (y m d : ℕ) → IsCivilDate (pos y) m d → last_holding (λ month. int_le (day_number y month 1) (day_number y m d)) 1 11 ≡ m
month_is y m d is =
    let here = days_from_civil-day_count (pos y) m d in
    let start = days_from_civil-day_count (pos y) m 1 in
    let place = day_count-day (pos y) m d 1 is.2.0 (omega arith) in
    let began : day_number y m 1 ≤ℤ day_number y m d = omega (arith, signed_arith, is.2.0) in
    let later : (k : ℕ) → m < k → int_le (day_number y k 1) (day_number y m d) ≡ false = λ k after.
    let before = day_count-lt_month (pos y) m d k 1 is (omega arith) after in
    let there = days_from_civil-day_count (pos y) k 1 in
    let not_yet : day_number y m d <ℤ day_number y k 1 = omega (arith, signed_arith) in
    is_not_at_most (day_number y k 1) (day_number y m d) not_yet in
    last_is (λ month. int_le (day_number y month 1) (day_number y m d)) 1 11 m is.1.0 (omega (arith, is.1.1))
    (is_at_most (day_number y m 1) (day_number y m d) began) later

day_is : (y m d : ℕ) → IsCivilDate (pos y) m d → unsigned_abs (day_number y m d -ℤ day_number y m 1) + 1 ≡ d
day_is y m d is =
    let here = days_from_civil-day_count (pos y) m d in
    let start = days_from_civil-day_count (pos y) m 1 in
    let place = day_count-day (pos y) m d 1 is.2.0 (omega arith) in
    let days : (day_number y m d -ℤ day_number y m 1) ≡ pos (d - 1) = omega (arith, signed_arith, is.2.0) in
    rw days (omega (arith, is.2.0))

-- the day of a date, as its tests find it; l is the length of its month
abbrev day_by_tests : ℕ → ℕ → ℕ → ℕ → DayNo → Result DayNo DayFault
day_by_tests y m d l found =
    cond (not (nat_le 2000 y && nat_le y 2099)) (Err Year)
    (cond ((nat_le 1 m && nat_le m 12) && (nat_le 1 d && nat_le d l)) (Ok found) (Err NoSuchDay))

-- a date that there is, is in the calendar
tested : (y m d l : ℕ) (found day : DayNo) → day_by_tests y m d l found ≡ Ok day
    → (2000 ≤ y) × (y ≤ 2099) × (1 ≤ m) × (m ≤ 12) × (1 ≤ d) × (d ≤ l) × (found ≡ day)
tested y m d l found day e = grind (arith, nat_tests)

month_of_is : (y m d : ℕ) → year_of (numbered y m d) ≡ y → IsCivilDate (pos y) m d → month_of (numbered y m d) ≡ m
unfolding month_of
month_of_is y m d year is = ap (λ n. last_holding (λ month. int_le (day_number n month 1) (day_number y m d)) 1 11) year ∙ month_is y m d is

day_in_month_is : (y m d : ℕ) → year_of (numbered y m d) ≡ y → month_of (numbered y m d) ≡ m → IsCivilDate (pos y) m d → day_in_month (numbered y m d) ≡ d
unfolding day_in_month
day_in_month_is y m d year month is = rw (year, month) (day_is y m d is)

-- the date of a day is the one that has its number
pub date_is : (y m d : ℕ) (day : DayNo) → day_of_date y m d ≡ Ok day → (year_of day ≡ y) × (month_of day ≡ m) × (day_in_month day ≡ d)
date_is y m d day e =
    let t = tested y m d (days_in_month (pos y) m) (numbered y m d) day e in
    let is : IsCivilDate (pos y) m d = (omega (arith, signed_arith, t.0, t.1), (t.2, t.3), (t.4, t.5)) in
    let year = year_is y m d t.0 t.1 is in
    let month = month_of_is y m d year is in
    let date = day_in_month_is y m d year month is in
    subst (λ (x : DayNo). (year_of x ≡ y) × (month_of x ≡ m) × (day_in_month x ≡ d)) t.6 (year, month, date)

-- ---- each day has a date

-- a day of a year's range begins no later than the year, and ends before the next
year_bounds : (day : DayNo) → IsDayInRange day → (2000 ≤ year_of day) × (year_of day ≤ 2099) × (day_number (year_of day) 1 1 ≤ℤ day.0) × (day.0 <ℤ day_number (year_of day + 1) 1 1)
unfolding year_of
year_bounds day is =
    let test : ℕ → Bool = λ year. int_le (day_number year 1 1) day.0 in
    let first = year_start (pos 2000) 11999 refl (omega arith) in
    let end = year_start (pos 2100) 12099 refl (omega arith) in
    let first_number = days_from_civil-day_count (pos 2000) 1 1 in
    let end_number = days_from_civil-day_count (pos 2100) 1 1 in
    let began : day_number 2000 1 1 ≤ℤ day.0 = omega (arith, signed_arith, is.0) in
    let holds = last_holds test 2000 99 (is_at_most (day_number 2000 1 1) day.0 began) in
    let low = last_from test 2000 99 in
    let ended : (last_holding test 2000 99 ≤ 2099) × (day.0 <ℤ day_number (last_holding test 2000 99 + 1) 1 1) =
    elim (last_next test 2000 99) [
      | inl all ↦ rw all (omega arith, omega (arith, signed_arith, is.1))
      | inr some ↦ (omega (arith, some.0), tested_above (day_number (last_holding test 2000 99 + 1) 1 1) day.0 some.1)
    ] in
    (low, ended.0, tested_at_most (day_number (last_holding test 2000 99) 1 1) day.0 holds, ended.1)

-- a day before the next year lies in December, or before it
december : (y : ℕ) (z : ℤ) → z <ℤ day_number (y + 1) 1 1 → z <ℤ (day_number y 12 1 +ℤ pos (days_in_month (pos y) 12))
december y z before =
    let next = day_count-next_year (pos y) (pos (y + 1)) (omega (arith, signed_arith)) (omega (arith, signed_arith)) in
    let last = day_count-last_of_year (pos y) in
    let place = day_count-day (pos y) 12 31 1 (omega arith) (omega arith) in
    let here = days_from_civil-day_count (pos y) 12 1 in
    let there = days_from_civil-day_count (pos (y + 1)) 1 1 in
    omega (arith, signed_arith, before)

-- a day before the next month lies in a month, or before it
within : (y m : ℕ) (z : ℤ) → 1 ≤ m → z <ℤ day_number y (m + 1) 1 → z <ℤ (day_number y m 1 +ℤ pos (days_in_month (pos y) m))
within y m z low before =
    let next = day_count-next_month (pos y) m low in
    let here = days_from_civil-day_count (pos y) m 1 in
    let there = days_from_civil-day_count (pos y) (m + 1) 1 in
    omega (arith, signed_arith, before)

-- the same of its month, within the year
month_bounds : (y : ℕ) (z : ℤ) → day_number y 1 1 ≤ℤ z → z <ℤ day_number (y + 1) 1 1 → (let month = last_holding (λ month. int_le (day_number y month 1) z) 1 11 in
    (1 ≤ month) × (month ≤ 12) × (day_number y month 1 ≤ℤ z) × (z <ℤ (day_number y month 1 +ℤ pos (days_in_month (pos y) month))))
month_bounds y z began before =
    let test : ℕ → Bool = λ month. int_le (day_number y month 1) z in
    let holds = last_holds test 1 11 (is_at_most (day_number y 1 1) z began) in
    let low = last_from test 1 11 in
    let ended : (last_holding test 1 11 ≤ 12) × (z <ℤ (day_number y (last_holding test 1 11) 1 +ℤ pos (days_in_month (pos y) (last_holding test 1 11)))) =
    elim (last_next test 1 11) [
      | inl all ↦ rw all (omega arith, december y z before)
      | inr some ↦ (omega (arith, some.0), within y (last_holding test 1 11) z low (tested_above (day_number y (last_holding test 1 11 + 1) 1) z some.1))
    ] in
    (low, ended.0, tested_at_most (day_number y (last_holding test 1 11) 1) z holds, ended.1)

month_of_bounds : (day : DayNo) → IsDayInRange day → (1 ≤ month_of day) × (month_of day ≤ 12)
    × (day_number (year_of day) (month_of day) 1 ≤ℤ day.0)
    × (day.0 <ℤ (day_number (year_of day) (month_of day) 1 +ℤ pos (days_in_month (pos (year_of day)) (month_of day))))
unfolding month_of
month_of_bounds day is = let year = year_bounds day is in month_bounds (year_of day) day.0 year.2 year.3

-- a number that is not negative is its absolute value
absolute : (z : ℤ) → pos 0 ≤ℤ z → z ≡ pos (unsigned_abs z)
absolute (pos n) low = refl
absolute (negsuc n) low = absurd (omega (arith, signed_arith))

day_in_month_bounds : (day : DayNo) → IsDayInRange day → (1 ≤ day_in_month day)
    × (day_in_month day ≤ days_in_month (pos (year_of day)) (month_of day))
    × (day.0 ≡ (day_number (year_of day) (month_of day) 1 +ℤ pos (day_in_month day - 1)))
unfolding day_in_month
day_in_month_bounds day is =
    let month = month_of_bounds day is in
    let first = day_number (year_of day) (month_of day) 1 in
    let nonnegative : pos 0 ≤ℤ (day.0 -ℤ first) = omega (arith, signed_arith, month.2) in
    let same : (day.0 -ℤ first) ≡ pos (unsigned_abs (day.0 -ℤ first)) = absolute (day.0 -ℤ first) nonnegative in
    (omega arith, omega (arith, signed_arith, month.3, same), omega (arith, signed_arith, same))

-- a date of the calendar passes its tests
passes : (y m d l : ℕ) (found : DayNo) → 2000 ≤ y → y ≤ 2099 → 1 ≤ m → m ≤ 12 → 1 ≤ d → d ≤ l → day_by_tests y m d l found ≡ Ok found
passes y m d l found a b e f g h = grind (arith, nat_tests)

number_is : (y m d : ℕ) (z : ℤ) → 1 ≤ d → z ≡ (day_number y m 1 +ℤ pos (d - 1)) → day_number y m d ≡ z
number_is y m d z low e =
    let place = day_count-day (pos y) m d 1 low (omega arith) in
    let here = days_from_civil-day_count (pos y) m d in
    let start = days_from_civil-day_count (pos y) m 1 in
    omega (arith, signed_arith, e)

-- each day of the years 2000 to 2099 is that of its date
pub dated : (day : DayNo) → IsDayInRange day → day_of_date (year_of day) (month_of day) (day_in_month day) ≡ Ok day
dated day is =
    let year = year_bounds day is in
    let month = month_of_bounds day is in
    let date = day_in_month_bounds day is in
    passes (year_of day) (month_of day) (day_in_month day) (days_in_month (pos (year_of day)) (month_of day)) (numbered (year_of day) (month_of day) (day_in_month day)) year.0 year.1 month.0 month.1 date.0 date.1
    ∙ ap (λ (z : ℤ). Ok (record { 0 = z })) (number_is (year_of day) (month_of day) (day_in_month day) day.0 date.0 date.2)

-- the parts of a date in range fit their digits
pub date_bounds : (day : DayNo) → IsDayInRange day → (2000 ≤ year_of day) × (year_of day ≤ 2099) × (month_of day ≤ 12) × (day_in_month day ≤ 31)
date_bounds day is =
    let year = year_bounds day is in
    let month = month_of_bounds day is in
    let date = day_in_month_bounds day is in
    let most = days_in_month_bounds (pos (year_of day)) (month_of day) in
    (year.0, year.1, month.1, omega (arith, date.1, most.0))

-- the text of a date names the day of its parts
pub text_of_date : (y m d : ℕ) → y < 10000 → m < 100 → d < 100 → day_of_text (four_digits y ++ 45 ∷ (two_digits m ++ 45 ∷ two_digits d)) ≡ day_of_date y m d
text_of_date y m d year month day =
    rw (are_digits-four y, are_digits-two m, are_digits-two d) (rw (digits_value-four y year, digits_value-two m month, digits_value-two d day) refl)

-- the text of a day is read back
pub read_back_day : (day : DayNo) → IsDayInRange day → day_of_text (day_text day) ≡ Ok day
unfolding day_text
read_back_day day is =
    let bounds = date_bounds day is in
    text_of_date (year_of day) (month_of day) (day_in_month day) (omega (arith, bounds.1)) (omega (arith, bounds.2)) (omega (arith, bounds.3)) ∙ dated day is
