-- The day and the minute that a text names are in range.
use Rattle.std.proofs.Common.{◌≡◌, subst, refl, ℕ, ◌+◌, ◌*◌, ◌≤◌, Bool, true, false, cond, not, ◌&&◌, List, take, slice_range, pos, Option, Some, None, Result, Ok, Err, arith}
use Rattle.std.specs.Prelude.{nat_le}
use Rattle.std.proofs.lemmas.Bool.{and_parts, leb-true, not-false}
use Rattle.std.proofs.lemmas.Int.{ints}
use Rattle.jiff_core.specs.Calendar.{IsCivilDate, days_in_month}
use Rattle.vx_clock.specs.declared.days.DayNo.{DayNo}
use Rattle.vx_clock.specs.declared.days.DayFault.{DayFault}
use Rattle.vx_clock.specs.declared.days.DayFault.TheVariants.{Form, Year, NoSuchDay}
use Rattle.vx_clock.specs.Clock.{has_time_form, minute_of, time_of_text}
use Rattle.vx_clock.specs.Day.{IsDayInRange, day_number, is_year_in_range, is_in_calendar, day_of_date, day_of_text, has_day_form}
use Rattle.vx_clock.specs.Digits.{digits_value}
use Rattle.vx_clock.proofs.DayNumbers.{days_from_civil_range}

-- ---- what an answer says of the tests before it

module _ {A E : Type 0} where
  -- where the choice of a fault or a result came to a value, its condition was false and the result is that value
  pub past_fault : (a : Bool) (x : E) (r : Result A E) (v : A) → cond a (Err x) r ≡ Ok v → (a ≡ false) × (r ≡ Ok v)
  past_fault true x r v h = absurd cc
  past_fault false x r v h = (refl, h)

  -- and where the result stands first, the condition was true
  pub past_test : (a : Bool) (x : E) (r : Result A E) (v : A) → cond a r (Err x) ≡ Ok v → (a ≡ true) × (r ≡ Ok v)
  past_test true x r v h = (refl, h)
  past_test false x r v h = absurd cc

-- the same of a value or none
pub some_test : {A : Type 0} (a : Bool) (o : Option A) (v : A) → cond a o None ≡ Some v → (a ≡ true) × (o ≡ Some v)
some_test true o v h = (refl, h)
some_test false o v h = absurd cc

-- ---- days

-- the day of a year, a month and a day of the month
pub day_of_date_range : (y m d : ℕ) (x : DayNo) → day_of_date y m d ≡ Ok x → IsDayInRange x
day_of_date_range y m d x h =
    let found : Result DayNo DayFault = Ok (record { 0 = day_number y m d }) in
    let year = past_fault (not (is_year_in_range y)) Year (cond (is_in_calendar y m d) found (Err NoSuchDay)) x h in
    let there = past_test (is_in_calendar y m d) NoSuchDay found x year.1 in
    let y_in = and_parts (nat_le 2000 y) (nat_le y 2099) (not-false (is_year_in_range y) year.0) in
    let parts = and_parts (nat_le 1 m && nat_le m 12) (nat_le 1 d && nat_le d (days_in_month (pos y) m)) there.0 in
    let m_in = and_parts (nat_le 1 m) (nat_le m 12) parts.0 in
    let d_in = and_parts (nat_le 1 d) (nat_le d (days_in_month (pos y) m)) parts.1 in
    let low : 2000 ≤ y = leb-true 2000 y y_in.0 in
    let high : y ≤ 2099 = leb-true y 2099 y_in.1 in
    let civil : IsCivilDate (pos y) m d = (
      (omega (arith, ints), omega (arith, ints)),
      (leb-true 1 m m_in.0, leb-true m 12 m_in.1),
      (leb-true 1 d d_in.0, leb-true d (days_in_month (pos y) m) d_in.1),
    ) in
    let is : record { 0 = day_number y m d } ≡ x = cc in
    subst IsDayInRange is (days_from_civil_range y m d low high civil)

-- the day of a text
pub day_of_text_range : (text : List ℕ) (x : DayNo) → day_of_text text ≡ Ok x → IsDayInRange x
day_of_text_range text x h =
    let y = digits_value (take 4 text) in
    let m = digits_value (slice_range text 5 7) in
    let d = digits_value (slice_range text 8 10) in
    day_of_date_range y m d x (past_test (has_day_form text) Form (day_of_date y m d) x h).1

-- ---- minutes

-- the minute of an hour and its minute
minute_range : (hour minute v : ℕ) → minute_of hour minute ≡ Some v → v ≤ 1439
minute_range hour minute v h =
    let found = some_test (nat_le hour 23 && nat_le minute 59) (Some (60 * hour + minute)) v h in
    let parts = and_parts (nat_le hour 23) (nat_le minute 59) found.0 in
    let a = leb-true hour 23 parts.0 in
    let b = leb-true minute 59 parts.1 in
    let is : 60 * hour + minute ≡ v = cc in
    omega arith

-- the minute of a text
pub time_of_text_range : (text : List ℕ) (v : ℕ) → time_of_text text ≡ Some v → v ≤ 1439
time_of_text_range text v h =
    minute_range (digits_value (take 2 text)) (digits_value (slice_range text 3 5)) v
    (some_test (has_time_form text) (minute_of (digits_value (take 2 text)) (digits_value (slice_range text 3 5))) v h).1
