-- The worked days of the two terms.
use Rattle.std.proofs.Common.{◌≡◌, ℕ, ◌+◌, ◌≤◌, pos, [], ◌∷◌, refl, sym, inr, arith}
use Rattle.std.specs.List.{All}
use Rattle.std.proofs.lemmas.Int.{ints}
use Rattle.std.proofs.lemmas.List.Elements.{All-cons, All-nil}
use lib.Signed.{le_z_yes, lt_z_yes}
use Rattle.jiff_core.specs.Calendar.{day_of_year, days_of_months}
use Rattle.jiff_core.proofs.SignedLemmas.{signed_arith}
use Rattle.jiff_core.proofs.CalendarLemmas.{days_from_civil-day_count, day_count-day_of_year}
use Rattle.vx_clock.specs.declared.days.DayNo.{DayNo}
use Rattle.vx_clock.specs.declared.terms.Expiry.{Expiry}
use Rattle.vx_clock.specs.Day.{day_number}
use Rattle.vx_clock.specs.Terms.{IsInNearWindow, IsInNextWindow, IsTakenBeforeAsNear, IsTakenBeforeAsNext}
use Rattle.vx_clock.proofs.DayNumbers.{year_start}
use Rattle.vx_formula.proofs.Lists.{in_from_contains, all_in}
use Rattle.vx_days.specs.TermExamples.{september_23, september_24, standard_17, weekly_24, weekly_31, three_expiries, DaysAreNumbered, NearOfSeptember23}
use Rattle.vx_days.specs.TermExamples.{NextOfSeptember23, NearOfSeptember24, NextOfSeptember24, NoNearOfNone, NoNextOfNone}

-- the number of a day of 2014 by its place in the year
pub in_2014 : (m d place : ℕ) → day_of_year (pos 2014) m d ≡ place → 1 ≤ d → day_number 2014 m d ≡ pos (16070 + place)
in_2014 m d place e first =
    omega (arith, signed_arith, days_from_civil-day_count (pos 2014) m d, day_count-day_of_year (pos 2014) m d first, year_start (pos 2014) 12013 refl (omega arith))

-- the days of the example have these numbers
pub days_are_numbered : DaysAreNumbered
unfolding days_of_months
days_are_numbered = record {
  on_september_23 = sym (in_2014 9 23 266 refl (omega arith));
  on_september_24 = sym (in_2014 9 24 267 refl (omega arith));
  on_october_17 = sym (in_2014 10 17 290 refl (omega arith));
  on_october_24 = sym (in_2014 10 24 297 refl (omega arith));
  on_october_31 = sym (in_2014 10 31 304 refl (omega arith));
}

-- what is asked of each of the three
of_three : (P : Expiry → Type 0) → P standard_17 → P weekly_24 → P weekly_31 → All P three_expiries
of_three P a b c =
    All-cons P standard_17 (weekly_24 ∷ (weekly_31 ∷ [])) a
    (All-cons P weekly_24 (weekly_31 ∷ []) b (All-cons P weekly_31 [] c (All-nil P)))

abbrev GoesFirstAsNear : DayNo → Expiry → Expiry → Type 0
GoesFirstAsNear today e other = IsInNearWindow today 30 7 other → IsTakenBeforeAsNear e other

abbrev GoesFirstAsNext : DayNo → Expiry → Expiry → Type 0
GoesFirstAsNext today e other = IsInNextWindow today 30 7 other → IsTakenBeforeAsNext e other

-- on 23 September the near term is the standard expiry, 24 days ahead
pub near_of_september_23 : NearOfSeptember23
near_of_september_23 = (
  record {
    declared = (0, omega arith, refl);
    in_window = (le_z_yes tt, lt_z_yes tt, le_z_yes tt);
    first = λ other listed.
        let P : Expiry → Type 0 = GoesFirstAsNear september_23 standard_17 in
        all_in P three_expiries other
        (of_three P (λ h. inr (refl, omega arith)) (λ h. absurd (omega (arith, ints, h.2))) (λ h. absurd (omega (arith, ints, h.2))))
        (in_from_contains three_expiries other listed);
  },
  refl,
)

-- and the next one the first weekly expiry, 31 days ahead
pub next_of_september_23 : NextOfSeptember23
next_of_september_23 = (
  record {
    declared = (1, omega arith, refl);
    in_window = (lt_z_yes tt, le_z_yes tt);
    first = λ other listed.
        let P : Expiry → Type 0 = GoesFirstAsNext september_23 weekly_24 in
        all_in P three_expiries other
        (of_three P (λ h. absurd (omega (arith, ints, h.0))) (λ h. inr (refl, omega arith)) (λ h. absurd (omega (arith, ints, h.1))))
        (in_from_contains three_expiries other listed);
  },
  refl,
)

-- on 24 September the near term is the first weekly expiry, 30 days ahead
pub near_of_september_24 : NearOfSeptember24
near_of_september_24 = (
  record {
    declared = (1, omega arith, refl);
    in_window = (le_z_yes tt, lt_z_yes tt, le_z_yes tt);
    first = λ other listed.
        let P : Expiry → Type 0 = GoesFirstAsNear september_24 weekly_24 in
        all_in P three_expiries other
        (of_three P (λ h. absurd (omega (arith, ints, h.1))) (λ h. inr (refl, omega arith)) (λ h. absurd (omega (arith, ints, h.2))))
        (in_from_contains three_expiries other listed);
  },
  refl,
)

-- and the next one the second weekly expiry, 37 days ahead
pub next_of_september_24 : NextOfSeptember24
next_of_september_24 = (
  record {
    declared = (2, omega arith, refl);
    in_window = (lt_z_yes tt, le_z_yes tt);
    first = λ other listed.
        let P : Expiry → Type 0 = GoesFirstAsNext september_24 weekly_31 in
        all_in P three_expiries other
        (of_three P (λ h. absurd (omega (arith, ints, h.0))) (λ h. absurd (omega (arith, ints, h.0))) (λ h. inr (refl, omega arith)))
        (in_from_contains three_expiries other listed);
  },
  refl,
)

-- where no expiry is declared there is no near term
pub no_near_of_none : NoNearOfNone
no_near_of_none today days window e h = elim (in_from_contains [] e h.declared) [ ]

-- and no next term
pub no_next_of_none : NoNextOfNone
no_next_of_none today days window e h = elim (in_from_contains [] e h.declared) [ ]
