-- Worked days: which of three declared expiries are the two terms of the index.
use Rattle.std.specs.Prelude.{◌≡◌, ℕ, pos, List, [], ◌∷◌}
use Rattle.vx_clock.specs.declared.days.DayNo.{DayNo}
use Rattle.vx_clock.specs.declared.limits.TheConstants.{INDEX_DAYS, INDEX_WINDOW}
use Rattle.vx_clock.specs.declared.terms.Expiry.{Expiry}
use Rattle.vx_clock.specs.declared.terms.Root.TheVariants.{Spx, Spxw}
use Rattle.vx_clock.specs.Day.{day_number}
use Rattle.vx_clock.specs.Minutes.{days_until}
use Rattle.vx_clock.specs.Terms.{IsNearTerm, IsNextTerm}

-- days of 2014, by their numbers
abbrev pub september_23 : DayNo
september_23 = record { 0 = pos 16336 }

abbrev pub september_24 : DayNo
september_24 = record { 0 = pos 16337 }

abbrev pub october_17 : DayNo
october_17 = record { 0 = pos 16360 }

abbrev pub october_24 : DayNo
october_24 = record { 0 = pos 16367 }

abbrev pub october_31 : DayNo
october_31 = record { 0 = pos 16374 }

-- the calendar gives them these numbers
pub record DaysAreNumbered : Type 0 where
  pub on_september_23 : september_23.0 ≡ day_number 2014 9 23
  pub on_september_24 : september_24.0 ≡ day_number 2014 9 24
  pub on_october_17 : october_17.0 ≡ day_number 2014 10 17
  pub on_october_24 : october_24.0 ≡ day_number 2014 10 24
  pub on_october_31 : october_31.0 ≡ day_number 2014 10 31

-- the standard expiry and two weekly ones
abbrev pub standard_17 : Expiry
standard_17 = record { root = Spx; date = october_17 }

abbrev pub weekly_24 : Expiry
weekly_24 = record { root = Spxw; date = october_24 }

abbrev pub weekly_31 : Expiry
weekly_31 = record { root = Spxw; date = october_31 }

-- the three in the order in which they are declared
abbrev pub three_expiries : List Expiry
three_expiries = standard_17 ∷ (weekly_24 ∷ (weekly_31 ∷ []))

-- near, for the index of 30 days within windows of 7
abbrev pub IsNearOn : DayNo → Expiry → Type 0
IsNearOn today e = IsNearTerm today INDEX_DAYS INDEX_WINDOW three_expiries e

-- next, for the index of 30 days within windows of 7
abbrev pub IsNextOn : DayNo → Expiry → Type 0
IsNextOn today e = IsNextTerm today INDEX_DAYS INDEX_WINDOW three_expiries e

-- on September 23 near is the standard expiry, 24 days ahead
abbrev pub NearOfSeptember23 : Type 0
NearOfSeptember23 = IsNearOn september_23 standard_17 × (days_until september_23 october_17 ≡ pos 24)

-- and next the first weekly one, 31 days ahead
abbrev pub NextOfSeptember23 : Type 0
NextOfSeptember23 = IsNextOn september_23 weekly_24 × (days_until september_23 october_24 ≡ pos 31)

-- a day later the standard expiry has left the window: near is the first weekly one, 30 days ahead
abbrev pub NearOfSeptember24 : Type 0
NearOfSeptember24 = IsNearOn september_24 weekly_24 × (days_until september_24 october_24 ≡ pos 30)

-- and next the second, 37 days ahead
abbrev pub NextOfSeptember24 : Type 0
NextOfSeptember24 = IsNextOn september_24 weekly_31 × (days_until september_24 october_31 ≡ pos 37)

-- where no expiry is declared there is no near term on any day
abbrev pub NoNearOfNone : Type 0
NoNearOfNone = (today : DayNo) (days window : ℕ) (e : Expiry) → IsNearTerm today days window [] e → ⊥

-- nor a next one
abbrev pub NoNextOfNone : Type 0
NoNextOfNone = (today : DayNo) (days window : ℕ) (e : Expiry) → IsNextTerm today days window [] e → ⊥
