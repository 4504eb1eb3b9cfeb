-- The two terms that are picked for so many days ahead: each is there or none is in its window, and their minutes are as their
-- interpolation asks.
use Rattle.std.specs.Prelude.{ℕ, ◌*◌, ◌<◌, ◌≤◌, ◌⊎◌, List, Contains}
use Rattle.vx_clock.specs.declared.limits.TheConstants.{DAY_MINUTES, WINDOW_MAX}
use Rattle.vx_clock.specs.declared.days.DayNo.{DayNo}
use Rattle.vx_clock.specs.declared.terms.Expiry.{Expiry}
use Rattle.vx_clock.specs.declared.terms.Moment.{Moment}
use Rattle.vx_clock.specs.Minutes.{minutes_between}
use Rattle.vx_clock.specs.Terms.{IsInNearWindow, IsInNextWindow, IsNearTerm, IsNextTerm}
use Rattle.vx_term.specs.Ranges.{AreMinutesInRange, AreDaysInRange, AreWeightsInRange}

-- the window of a figure has at most 35 days
abbrev pub IsWindowInRange : ℕ → Type 0
IsWindowInRange window = window ≤ WINDOW_MAX

-- both are in range, the near term settles first, and the weights that take them to the time ahead are small
pub record AreMinutesOfPicked (days n1 n2 : ℕ) : Type 0 where
  pub near : AreMinutesInRange n1
  pub next : AreMinutesInRange n2
  pub rising : n1 < n2
  pub weights : AreWeightsInRange (DAY_MINUTES * days) n1 n2

abbrev pub PickedMinutesAreInRange : Type 0
PickedMinutesAreInRange = (days window : ℕ) (now : Moment) (expiries : List Expiry) (near next : Expiry) → AreDaysInRange days → IsWindowInRange window →
    IsNearTerm now.day days window expiries near → IsNextTerm now.day days window expiries next →
    AreMinutesOfPicked days (minutes_between now near) (minutes_between now next)

-- of any expiries one is the near term, or none is in its window
abbrev pub NearIsPickedOrNone : Type 0
NearIsPickedOrNone = (today : DayNo) (days window : ℕ) (expiries : List Expiry) →
    ((x : Expiry) × IsNearTerm today days window expiries x) ⊎ ((x : Expiry) → Contains expiries x → ¬ IsInNearWindow today days window x)

-- and so for the next term
abbrev pub NextIsPickedOrNone : Type 0
NextIsPickedOrNone = (today : DayNo) (days window : ℕ) (expiries : List Expiry) →
    ((x : Expiry) × IsNextTerm today days window expiries x) ⊎ ((x : Expiry) → Contains expiries x → ¬ IsInNextWindow today days window x)
