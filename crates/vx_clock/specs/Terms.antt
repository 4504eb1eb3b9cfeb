-- The two terms of a figure.
use Rattle.std.specs.Prelude.{◌≡◌, ℕ, ◌+◌, ◌≤◌, ◌⊎◌, pos, ◌+ℤ◌, ◌≤ℤ◌, ◌<ℤ◌, List, Contains}
use Rattle.vx_clock.specs.declared.days.DayNo.{DayNo}
use Rattle.vx_clock.specs.declared.terms.Root.{Root}
use Rattle.vx_clock.specs.declared.terms.Root.TheVariants.{Spx, Spxw}
use Rattle.vx_clock.specs.declared.terms.Expiry.{Expiry}
use Rattle.vx_clock.specs.Minutes.{days_until}

-- the near window: at least one day ahead, and among the `window` days that end `days` ahead (this
-- project's own; for the index 24 to 30 days)
abbrev pub IsInNearWindow : DayNo → ℕ → ℕ → Expiry → Type 0
IsInNearWindow today days window expiry =
    (pos 1 ≤ℤ days_until today expiry.date)
    × (pos days <ℤ (days_until today expiry.date +ℤ pos window))
    × (days_until today expiry.date ≤ℤ pos days)

-- the next window: among the `window` days that follow (for the index 31 to 37 days)
abbrev pub IsInNextWindow : DayNo → ℕ → ℕ → Expiry → Type 0
IsInNextWindow today days window expiry =
    (pos days <ℤ days_until today expiry.date)
    × (days_until today expiry.date ≤ℤ pos (days + window))

-- the order of roots on one date: SPX before SPXW (this project's own)
abbrev pub root_rank : Root → ℕ
root_rank Spx = 0
root_rank Spxw = 1

-- an expiry is taken before another one as near: it is later, or on the same date its root is first
abbrev pub IsTakenBeforeAsNear : Expiry → Expiry → Type 0
IsTakenBeforeAsNear a b =
    (b.date.0 <ℤ a.date.0) ⊎ ((a.date.0 ≡ b.date.0) × (root_rank a.root ≤ root_rank b.root))

-- and as next: it is earlier, or on the same date its root is first
abbrev pub IsTakenBeforeAsNext : Expiry → Expiry → Type 0
IsTakenBeforeAsNext a b =
    (a.date.0 <ℤ b.date.0) ⊎ ((a.date.0 ≡ b.date.0) × (root_rank a.root ≤ root_rank b.root))

-- the near term: of the declared expiries in the near window the one with the most days
pub record IsNearTerm (today : DayNo) (days window : ℕ) (expiries : List Expiry) (e : Expiry) : Type 0 where
  pub declared : Contains expiries e
  pub in_window : IsInNearWindow today days window e
  pub first : (other : Expiry) → Contains expiries other → IsInNearWindow today days window other → IsTakenBeforeAsNear e other

-- the next term: of those in the next window the one with the fewest
pub record IsNextTerm (today : DayNo) (days window : ℕ) (expiries : List Expiry) (e : Expiry) : Type 0 where
  pub declared : Contains expiries e
  pub in_window : IsInNextWindow today days window e
  pub first : (other : Expiry) → Contains expiries other → IsInNextWindow today days window other → IsTakenBeforeAsNext e other
