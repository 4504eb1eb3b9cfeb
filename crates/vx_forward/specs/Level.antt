-- What two printed ends of a forward, in units of 10^-12 point, say of the level. This project's own.
use Rattle.std.specs.Prelude.{◌≡◌, ℕ, ◌≤◌, ℤ, pos, ◌*ℤ◌, ◌≤ℤ◌, ◌<ℤ◌, List, Some, slice_get}
use Rattle.vx_num.specs.Fraction.{Fraction, whole, ◌<ᶠ◌}
use Rattle.vx_symbol.specs.declared.rows.StrikeRow.{StrikeRow}
use Rattle.vx_formula.specs.declared.limits.TheConstants.{FORWARD_UNITS}
use Rattle.vx_formula.specs.Level.{IsListed, IsGreatestBelow}
use Rattle.vx_formula.specs.Refusal.{HasNoneAbove}
use Rattle.vx_formula.specs.Undecided.{StrikeStraddles}
use Rattle.vx_formula.specs.StrikesByEnds.{IsLowestBetween}
use Rattle.vx_forward.specs.declared.level.K0Answer.{K0Answer}
use Rattle.vx_forward.specs.declared.level.K0Answer.TheVariants.{At, NoStrikeBelow, NoStrikeAbove, Straddle}

-- a strike, in thousandths of a point, in the unit of the printed ends
abbrev pub in_units : ℕ → ℤ
in_units strike = pos FORWARD_UNITS *ℤ pos strike

-- no listed strike is above the low end and at most the high end
abbrev pub HasNoneBetween : List StrikeRow → ℤ → ℤ → Type 0
HasNoneBetween rows lo hi = (strike : ℕ) → IsListed rows strike → ¬ StrikeStraddles lo hi strike

-- every listed strike is above the low end
abbrev pub HasNoneAtMost : List StrikeRow → ℤ → Type 0
HasNoneAtMost rows lo = (strike : ℕ) → IsListed rows strike → lo <ℤ in_units strike

-- the row at the place has the greatest listed strike that is at most the low end
pub record IsGreatestAtMost (rows : List StrikeRow) (lo : ℤ) (place : ℕ) (row : StrikeRow) : Type 0 where
  pub is_at : slice_get rows place ≡ Some row
  pub at_most : in_units row.strike ≤ℤ lo
  pub greatest : (other : ℕ) → IsListed rows other → in_units other ≤ℤ lo → other ≤ row.strike

-- a listed strike between the ends is told before anything else
pub record IsLevelRow (rows : List StrikeRow) (lo hi : ℤ) (place : ℕ) (row : StrikeRow) : Type 0 where
  pub none_between : HasNoneBetween rows lo hi
  pub greatest : IsGreatestAtMost rows lo place row

-- what is answered from the ends lo and hi
abbrev pub IsK0Answer : List StrikeRow → ℤ → ℤ → K0Answer → Type 0
IsK0Answer rows lo hi (At place) = (row : StrikeRow) × IsLevelRow rows lo hi place row × (¬ HasNoneAbove rows row.strike)
IsK0Answer rows lo hi NoStrikeBelow = HasNoneBetween rows lo hi × HasNoneAtMost rows lo
IsK0Answer rows lo hi (NoStrikeAbove place) = (row : StrikeRow) × IsLevelRow rows lo hi place row × HasNoneAbove rows row.strike
IsK0Answer rows lo hi (Straddle strike low high) = IsLowestBetween rows lo hi strike × (low ≡ lo) × (high ≡ hi)

-- the strike of the row at the place is the greatest listed one that is at most the forward
abbrev pub IsLevelAtPlace : List StrikeRow → Fraction → ℕ → Type 0
IsLevelAtPlace rows forward place = (row : StrikeRow) × (slice_get rows place ≡ Some row) × IsGreatestBelow rows forward row.strike

-- what an answer says of a forward between the ends, in thousandths of a point
abbrev pub SaysOfForward : List StrikeRow → Fraction → K0Answer → Type 0
SaysOfForward rows forward (At place) = IsLevelAtPlace rows forward place
SaysOfForward rows forward NoStrikeBelow = (strike : ℕ) → IsListed rows strike → forward <ᶠ whole (pos strike)
SaysOfForward rows forward (NoStrikeAbove place) = IsLevelAtPlace rows forward place
SaysOfForward rows forward (Straddle _ _ _) = Unit {0}
