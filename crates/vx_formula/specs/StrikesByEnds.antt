-- Where the listed strikes lie by two ends around a forward, and what that says of the level.
use Rattle.std.specs.Prelude.{◌≡◌, ℕ, ◌<◌, ◌≤◌, ◌⊎◌, ℤ, pos, ◌+ℤ◌, ◌*ℤ◌, ◌≤ℤ◌, ◌<ℤ◌, List}
use Rattle.vx_symbol.specs.declared.rows.StrikeRow.{StrikeRow}
use Rattle.vx_formula.specs.declared.limits.TheConstants.{FORWARD_UNITS, FORWARD_WIDTH_MAX}
use Rattle.vx_formula.specs.Term.{Term}
use Rattle.vx_formula.specs.Level.{IsListed, IsLevel}
use Rattle.vx_formula.specs.Between.{ForwardBetween}
use Rattle.vx_formula.specs.Refusal.{IsBelowAll}
use Rattle.vx_formula.specs.Undecided.{StrikeStraddles, UndecidedForward}

-- just one of three holds
pub record JustOne (A B C : Type 0) : Type 0 where
  pub one : A ⊎ (B ⊎ C)
  pub not_first_and_second : A → B → ⊥
  pub not_first_and_third : A → C → ⊥
  pub not_second_and_third : B → C → ⊥

-- ---- where listed strikes lie by two ends, in units of 10^-12 point

-- the strike is the lowest listed one above the low end and at most the high end
pub record IsLowestBetween (rows : List StrikeRow) (lo hi : ℤ) (strike : ℕ) : Type 0 where
  pub listed : IsListed rows strike
  pub straddles : StrikeStraddles lo hi strike
  pub lowest : (other : ℕ) → IsListed rows other → StrikeStraddles lo hi other → strike ≤ other

-- every listed strike is above the high end
abbrev pub AreAllAbove : List StrikeRow → ℤ → Type 0
AreAllAbove rows hi = (strike : ℕ) → IsListed rows strike → hi <ℤ (pos FORWARD_UNITS *ℤ pos strike)

-- k is listed and at most the low end, and every listed strike above it is above the high end
pub record IsLevelByEnds (rows : List StrikeRow) (lo hi : ℤ) (k : ℕ) : Type 0 where
  pub listed : IsListed rows k
  pub at_most : (pos FORWARD_UNITS *ℤ pos k) ≤ℤ lo
  pub others_above : (other : ℕ) → IsListed rows other → k < other → hi <ℤ (pos FORWARD_UNITS *ℤ pos other)

-- just one of these three, for rows in any order
abbrev pub StrikesLieOneWay : Type 0
StrikesLieOneWay = (rows : List StrikeRow) (lo hi : ℤ) → lo ≤ℤ hi →
    JustOne ((strike : ℕ) × IsLowestBetween rows lo hi strike) (AreAllAbove rows hi) ((k : ℕ) × IsLevelByEnds rows lo hi k)

-- and at most one strike is meant in each
abbrev pub LowestBetweenIsOne : Type 0
LowestBetweenIsOne = (rows : List StrikeRow) (lo hi : ℤ) (a b : ℕ) → IsLowestBetween rows lo hi a → IsLowestBetween rows lo hi b → a ≡ b

abbrev pub LevelByEndsIsOne : Type 0
LevelByEndsIsOne = (rows : List StrikeRow) (lo hi : ℤ) (a b : ℕ) → lo ≤ℤ hi → IsLevelByEnds rows lo hi a → IsLevelByEnds rows lo hi b → a ≡ b

-- ---- what two ends around a forward say of the level

-- they are in order
abbrev pub EndsAreInOrder : Type 0
EndsAreInOrder = (term : Term) (lo hi : ℤ) → ForwardBetween term lo hi → lo ≤ℤ hi

-- where every listed strike is above the high end, every listed strike is above the forward
abbrev pub AllAboveIsBelowAll : Type 0
AllAboveIsBelowAll = (term : Term) (lo hi : ℤ) → ForwardBetween term lo hi → AreAllAbove term.rows hi → IsBelowAll term

-- and the greatest strike at most the low end, with none between the ends, is the level
abbrev pub LevelByEndsIsLevel : Type 0
LevelByEndsIsLevel = (term : Term) (lo hi : ℤ) (k : ℕ) → ForwardBetween term lo hi → IsLevelByEnds term.rows lo hi k → IsLevel term k

-- so narrow ends leave the forward undecided, or no listed strike is at or below it, or there is a level. The last two exclude
-- each other. The first excludes neither: a deeper bracket may tell what these ends cannot
abbrev pub EndsDecideOrNot : Type 0
EndsDecideOrNot = (term : Term) (lo hi : ℤ) → ForwardBetween term lo hi → hi ≤ℤ (lo +ℤ pos FORWARD_WIDTH_MAX) →
    ((strike : ℕ) × UndecidedForward term strike lo hi) ⊎ (IsBelowAll term ⊎ ((k : ℕ) × IsLevel term k))
