-- The laws of the definitions.
use Rattle.std.specs.Prelude.{◌≡◌, ℕ, suc, ◌+◌, ◌-◌, ◌*◌, ◌^◌, ◌<◌, ◌≤◌, ◌⊎◌, ◌↔◌, Bool, true, ◌||◌, ℤ, pos, ◌≤ℤ◌, ◌<ℤ◌, nat_abs, List, [], Some, All, Contains}
use Rattle.std.specs.List.{slice_get}
use Rattle.vx_num.specs.Fraction.{Fraction, IsProper, whole, ◌*ᶠ◌, ◌≤ᶠ◌, ◌<ᶠ◌}
use Rattle.vx_num.specs.SignedSquare.{signed_square}
use Rattle.vx_num.specs.Quotient.{IsCeiling}
use Rattle.vx_clock.specs.declared.limits.TheConstants.{MINUTES_MAX}
use Rattle.vx_symbol.specs.declared.rows.StrikeRow.{StrikeRow}
use Rattle.vx_symbol.specs.Rows.{IsRateInRange}
use Rattle.vx_formula.specs.declared.limits.TheConstants.{CENT, HALF_CENT}
use Rattle.vx_formula.specs.Pair.{Pair, live_pairs, IsClosestPair}
use Rattle.vx_formula.specs.Term.{TermFacts, Term, exponent, HasSmallExponent}
use Rattle.vx_formula.specs.Level.{StrikesRise, IsGreatestBelow, IsLevel}
use Rattle.vx_formula.specs.Selection.{is_selected, selected_rows}
use Rattle.vx_formula.specs.Strip.{StripEntry, upper_end}
use Rattle.vx_formula.specs.Index.{Basis, SquareMeets, IsNegative, HasSmallExponents}
use Rattle.vx_formula.specs.Rounds.{RoundsAt, Rounds}
use Rattle.vx_formula.specs.Between.{Between}
use Rattle.vx_formula.specs.Refusal.{IsBelowAll, TermReason, FirstTermRefusal, TickFacts, TickReason, FirstRefusal, OpeningFacts, OpeningReason, FirstOpeningRefusal}
use Rattle.vx_formula.specs.Undecided.{UndecidedCents, UndecidedForward}
use Rattle.vx_formula.specs.Clear.{IsFarFromStrikes, IsClearIndex}

-- of each two neighbouring rows strictly between two strikes one is live
abbrev pub IsUnbrokenBetween : (StrikeRow → Bool) → List StrikeRow → ℕ → ℕ → Type 0
IsUnbrokenBetween live rows low high =
    (place : ℕ) (a b : StrikeRow) → slice_get rows place ≡ Some a → slice_get rows (suc place) ≡ Some b → low < a.strike → b.strike < high → (live a || live b) ≡ true

-- a row below the level whose put is live, and no two neighbouring rows strictly between it and the level both have a put that is not
pub record IsSelectedPut (rows : List StrikeRow) (level : ℕ) (row : StrikeRow) : Type 0 where
  pub below : row.strike < level
  pub live : row.put.live ≡ true
  pub unbroken : IsUnbrokenBetween (λ r. r.put.live) rows row.strike level

-- a row above the level, likewise by calls
pub record IsSelectedCall (rows : List StrikeRow) (level : ℕ) (row : StrikeRow) : Type 0 where
  pub above : level < row.strike
  pub live : row.call.live ≡ true
  pub unbroken : IsUnbrokenBetween (λ r. r.call.live) rows level row.strike

-- the index whose square is x lies from c cents less a half, included, to c cents and a half, not included, in millionths of a
-- point. Subtraction stops at 0
pub record LiesInHalves (c : ℕ) (x : Fraction) : Type 0 where
  pub from_half_below : whole (signed_square (pos (CENT * c - HALF_CENT))) ≤ᶠ (whole (pos (10 ^ 16)) *ᶠ x)
  pub below_half_above : (whole (pos (10 ^ 16)) *ᶠ x) <ᶠ whole (signed_square (pos (CENT * c + HALF_CENT)))

-- rows have at most one closest pair
abbrev pub ClosestPairIsOne : Type 0
ClosestPairIsOne = (rows : List StrikeRow) (p q : Pair) → StrikesRise rows → IsClosestPair rows p → IsClosestPair rows q → p ≡ q

-- and they have one unless no row has both sides live
abbrev pub ClosestPairIsThere : Type 0
ClosestPairIsThere = (rows : List StrikeRow) → (live_pairs rows ≡ []) ⊎ ((p : Pair) × IsClosestPair rows p)

-- the level does not fall where the forward rises
abbrev pub LevelRises : Type 0
LevelRises = (rows : List StrikeRow) (low high : Fraction) (k m : ℕ) → IsProper low → low ≤ᶠ high → IsGreatestBelow rows low k → IsGreatestBelow rows high m → k ≤ m

-- a term has at most one level
abbrev pub LevelIsOne : Type 0
LevelIsOne = (term : Term) (k m : ℕ) → HasSmallExponent term → IsLevel term k → IsLevel term m → k ≡ m

-- and none where every listed strike is above the forward
abbrev pub LevelIsNotBelowAll : Type 0
LevelIsNotBelowAll = (term : Term) (k : ℕ) → HasSmallExponent term → IsLevel term k → IsBelowAll term → ⊥

-- the selected rows are listed
abbrev pub SelectedRowsAreListed : Type 0
SelectedRowsAreListed = (rows : List StrikeRow) (level : ℕ) → All (Contains rows) (selected_rows rows level)

-- in rising order
abbrev pub SelectedRowsRise : Type 0
SelectedRowsRise = (rows : List StrikeRow) (level : ℕ) → StrikesRise rows → StrikesRise (selected_rows rows level)

-- and the level's row is among them
abbrev pub LevelIsSelected : Type 0
LevelIsSelected = (rows : List StrikeRow) (level : ℕ) (row : StrikeRow) → Contains rows row → row.strike ≡ level → Contains (selected_rows rows level) row

-- the selection, said of each row by itself: the level's own row, and the selected puts and calls
abbrev pub SelectionGoesByRows : Type 0
SelectionGoesByRows = (rows : List StrikeRow) (level : ℕ) (row : StrikeRow) → StrikesRise rows →
    (is_selected rows level row ≡ true) ↔ ((row.strike ≡ level) ⊎ (IsSelectedPut rows level row ⊎ IsSelectedCall rows level row))

-- at most one figure rounds
abbrev pub FigureIsOne : Type 0
FigureIsOne = (basis : Basis) (c d : ℕ) → HasSmallExponents basis → Rounds basis c → Rounds basis d → c ≡ d

-- a figure says just that the exact value lies within its half cents
abbrev pub RoundingIsHalfOpen : Type 0
RoundingIsHalfOpen = (c : ℕ) (x : Fraction) → RoundsAt c x ↔ LiesInHalves c x

-- two ends around the value of a figure reach into its half cents
abbrev pub FigureLiesInEnds : Type 0
FigureLiesInEnds = (basis : Basis) (c : ℕ) (lo hi : ℤ) → HasSmallExponents basis → Rounds basis c → Between basis lo hi →
    (lo <ℤ pos (CENT * c + HALF_CENT)) × (pos (CENT * c - HALF_CENT) ≤ℤ hi)

-- a figure has no negative square
abbrev pub FigureIsNotNegative : Type 0
FigureIsNotNegative = (basis : Basis) (c : ℕ) → HasSmallExponents basis → Rounds basis c → SquareMeets basis IsNegative → ⊥

-- a clear index has no undecided cents
abbrev pub ClearIndexIsDecided : Type 0
ClearIndexIsDecided = (basis : Basis) (lo hi : ℤ) → HasSmallExponents basis → IsClearIndex basis → UndecidedCents basis lo hi → ⊥

-- a forward far from every strike is not undecided
abbrev pub FarForwardIsDecided : Type 0
FarForwardIsDecided = (term : Term) (strike : ℕ) (lo hi : ℤ) → HasSmallExponent term → IsFarFromStrikes term → UndecidedForward term strike lo hi → ⊥

-- a term has at most one first refusal, a tick has, and an opening has
abbrev pub FirstTermRefusalIsOne : Type 0
FirstTermRefusalIsOne = (P : ℕ) (facts : TermFacts) (r s : TermReason) → FirstTermRefusal P facts r → FirstTermRefusal P facts s → r ≡ s

abbrev pub FirstRefusalIsOne : Type 0
FirstRefusalIsOne = (P : ℕ) (facts : TickFacts) (r s : TickReason) → FirstRefusal P facts r → FirstRefusal P facts s → r ≡ s

abbrev pub FirstOpeningRefusalIsOne : Type 0
FirstOpeningRefusalIsOne = (P : ℕ) (facts : OpeningFacts) (r s : OpeningReason) → FirstOpeningRefusal P facts r → FirstOpeningRefusal P facts s → r ≡ s

-- a rounded-up contribution is the least whole number at least it
abbrev pub UpperEndIsCeiling : Type 0
UpperEndIsCeiling = (P : ℕ) (entry : StripEntry) → 1 ≤ entry.strike →
    IsCeiling (pos (5 * (entry.d * entry.q4) * 2 ^ P)) (pos (4 * (entry.strike * entry.strike))) (pos (upper_end P entry))

-- rates and minutes in range have small exponents: an eighth at most
abbrev pub ExponentIsSmall : Type 0
ExponentIsSmall = (term : Term) → IsRateInRange term.rate → term.minutes ≤ MINUTES_MAX →
    (8 * nat_abs (exponent term.rate term.minutes).top ≤ (exponent term.rate term.minutes).bottom) × HasSmallExponent term
