-- What is decided from the square of the index, and the laws of its ends.
use Rattle.std.specs.Prelude.{◌≡◌, ℕ, ◌*◌, ◌<◌, ◌≤◌, ℤ, pos, ◌+ℤ◌, ◌≤ℤ◌}
use Rattle.vx_clock.specs.declared.limits.TheConstants.{DAY_MINUTES}
use Rattle.vx_interval.specs.Ends.{Ends, width}
use Rattle.vx_bounds.specs.Cents.{Decides}
use Rattle.vx_bounds.specs.declared.cents.Decision.{Decision}
use Rattle.vx_formula.specs.declared.limits.TheConstants.{INDEX_WIDTH_MAX}
use Rattle.vx_term.specs.declared.limits.TheConstants.{SQUARE_WIDTH_MAX}
use Rattle.vx_term.specs.Index.{interpolated_ends, single_ends}
use Rattle.vx_term.specs.Laws.{AreInOrder}
use Rattle.vx_term.specs.Ranges.{AreDaysInRange, AreWeightsInRange, IsVarianceNarrow}
use Rattle.vx_certify.specs.Certified.{AreIndexEnds}

-- what is decided from the ends of the index
pub record IsDecided (P : ℕ) (square : Ends) (lo hi : ℤ) (decision : Decision) : Type 0 where
  pub ends : AreIndexEnds P square lo hi
  pub decides : Decides lo hi decision

-- is one, and so are the ends, where those of the square are in order
abbrev pub IndexDecisionIsOne : Type 0
IndexDecisionIsOne = (P : ℕ) (square : Ends) (lo hi low high : ℤ) (a b : Decision) →
    AreInOrder square → IsDecided P square lo hi a → IsDecided P square low high b → (lo ≡ low) × (hi ≡ high) × (a ≡ b)

-- the square is at most 5,788,000 units wide, and the ends of the index from it are at most 200 millionths of a point apart
pub record IsTight (P : ℕ) (square : Ends) : Type 0 where
  pub narrow : width square ≤ℤ pos SQUARE_WIDTH_MAX
  pub near : (lo hi : ℤ) → AreIndexEnds P square lo hi → hi ≤ℤ (lo +ℤ pos INDEX_WIDTH_MAX)

-- the square of the index is so at scale 62, from 7 to 120 days ahead, where its variances are as narrow as the calculator's
abbrev pub IndexIsTight : Type 0
IndexIsTight = (P days n1 n2 : ℕ) (w1 w2 : Ends) → 62 ≤ P → AreDaysInRange days → n1 < n2 → AreWeightsInRange (DAY_MINUTES * days) n1 n2
    → IsVarianceNarrow w1 → IsVarianceNarrow w2 → IsTight P (interpolated_ends (DAY_MINUTES * days) w1 n1 w2 n2)

-- and that of one variance
abbrev pub SingleIsTight : Type 0
SingleIsTight = (P : ℕ) (w : Ends) → 62 ≤ P → IsVarianceNarrow w → IsTight P (single_ends w)
