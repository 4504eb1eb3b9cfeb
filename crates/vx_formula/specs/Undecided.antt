-- An undecided answer: the true value cannot be told from a boundary by ends that lie this close. This project's own.
use Rattle.std.specs.Prelude.{◌≡◌, ℕ, ◌+◌, ◌*◌, ◌≤◌, ◌⊎◌, ℤ, pos, ◌+ℤ◌, ◌*ℤ◌, ◌≤ℤ◌, ◌<ℤ◌}
use Rattle.vx_formula.specs.declared.limits.TheConstants.{CENT, HALF_CENT, CENTS_MAX, INDEX_WIDTH_MAX, FORWARD_UNITS, FORWARD_WIDTH_MAX}
use Rattle.vx_formula.specs.Term.{Term}
use Rattle.vx_formula.specs.Level.{IsListed}
use Rattle.vx_formula.specs.Index.{Basis}
use Rattle.vx_formula.specs.Between.{Between, ForwardBetween}

-- where the rounded figure changes, in millionths of a point: each half cent up to the one above the greatest figure, and 0,
-- below which there is no root
abbrev pub IsBoundary : ℤ → Type 0
IsBoundary b = (b ≡ pos 0) ⊎ ((k : ℕ) × (k ≤ CENTS_MAX) × (b ≡ pos (CENT * k + HALF_CENT)))

-- a boundary that is above the low end and at most the high end
pub record Straddles (lo hi : ℤ) : Type 0 where
  pub boundary : ℤ
  pub is_boundary : IsBoundary boundary
  pub above : lo <ℤ boundary
  pub at_most : boundary ≤ℤ hi

pub record UndecidedCents (basis : Basis) (lo hi : ℤ) : Type 0 where
  pub between : Between basis lo hi
  pub narrow : hi ≤ℤ (lo +ℤ pos INDEX_WIDTH_MAX)
  pub straddles : Straddles lo hi

-- the strike in units of 10^-12 point is above the low end and at most the high end
pub record StrikeStraddles (lo hi : ℤ) (strike : ℕ) : Type 0 where
  pub above : lo <ℤ (pos FORWARD_UNITS *ℤ pos strike)
  pub at_most : (pos FORWARD_UNITS *ℤ pos strike) ≤ℤ hi

pub record UndecidedForward (term : Term) (strike : ℕ) (lo hi : ℤ) : Type 0 where
  pub between : ForwardBetween term lo hi
  pub narrow : hi ≤ℤ (lo +ℤ pos FORWARD_WIDTH_MAX)
  pub listed : IsListed term.rows strike
  pub straddles : StrikeStraddles lo hi strike
  pub lowest : (other : ℕ) → IsListed term.rows other → StrikeStraddles lo hi other → strike ≤ other
