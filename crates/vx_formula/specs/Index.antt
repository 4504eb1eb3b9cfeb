-- The square of the index over 100, so that the index is 100 times its root, in points. After the Cboe VIX white paper.
use Rattle.std.specs.Prelude.{ℕ, ◌*◌, ◌-◌, pos, ◌-ℤ◌}
use Rattle.vx_num.specs.Fraction.{Fraction, whole, ◌+ᶠ◌, ◌*ᶠ◌, ◌/ᶠ◌, ◌<ᶠ◌}
use Rattle.vx_formula.specs.declared.limits.TheConstants.{YEAR_MINUTES, THIRTY_DAYS}
use Rattle.vx_formula.specs.Term.{Term, InBracket, HasSmallExponent}
use Rattle.vx_formula.specs.Level.{IsLevelAt}
use Rattle.vx_formula.specs.Variance.{variance_at}

-- two variances with their minutes n1 and n2, weighted to a time ahead of `target` minutes and taken for a year
abbrev pub index_square : ℕ → Fraction → ℕ → Fraction → ℕ → Fraction
index_square target w1 n1 w2 n2 =
    whole (pos YEAR_MINUTES) *ᶠ (whole (pos n2 -ℤ pos target) *ᶠ w1 +ᶠ whole (pos target -ℤ pos n1) *ᶠ w2) /ᶠ (target * (n2 - n1))

-- one variance at exactly 30 days, taken for a year
abbrev pub single_square : Fraction → Fraction
single_square w = whole (pos YEAR_MINUTES) *ᶠ w /ᶠ THIRTY_DAYS

-- what a figure is computed from: a near and a next term for a time ahead in minutes, or one term at exactly 30 days
pub data Basis : Type 0 where
  TwoTerms : (near next : Term) (target : ℕ) → Basis
  OneTerm : (term : Term) → Basis

abbrev pub HasSmallExponents : Basis → Type 0
HasSmallExponents (TwoTerms near next target) = HasSmallExponent near × HasSmallExponent next
HasSmallExponents (OneTerm term) = HasSmallExponent term

-- both levels hold at a point of the box, and the square meets the test there
pub record MeetsAt (near next : Term) (target k1 k2 : ℕ) (Test : Fraction → Type 0) (e1 e2 : Fraction) : Type 0 where
  pub near_level : IsLevelAt near k1 e1
  pub next_level : IsLevelAt next k2 e2
  pub test : Test (index_square target (variance_at near k1 e1) near.minutes (variance_at next k2 e2) next.minutes)

pub record MeetsOneAt (term : Term) (k : ℕ) (Test : Fraction → Type 0) (e : Fraction) : Type 0 where
  pub level : IsLevelAt term k e
  pub test : Test (single_square (variance_at term k e))

-- at every point of the box of some brackets both levels hold and the square meets the test
pub record TwoTermsMeet (near next : Term) (target : ℕ) (Test : Fraction → Type 0) : Type 0 where
  pub depth : ℕ
  pub near_level : ℕ
  pub next_level : ℕ
  pub holds : (e1 e2 : Fraction) → InBracket near depth e1 → InBracket next depth e2 → MeetsAt near next target near_level next_level Test e1 e2

pub record OneTermMeets (term : Term) (Test : Fraction → Type 0) : Type 0 where
  pub depth : ℕ
  pub level : ℕ
  pub holds : (e : Fraction) → InBracket term depth e → MeetsOneAt term level Test e

-- the square of the index meets the test
abbrev pub SquareMeets : Basis → (Fraction → Type 0) → Type 0
SquareMeets (TwoTerms near next target) Test = TwoTermsMeet near next target Test
SquareMeets (OneTerm term) Test = OneTermMeets term Test

-- below zero, where there is no root
abbrev pub IsNegative : Fraction → Type 0
IsNegative x = x <ᶠ whole (pos 0)
