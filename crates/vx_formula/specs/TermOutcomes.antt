-- That a term has a refusal, an undecided forward or a level, as far as the definitions determine which.
use Rattle.std.specs.Prelude.{◌≡◌, ℕ, ◌<◌, ◌≤◌, ◌⊎◌, ℤ, pos, ◌+ℤ◌, ◌≤ℤ◌, IfSome}
use Rattle.vx_clock.specs.declared.limits.TheConstants.{MINUTES_MAX}
use Rattle.vx_symbol.specs.Rows.{IsRateInRange}
use Rattle.vx_formula.specs.declared.limits.TheConstants.{FORWARD_WIDTH_MAX}
use Rattle.vx_formula.specs.Term.{TermFacts, Term, IsTermOf}
use Rattle.vx_formula.specs.Level.{StrikesRise, IsLevel}
use Rattle.vx_formula.specs.Between.{ForwardBetween}
use Rattle.vx_formula.specs.Refusal.{TermReason, TermRefuses, term_place, FirstTermRefusal}
use Rattle.vx_formula.specs.Undecided.{UndecidedForward}

-- what is known of the term is in range
pub record AreFactsInRange (facts : TermFacts) : Type 0 where
  pub rising : StrikesRise facts.rows
  pub rate : IfSome facts.rate IsRateInRange
  pub minutes : facts.minutes ≤ MINUTES_MAX

-- facts have one term at most: where a rate stands and a closest pair exists
abbrev pub TermOfFactsIsOne : Type 0
TermOfFactsIsOne = (facts : TermFacts) (a b : Term) → StrikesRise facts.rows → IsTermOf facts a → IsTermOf facts b → a ≡ b

-- narrow ends around the forward of the facts' term, if they have one
pub record AreForwardEnds (facts : TermFacts) (lo hi : ℤ) : Type 0 where
  pub between : (term : Term) → IsTermOf facts term → ForwardBetween term lo hi
  pub narrow : hi ≤ℤ (lo +ℤ pos FORWARD_WIDTH_MAX)

-- the place of an undecided forward among a term's answers
abbrev pub undecided_place : ℕ
undecided_place = 3

-- some refusal is the first
abbrev pub IsRefused : ℕ → TermFacts → Type 0
IsRefused P facts = (reason : TermReason) × FirstTermRefusal P facts reason

-- the ends leave the forward undecided, and no refusal at an earlier place holds
pub record IsUndecided (P : ℕ) (facts : TermFacts) (lo hi : ℤ) : Type 0 where
  pub term : Term
  pub is_of_facts : IsTermOf facts term
  pub strike : ℕ
  pub undecided : UndecidedForward term strike lo hi
  pub none_earlier : (reason : TermReason) → term_place reason < undecided_place → ¬ TermRefuses P facts reason

-- there is a level, and no refusal holds
pub record IsSound (P : ℕ) (facts : TermFacts) : Type 0 where
  pub term : Term
  pub is_of_facts : IsTermOf facts term
  pub level : ℕ
  pub is_level : IsLevel term level
  pub none_refuses : (reason : TermReason) → ¬ TermRefuses P facts reason

-- at least one of the three
abbrev pub TermIsAnswered : Type 0
TermIsAnswered = (P : ℕ) (facts : TermFacts) (lo hi : ℤ) → AreFactsInRange facts → AreForwardEnds facts lo hi →
    IsRefused P facts ⊎ (IsUndecided P facts lo hi ⊎ IsSound P facts)

-- the first and the third exclude each other
abbrev pub RefusedIsNotSound : Type 0
RefusedIsNotSound = (P : ℕ) (facts : TermFacts) → IsRefused P facts → IsSound P facts → ⊥

-- where a first refusal and an undecided forward both hold, the refusal's place comes later, so that the undecided forward is
-- the answer. Both can hold: a deeper bracket may show a level, and a refusal there, while the given ends straddle a strike. So
-- can an undecided forward and a level with no refusal
abbrev pub UndecidedComesFirst : Type 0
UndecidedComesFirst = (P : ℕ) (facts : TermFacts) (lo hi : ℤ) (reason : TermReason) →
    IsUndecided P facts lo hi → FirstTermRefusal P facts reason → undecided_place < term_place reason
