-- That a tick with two terms has a refusal, an undecided forward or two levels, as far as the definitions determine which.
use Rattle.std.specs.Prelude.{ℕ, ◌<◌, ◌⊎◌, ℤ, Option, IfSome}
use Rattle.vx_formula.specs.Term.{TermFacts, Term}
use Rattle.vx_formula.specs.Level.{IsLevel}
use Rattle.vx_formula.specs.Refusal.{TickFacts, IsTickBasis, TickReason, TickRefuses, tick_place, FirstRefusal}
use Rattle.vx_formula.specs.Refusal.{near_undecided_place, next_undecided_place, cents_undecided_place}
use Rattle.vx_claims.specs.declared.limits.TheConstants.{SCALE}
use Rattle.vx_claims.specs.Answers.{LeavesForward}
use Rattle.vx_formula.specs.TermOutcomes.{AreFactsInRange, AreForwardEnds}

-- what is known of the term, where it is declared, is in range, and these are narrow ends around its forward
pub record AreEndsOf (chosen : Option TermFacts) (lo hi : ℤ) : Type 0 where
  pub in_range : IfSome chosen AreFactsInRange
  pub around : IfSome chosen (λ facts. AreForwardEnds facts lo hi)

-- the first refusal of a tick, of one of its terms
pub record IsTickRefused (facts : TickFacts) : Type 0 where
  pub reason : TickReason
  pub is_first : FirstRefusal SCALE facts reason
  pub of_terms : tick_place reason < cents_undecided_place

-- both terms have a level, and no refusal of a term holds
pub record AreBothSound (facts : TickFacts) : Type 0 where
  pub near : Term
  pub next : Term
  pub is_basis : IsTickBasis facts near next
  pub near_level : (k : ℕ) × IsLevel near k
  pub next_level : (k : ℕ) × IsLevel next k
  pub none_refuses : (reason : TickReason) → tick_place reason < cents_undecided_place → ¬ TickRefuses SCALE facts reason

-- at least one of four: a first refusal of a term, an undecided forward of near, one of next, or two levels with no such
-- refusal. Whether the figure is then undecided, negative or published, these definitions leave to its ends
abbrev pub TickIsAnswered : Type 0
TickIsAnswered = (facts : TickFacts) (near_lo near_hi next_lo next_hi : ℤ) → AreEndsOf facts.near near_lo near_hi → AreEndsOf facts.next next_lo next_hi →
    IsTickRefused facts
    ⊎ (((strike : ℕ) × LeavesForward facts facts.near near_undecided_place strike near_lo near_hi)
    ⊎ (((strike : ℕ) × LeavesForward facts facts.next next_undecided_place strike next_lo next_hi)
    ⊎ AreBothSound facts))

-- the first and the last exclude each other
abbrev pub RefusedTickIsNotSound : Type 0
RefusedTickIsNotSound = (facts : TickFacts) → IsTickRefused facts → AreBothSound facts → ⊥

-- where a first refusal and an undecided forward both hold, the refusal's place comes later, so that the undecided forward is
-- the answer
abbrev pub UndecidedNearComesFirst : Type 0
UndecidedNearComesFirst = (facts : TickFacts) (strike : ℕ) (lo hi : ℤ) (reason : TickReason) →
    LeavesForward facts facts.near near_undecided_place strike lo hi → FirstRefusal SCALE facts reason → near_undecided_place < tick_place reason

-- the same of the next term's forward
abbrev pub UndecidedNextComesFirst : Type 0
UndecidedNextComesFirst = (facts : TickFacts) (strike : ℕ) (lo hi : ℤ) (reason : TickReason) →
    LeavesForward facts facts.next next_undecided_place strike lo hi → FirstRefusal SCALE facts reason → next_undecided_place < tick_place reason
