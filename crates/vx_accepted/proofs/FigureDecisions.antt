-- What is answered to a decision on a figure is one.
use Rattle.std.proofs.Common.{◌≡◌, ◌∙◌, sym, ap, subst, ℕ, ℤ}
use Rattle.vx_clock.specs.declared.terms.Expiry.{Expiry}
use Rattle.vx_interval.specs.Ends.{Ends}
use Rattle.vx_bounds.specs.declared.cents.Decision.{Decision}
use Rattle.vx_formula.specs.Term.{TermFacts}
use Rattle.vx_claims.specs.declared.limits.TheConstants.{SCALE}
use Rattle.vx_term.specs.declared.answer.TermRun.{TermRun}
use Rattle.vx_term.specs.Answer.{IsRun}
use Rattle.vx_term.specs.Laws.{AreInOrder}
use Rattle.vx_term.proofs.Ordered.{variance_is_ordered}
use Rattle.vx_certify.specs.Laws.{IsDecided}
use Rattle.vx_certify.proofs.IndexDecisionIsOne.{index_decision_is_one}

-- the variance of a run has its ends in order
pub run_is_ordered : (P : ℕ) (x : Expiry) (facts : TermFacts) (run : TermRun P) → IsRun P x facts run → AreInOrder run.w
run_is_ordered P x facts run h =
    subst AreInOrder (sym (h.numbers_are).variance_is) (variance_is_ordered P run.exp.value run.sum.total run.g)

module _ {A : Type 0} (square : Ends) (answer_to : ℤ → ℤ → Decision → A) where
  -- the answer is that to what is decided from the square of the index
  pub record IsFromDecision (answer : A) : Type 0 where
    pub lo : ℤ
    pub hi : ℤ
    pub decision : Decision
    pub decided : IsDecided SCALE square lo hi decision
    pub follows : answer ≡ answer_to lo hi decision

  -- there is at most one, where the ends of the square are in order
  pub decided_answer_is_one : (a b : A) → AreInOrder square → IsFromDecision a → IsFromDecision b → a ≡ b
  decided_answer_is_one a b ordered p q =
      let same = index_decision_is_one SCALE square p.lo p.hi q.lo q.hi p.decision q.decision ordered p.decided q.decided in
      p.follows ∙ ap (λ z. answer_to z p.hi p.decision) same.0 ∙ ap (λ z. answer_to q.lo z p.decision) same.1
      ∙ ap (answer_to q.lo q.hi) same.2 ∙ sym q.follows
