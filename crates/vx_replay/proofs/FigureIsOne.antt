-- Two runs have at most one answer.
use Rattle.std.proofs.Common.{◌≡◌, ℕ, ◌*◌, ℤ, refl, ap}
use Rattle.vx_clock.specs.declared.limits.TheConstants.{DAY_MINUTES}
use Rattle.vx_clock.specs.declared.terms.Expiry.{Expiry}
use Rattle.vx_interval.specs.Ends.{Ends}
use Rattle.vx_bounds.specs.declared.cents.Decision.{Decision}
use Rattle.vx_bounds.specs.declared.cents.Decision.TheVariants as decision
use Rattle.vx_cert.specs.declared.certificate.Certificate.{Certificate}
use Rattle.vx_formula.specs.Term.{TermFacts}
use Rattle.vx_claims.specs.declared.limits.TheConstants.{SCALE}
use Rattle.vx_term.specs.declared.answer.TermRun.{TermRun}
use Rattle.vx_term.specs.Answer.{IsRun}
use Rattle.vx_term.specs.Laws.{AreInOrder}
use Rattle.vx_term.proofs.Ordered.{square_is_ordered}
use Rattle.vx_accepted.proofs.FigureDecisions.{IsFromDecision, decided_answer_is_one, run_is_ordered}
use Rattle.vx_replay.specs.declared.answer.TickAnswer.{TickAnswer}
use Rattle.vx_replay.specs.declared.answer.TickAnswer.TheVariants.{Published, UndecidedCents, UndecidedForward, Refused}
use Rattle.vx_replay.specs.declared.answer.Reason.TheVariants.{NoTerm, Term, NegativeVariance}
use Rattle.vx_replay.specs.declared.answer.Which.TheVariants.{Near, Next, Both}
use Rattle.vx_replay.specs.Figures.{square_of_runs, index_certificate, IsFigureAnswer}

-- the square of the index of two runs has its ends in order
pub square_of_runs_is_ordered : (days : ℕ) (x y : Expiry) (near_facts next_facts : TermFacts) (near next : TermRun SCALE)
    → IsRun SCALE x near_facts near → IsRun SCALE y next_facts next → AreInOrder (square_of_runs days near next)
square_of_runs_is_ordered days x y near_facts next_facts near next h k =
    (square_is_ordered (DAY_MINUTES * days) near.minutes next.minutes near.w next.w (run_is_ordered SCALE x near_facts near h) (run_is_ordered SCALE y next_facts next k)).0

module _ (line time days : ℕ) (near next : TermRun SCALE) where
  abbrev square : Ends
  square = square_of_runs days near next

  -- what is answered to a decision
  answer_to : ℤ → ℤ → Decision → TickAnswer
  answer_to lo hi (decision.Cents cents) = Published cents lo hi (index_certificate line time days near next lo hi cents)
  answer_to lo hi decision.Straddle = UndecidedCents lo hi
  answer_to lo hi decision.Negative = Refused NegativeVariance Both

  from_decision : (a : TickAnswer) → IsFigureAnswer line time days near next a → IsFromDecision square answer_to a
  unfolding answer_to
  from_decision (Published cents lo hi certificate) (ends, decides, e) = record {
    lo = lo;
    hi = hi;
    decision = decision.Cents cents;
    decided = record { ends = ends; decides = decides };
    follows = ap (λ (c : Certificate). Published cents lo hi c) e;
  }
  from_decision (UndecidedCents lo hi) (ends, decides) = record {
    lo = lo;
    hi = hi;
    decision = decision.Straddle;
    decided = record { ends = ends; decides = decides };
    follows = refl;
  }
  from_decision (UndecidedForward which strike lo hi) h = elim h [ ]
  from_decision (Refused NegativeVariance Both) (lo, hi, ends, decides) = record {
    lo = lo;
    hi = hi;
    decision = decision.Negative;
    decided = record { ends = ends; decides = decides };
    follows = refl;
  }
  from_decision (Refused NegativeVariance Near) h = elim h [ ]
  from_decision (Refused NegativeVariance Next) h = elim h [ ]
  from_decision (Refused NoTerm which) h = elim h [ ]
  from_decision (Refused (Term refusal) which) h = elim h [ ]

  -- the answer of the two runs is one
  pub figure_is_one : (a b : TickAnswer) → AreInOrder square → IsFigureAnswer line time days near next a → IsFigureAnswer line time days near next b → a ≡ b
  figure_is_one a b ordered h k = decided_answer_is_one square answer_to a b ordered (from_decision a h) (from_decision b k)
