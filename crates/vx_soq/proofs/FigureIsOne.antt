-- A run has at most one answer.
use Rattle.std.proofs.Common.{◌≡◌, ℕ, ℤ, refl, ap}
use Rattle.vx_clock.specs.declared.terms.Expiry.{Expiry}
use Rattle.vx_bounds.specs.declared.cents.Decision.{Decision}
use Rattle.vx_bounds.specs.declared.cents.Decision.TheVariants as decision
use Rattle.vx_cert.specs.declared.certificate.Certificate.{Certificate}
use Rattle.vx_formula.specs.Term.{TermFacts}
use Rattle.vx_claims.specs.declared.limits.TheConstants.{SCALE}
use Rattle.vx_term.specs.Index.{single_ends}
use Rattle.vx_term.specs.declared.answer.TermRun.{TermRun}
use Rattle.vx_term.specs.Answer.{IsRun}
use Rattle.vx_term.specs.Laws.{AreInOrder}
use Rattle.vx_term.proofs.Ordered.{square_is_ordered}
use Rattle.vx_accepted.proofs.FigureDecisions.{IsFromDecision, decided_answer_is_one, run_is_ordered}
use Rattle.vx_soq.specs.declared.answer.Figure.{Figure}
use Rattle.vx_soq.specs.declared.answer.OpeningAnswer.{OpeningAnswer}
use Rattle.vx_soq.specs.declared.answer.OpeningAnswer.TheVariants.{Published, Refused, UndecidedForward, UndecidedCents}
use Rattle.vx_soq.specs.declared.answer.SoqReason.TheVariants.{NoOpening, NoTerm, Term, NegativeVariance}
use Rattle.vx_soq.specs.Figures.{opening_certificate, IsOpeningFigure}

-- the square of a run has its ends in order
pub square_is_in_order : (x : Expiry) (facts : TermFacts) (run : TermRun SCALE) → IsRun SCALE x facts run → AreInOrder (single_ends run.w)
square_is_in_order x facts run h =
    let variance = run_is_ordered SCALE x facts run h in
    (square_is_ordered 0 0 0 run.w run.w variance variance).1

module _ (line time : ℕ) (run : TermRun SCALE) where
  abbrev figure_of : ℤ → ℤ → ℕ → Figure
  figure_of low high n = record { cents = n; lo = low; hi = high; certificate = opening_certificate line time run low high n }

  -- what is answered to a decision
  answer_to : ℤ → ℤ → Decision → OpeningAnswer
  answer_to lo hi (decision.Cents cents) = Published (figure_of lo hi cents)
  answer_to lo hi decision.Straddle = UndecidedCents lo hi
  answer_to lo hi decision.Negative = Refused NegativeVariance

  abbrev with_certificate : Figure → Certificate → Figure
  with_certificate figure c = record { cents = figure.cents; lo = figure.lo; hi = figure.hi; certificate = c }

  from_decision : (a : OpeningAnswer) → IsOpeningFigure line time run a → IsFromDecision (single_ends run.w) answer_to a
  unfolding answer_to
  from_decision (Published figure) (ends, decides, e) = record {
    lo = figure.lo;
    hi = figure.hi;
    decision = decision.Cents figure.cents;
    decided = record { ends = ends; decides = decides };
    follows = ap (λ (c : Certificate). Published (with_certificate figure c)) e;
  }
  from_decision (UndecidedCents lo hi) (ends, decides) = record {
    lo = lo;
    hi = hi;
    decision = decision.Straddle;
    decided = record { ends = ends; decides = decides };
    follows = refl;
  }
  from_decision (UndecidedForward strike lo hi) h = elim h [ ]
  from_decision (Refused NegativeVariance) (lo, hi, ends, decides) = record {
    lo = lo;
    hi = hi;
    decision = decision.Negative;
    decided = record { ends = ends; decides = decides };
    follows = refl;
  }
  from_decision (Refused NoOpening) h = elim h [ ]
  from_decision (Refused NoTerm) h = elim h [ ]
  from_decision (Refused (Term refusal)) h = elim h [ ]

  -- the answer of the run is one
  pub figure_is_one : (a b : OpeningAnswer) → AreInOrder (single_ends run.w) → IsOpeningFigure line time run a → IsOpeningFigure line time run b → a ≡ b
  figure_is_one a b ordered h k = decided_answer_is_one (single_ends run.w) answer_to a b ordered (from_decision a h) (from_decision b k)
