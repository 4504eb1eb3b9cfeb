-- Any two runs have an answer.
use Rattle.std.proofs.Common.{refl, ℕ, ℤ}
use Rattle.vx_bounds.specs.Cents.{Decides}
use Rattle.vx_bounds.specs.declared.cents.Decision.{Decision}
use Rattle.vx_bounds.specs.declared.cents.Decision.TheVariants.{Cents, Straddle, Negative}
use Rattle.vx_certify.specs.Certified.{AreIndexEnds}
use Rattle.vx_term.specs.declared.answer.TermRun.{TermRun}
use Rattle.vx_replay.specs.Figures.{square_of_runs, index_certificate, IsFigureAnswer}
use Rattle.vx_replay.specs.declared.answer.TickAnswer.{TickAnswer}
use Rattle.vx_replay.specs.declared.answer.TickAnswer.TheVariants.{Published, UndecidedCents, Refused}
use Rattle.vx_replay.specs.declared.answer.Reason.TheVariants.{NegativeVariance}
use Rattle.vx_replay.specs.declared.answer.Which.TheVariants.{Both}
use Rattle.vx_existence.specs.Existence.{EveryFigureHasAnswer}
use Rattle.vx_existence.proofs.Roots.{square_has_index_ends}
use Rattle.vx_existence.proofs.Decisions.{ends_are_decided}

-- by what is decided from the ends of the index
of_decision : (P line time days : ℕ) (near next : TermRun P) (lo hi : ℤ) → AreIndexEnds P (square_of_runs days near next) lo hi
    → (decision : Decision) → Decides lo hi decision
    → (answer : TickAnswer) × IsFigureAnswer line time days near next answer
of_decision P line time days near next lo hi ends (Cents cents) decides =
    (Published cents lo hi (index_certificate line time days near next lo hi cents), (ends, decides, refl))
of_decision P line time days near next lo hi ends Straddle decides = (UndecidedCents lo hi, (ends, decides))
of_decision P line time days near next lo hi ends Negative decides = (Refused NegativeVariance Both, (lo, hi, ends, decides))

-- any two runs have an answer, at every scale, for the tick of any line at any minute and for any days
pub every_figure_has_answer : EveryFigureHasAnswer
every_figure_has_answer P line time days near next =
    let found = square_has_index_ends P (square_of_runs days near next) in
    let decided = ends_are_decided found.0 found.1 in
    of_decision P line time days near next found.0 found.1 found.2 decided.0 decided.1
