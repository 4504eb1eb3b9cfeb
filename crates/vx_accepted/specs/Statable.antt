-- What the calculator certifies can be written: it is in the range of each field of a certificate.
use Rattle.std.specs.Prelude.{ℕ, ℤ}
use Rattle.vx_clock.specs.declared.terms.Expiry.{Expiry}
use Rattle.vx_interval.specs.Ends.{Ends, IsScale}
use Rattle.vx_bounds.specs.declared.cents.Decision.TheVariants.{Cents}
use Rattle.vx_formula.specs.Term.{TermFacts}
use Rattle.vx_cert.specs.Ranges.{IsExpiryInRange, IsFigureInRange, IsTermInRange}
use Rattle.vx_term.specs.declared.answer.TermRun.{TermRun}
use Rattle.vx_term.specs.Answer.{IsRun}
use Rattle.vx_term.specs.Laws.{AreInOrder}
use Rattle.vx_term.specs.Ranges.{AreFactsLawful, IsSquareInRange}
use Rattle.vx_certify.specs.Certified.{certified_figure, certified_term}
use Rattle.vx_certify.specs.Laws.{IsDecided}

-- what a certificate states of a run over lawful facts, where its expiry is a day of the years 2000 to 2099
abbrev pub RunIsStatable : Type 0
RunIsStatable = (P : ℕ) (x : Expiry) (facts : TermFacts) (run : TermRun P) →
    IsScale P → IsExpiryInRange x → AreFactsLawful facts → IsRun P x facts run → IsTermInRange (certified_term run)

-- and of a figure that is decided from a square in range
abbrev pub FigureIsStatable : Type 0
FigureIsStatable = (P : ℕ) (square : Ends) (lo hi : ℤ) (figure : ℕ) →
    IsScale P → AreInOrder square → IsSquareInRange P square → IsDecided P square lo hi (Cents figure) →
    IsFigureInRange (certified_figure square lo hi figure)
