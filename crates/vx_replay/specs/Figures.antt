-- The figure of two terms' runs in bounded arithmetic, at a scale. This project's own.
use Rattle.std.specs.Prelude.{◌≡◌, ℕ, ◌*◌, ℤ}
use Rattle.vx_clock.specs.declared.limits.TheConstants.{DAY_MINUTES}
use Rattle.vx_interval.specs.Ends.{Ends}
use Rattle.vx_bounds.specs.Cents.{Decides}
use Rattle.vx_bounds.specs.declared.cents.Decision.TheVariants as decision
use Rattle.vx_cert.specs.declared.limits.TheConstants.{VERSION_MAX}
use Rattle.vx_cert.specs.declared.certificate.CertBody.TheVariants.{Index}
use Rattle.vx_cert.specs.declared.certificate.CertFigure.{CertFigure}
use Rattle.vx_cert.specs.declared.certificate.Certificate.{Certificate}
use Rattle.vx_term.specs.Index.{interpolated_ends}
use Rattle.vx_term.specs.declared.answer.TermRun.{TermRun}
use Rattle.vx_certify.specs.Certified.{AreIndexEnds, certified_term, certified_figure}
use Rattle.vx_replay.specs.declared.answer.TickAnswer.{TickAnswer}
use Rattle.vx_replay.specs.declared.answer.TickAnswer.TheVariants.{Published, UndecidedCents, Refused}
use Rattle.vx_replay.specs.declared.answer.Reason.TheVariants.{NegativeVariance}
use Rattle.vx_replay.specs.declared.answer.Which.TheVariants.{Both}

-- the square of the index for so many days ahead
abbrev pub square_of_runs : {P : ℕ} → ℕ → TermRun P → TermRun P → Ends
square_of_runs days near next = interpolated_ends (DAY_MINUTES * days) near.w near.minutes next.w next.minutes

-- the certificate of a figure of two runs, for the tick of a line
abbrev pub certificate_of_runs : {P : ℕ} → ℕ → ℕ → ℕ → TermRun P → TermRun P → CertFigure → Certificate
certificate_of_runs number minute days near next figure = record {
  v = VERSION_MAX;
  line = number;
  time = minute;
  body = Index days (certified_term near) (certified_term next) figure;
}

-- that of their index's figure, with its ends
abbrev pub index_certificate : {P : ℕ} → ℕ → ℕ → ℕ → TermRun P → TermRun P → ℤ → ℤ → ℕ → Certificate
index_certificate line time days near next low high cents =
    certificate_of_runs line time days near next (certified_figure (square_of_runs days near next) low high cents)

-- the answer of two runs, for the tick of a line at a minute of the day and for so many days
abbrev pub IsFigureAnswer : {P : ℕ} → ℕ → ℕ → ℕ → TermRun P → TermRun P → TickAnswer → Type 0
IsFigureAnswer {P} line time days near next (Published cents lo hi certificate) =
    AreIndexEnds P (square_of_runs days near next) lo hi × Decides lo hi (decision.Cents cents)
    × (certificate ≡ index_certificate line time days near next lo hi cents)
IsFigureAnswer {P} line time days near next (UndecidedCents lo hi) =
    AreIndexEnds P (square_of_runs days near next) lo hi × Decides lo hi decision.Straddle
IsFigureAnswer {P} line time days near next (Refused NegativeVariance Both) =
    (lo hi : ℤ) × AreIndexEnds P (square_of_runs days near next) lo hi × Decides lo hi decision.Negative
IsFigureAnswer {P} line time days near next _ = ⊥
