-- The figure of the opening's one run in bounded arithmetic, at the product's scale. This project's own.
use Rattle.std.specs.Prelude.{◌≡◌, ℕ, ℤ}
use Rattle.vx_bounds.specs.Cents.{Decides}
use Rattle.vx_bounds.specs.declared.cents.Decision.TheVariants as decision
use Rattle.vx_cert.specs.declared.limits.TheConstants.{VERSION_MAX}
use Rattle.vx_cert.specs.declared.certificate.CertBody.TheVariants.{Soq}
use Rattle.vx_cert.specs.declared.certificate.CertFigure.{CertFigure}
use Rattle.vx_cert.specs.declared.certificate.Certificate.{Certificate}
use Rattle.vx_claims.specs.declared.limits.TheConstants.{SCALE}
use Rattle.vx_term.specs.Index.{single_ends}
use Rattle.vx_term.specs.declared.answer.TermAnswer.{TermAnswer}
use Rattle.vx_term.specs.declared.answer.TermAnswer.TheVariants as term
use Rattle.vx_term.specs.declared.answer.TermRun.{TermRun}
use Rattle.vx_certify.specs.Certified.{AreIndexEnds, certified_term, certified_figure}
use Rattle.vx_soq.specs.declared.answer.OpeningAnswer.{OpeningAnswer}
use Rattle.vx_soq.specs.declared.answer.OpeningAnswer.TheVariants.{Published, Refused, UndecidedForward, UndecidedCents}
use Rattle.vx_soq.specs.declared.answer.SoqReason.TheVariants.{Term, NegativeVariance}

-- the certificate of a figure of a run, for the opening at a line and a minute of the day
abbrev pub certificate_of_run : ℕ → ℕ → TermRun SCALE → CertFigure → Certificate
certificate_of_run number minute run figure = record {
  v = VERSION_MAX;
  line = number;
  time = minute;
  body = Soq (certified_term run) figure;
}

-- that of its index's figure, with its ends
abbrev pub opening_certificate : ℕ → ℕ → TermRun SCALE → ℤ → ℤ → ℕ → Certificate
opening_certificate line time run low high cents =
    certificate_of_run line time run (certified_figure (single_ends run.w) low high cents)

-- the answer of a run, for the opening at a line and a minute of the day
abbrev pub IsOpeningFigure : ℕ → ℕ → TermRun SCALE → OpeningAnswer → Type 0
IsOpeningFigure line time run (Published figure) =
    AreIndexEnds SCALE (single_ends run.w) figure.lo figure.hi × Decides figure.lo figure.hi (decision.Cents figure.cents)
    × (figure.certificate ≡ opening_certificate line time run figure.lo figure.hi figure.cents)
IsOpeningFigure line time run (UndecidedCents lo hi) =
    AreIndexEnds SCALE (single_ends run.w) lo hi × Decides lo hi decision.Straddle
IsOpeningFigure line time run (Refused NegativeVariance) =
    (lo hi : ℤ) × AreIndexEnds SCALE (single_ends run.w) lo hi × Decides lo hi decision.Negative
IsOpeningFigure line time run _ = ⊥

-- by the answer for the opening's term
abbrev pub IsAnswerByTerm : ℕ → ℕ → TermAnswer SCALE → OpeningAnswer → Type 0
IsAnswerByTerm line time (term.Run run) answer = IsOpeningFigure line time run answer
IsAnswerByTerm line time (term.Refused refusal) answer = answer ≡ Refused (Term refusal)
IsAnswerByTerm line time (term.UndecidedForward strike lo hi) answer = answer ≡ UndecidedForward strike lo hi
