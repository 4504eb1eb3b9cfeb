-- A published figure is that of the run.
use Rattle.std.proofs.Common.{◌≡◌, ◌∙◌, sym, ap, subst, rules, ℕ, ℤ, w64, to_z, of_z}
use Rattle.vx_interval.specs.Ends.{Ends}
use Rattle.vx_bounds.specs.Cents.{Decides}
use Rattle.vx_bounds.specs.declared.cents.Decision.{Decision}
use Rattle.vx_bounds.specs.declared.cents.Decision.TheVariants as decision
use Rattle.vx_cert.specs.declared.certificate.Certificate.{Certificate}
use Rattle.vx_cert.specs.declared.certificate.CertFigure.{CertFigure}
use Rattle.vx_claims.specs.declared.limits.TheConstants.{SCALE}
use Rattle.vx_term.specs.Index.{single_ends}
use Rattle.vx_term.specs.declared.answer.TermRun.{TermRun}
use Rattle.vx_certify.specs.Certified.{AreIndexEnds, certified_figure}
use Rattle.vx_soq.specs.declared.answer.Figure.{Figure}
use Rattle.vx_soq.specs.declared.answer.OpeningAnswer.TheVariants.{Published}
use Rattle.vx_soq.specs.Figures.{IsOpeningFigure, certificate_of_run}
use Rattle.vx_soq.proofs.opening.answer_of_run.Goals as goal

abbrev figure_with : ℕ → Certificate → ℤ → ℤ → Figure
figure_with n c low high = record { cents = n; lo = low; hi = high; certificate = c }

-- from the ends and the decision of the run's square
figure_stands : (line time : ℕ) (run : TermRun SCALE) (square : Ends) (lo hi low high : ℤ) (cents : ℕ) (figure : CertFigure)
    (c : Certificate)
    → low ≡ lo → high ≡ hi → square ≡ single_ends run.w → AreIndexEnds SCALE square lo hi → Decides lo hi (decision.Cents cents)
    → figure ≡ certified_figure square low high cents → c ≡ certificate_of_run line time run figure
    → IsOpeningFigure line time run (Published (figure_with cents c low high))
figure_stands line time run square lo hi low high cents figure c same_low same_high of_run ends decides stated certified =
    let ends_of_run : AreIndexEnds SCALE (single_ends run.w) lo hi = subst (λ (x : Ends). AreIndexEnds SCALE x lo hi) of_run ends in
    let low_ends : AreIndexEnds SCALE (single_ends run.w) low hi =
    subst (λ (z : ℤ). AreIndexEnds SCALE (single_ends run.w) z hi) (sym same_low) ends_of_run in
    let low_decides : Decides low hi (decision.Cents cents) =
    subst (λ (z : ℤ). Decides z hi (decision.Cents cents)) (sym same_low) decides in (
      subst (λ (z : ℤ). AreIndexEnds SCALE (single_ends run.w) low z) (sym same_high) low_ends,
      subst (λ (z : ℤ). Decides low z (decision.Cents cents)) (sym same_high) low_decides,
      certified ∙ ap (certificate_of_run line time run) (stated ∙ ap (λ (x : Ends). certified_figure x low high cents) of_run),
    )

pub returns-in_ok-certificate-in-Cents : goal.returns-in_ok-certificate-in-Cents
returns-in_ok-certificate-in-Cents c =
    let lo = c.decide_index-index.result.lo in
    let hi = c.decide_index-index.result.hi in
    let same_low : to_z w64 (of_z w64 lo) ≡ lo = search rules in
    let same_high : to_z w64 (of_z w64 hi) ≡ hi = search rules in
    let decides : Decides lo hi (decision.Cents c.in-Cents.cents) =
    subst (λ (d : Decision). Decides lo hi d) c.in-Cents.is c.decide_index-index.ensures.decides in
    figure_stands c.args.opened.line c.args.opened.time c.args.run.now c.single-square.result lo hi
    (to_z w64 (of_z w64 lo)) (to_z w64 (of_z w64 hi)) c.in-Cents.cents c.certify_figure-figure.result
    c.in_ok-certificate-in-Cents.certificate same_low same_high c.single-square.ensures.ends c.decide_index-index.ensures.ends
    decides c.certify_figure-figure.ensures c.in_ok-certificate-in-Cents.ensures
