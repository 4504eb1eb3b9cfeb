-- The answers for two picked terms can be joined, and the certificate of a figure that they publish is in range.
use Rattle.std.proofs.Common.{◌≡◌, ◌∙◌, sym, ap, subst, ℕ, ◌*◌, ◌≤◌, ℤ, ◌≤ℤ◌, length, arith}
use Rattle.std.proofs.lemmas.Int.{ints}
use Rattle.std.proofs.lemmas.List.{length-map}
use Rattle.vx_clock.specs.declared.limits.TheConstants.{DAY_MINUTES, MINUTE_MAX}
use Rattle.vx_clock.specs.declared.terms.Expiry.{Expiry}
use Rattle.vx_feed.specs.Listed.{declared_expiries}
use Rattle.vx_interval.specs.Ends.{Ends, IsInterval, IsScale}
use Rattle.vx_bounds.specs.Cents.{Decides}
use Rattle.vx_bounds.specs.declared.cents.Decision.{Decision}
use Rattle.vx_bounds.specs.declared.cents.Decision.TheVariants as decision
use Rattle.vx_formula.specs.Term.{TermFacts}
use Rattle.vx_interval.proofs.Ranges.{unit_at_most}
use Rattle.vx_strip.specs.Entries.{entry_of, entries_of}
use Rattle.vx_sum.specs.Sums.{row_ends}
use Rattle.vx_cert.specs.declared.limits.TheConstants.{LINE_MAX}
use Rattle.vx_cert.specs.declared.certificate.CertFigure.{CertFigure}
use Rattle.vx_cert.specs.declared.certificate.Certificate.{Certificate}
use Rattle.vx_cert.specs.Ranges.{IsCertificateInRange, IsExpiryInRange}
use Rattle.vx_claims.specs.declared.limits.TheConstants.{SCALE}
use Rattle.vx_claims.specs.Seen.{term_facts}
use Rattle.vx_facts.proofs.ShownProofs.{standing_is_lawful}
use Rattle.vx_term.specs.declared.answer.TermAnswer.{TermAnswer}
use Rattle.vx_term.specs.declared.answer.TermAnswer.TheVariants as term
use Rattle.vx_term.specs.declared.answer.TermRun.{TermRun}
use Rattle.vx_term.specs.Answer.{IsRun, IsTermAnswer}
use Rattle.vx_term.specs.Laws.{AreInOrder}
use Rattle.vx_term.specs.Ranges.{AreFactsLawful, AreDaysInRange, IsSquareInRange, IsVarianceInRange}
use Rattle.vx_term.proofs.Ordered.{square_is_ordered}
use Rattle.vx_term.proofs.Weights.{square_range}
use Rattle.vx_certify.specs.declared.figure.IndexDecision.{IndexDecision}
use Rattle.vx_certify.specs.Certified.{AreIndexEnds, certified_figure}
use Rattle.vx_certify.specs.Laws.{IsDecided}
use Rattle.vx_accepted.specs.Picked.{AreMinutesOfPicked}
use Rattle.vx_accepted.proofs.DeclaredExpiries.{declared_expiries_are_in_range}
use Rattle.vx_accepted.proofs.PickedMinutes.{picked_minutes_are_in_range}
use Rattle.vx_accepted.proofs.Statable.{run_is_statable, figure_is_statable}
use Rattle.vx_replay.specs.declared.answer.TickAnswer.{TickAnswer}
use Rattle.vx_replay.specs.declared.answer.TickAnswer.TheVariants.{Published, UndecidedCents, UndecidedForward, Refused}
use Rattle.vx_replay.specs.Figures.{square_of_runs, certificate_of_runs, index_certificate, IsFigureAnswer}
use Rattle.vx_replay.specs.Joined.{IsJoined, IsJoinedWithRun}
use Rattle.vx_replay.specs.Joinable.{AreRunsJoinable, IsJoinableWithRun, AreJoinable, CanBeWritten}
use Rattle.vx_replay.specs.Laws.{PickedAnswersAreJoinable}
use Rattle.vx_replay.proofs.Accepted.{minutes_of_runs, near_ordered, next_ordered, near_range, next_range}

-- ---- the figure of two runs

-- what is stated of a figure that is decided is published
pub figure_is_published : (P line time days : ℕ) (near next : TermRun P) (square : Ends) (index : IndexDecision) (lo hi : ℤ) (cents : ℕ) (figure : CertFigure)
    (certificate : Certificate) → square ≡ square_of_runs days near next → lo ≡ index.lo → hi ≡ index.hi → IsDecided P square index.lo index.hi index.decision
    → index.decision ≡ decision.Cents cents → figure ≡ certified_figure square lo hi cents
    → certificate ≡ certificate_of_runs line time days near next figure → IsFigureAnswer line time days near next (Published cents lo hi certificate)
figure_is_published P line time days near next square index lo hi cents figure certificate square_is lo_is hi_is decided decision_is figure_is certificate_is =
    let ends : AreIndexEnds P (square_of_runs days near next) index.lo index.hi = subst (λ (x : Ends). AreIndexEnds P x index.lo index.hi) square_is decided.ends in
    let low_ends : AreIndexEnds P (square_of_runs days near next) lo index.hi = subst (λ (z : ℤ). AreIndexEnds P (square_of_runs days near next) z index.hi) (sym lo_is) ends in
    let decides : Decides index.lo index.hi (decision.Cents cents) = subst (λ (d : Decision). Decides index.lo index.hi d) decision_is decided.decides in
    let low_decides : Decides lo index.hi (decision.Cents cents) = subst (λ (z : ℤ). Decides z index.hi (decision.Cents cents)) (sym lo_is) decides in (
      subst (λ (z : ℤ). AreIndexEnds P (square_of_runs days near next) lo z) (sym hi_is) low_ends,
      subst (λ (z : ℤ). Decides lo z (decision.Cents cents)) (sym hi_is) low_decides,
      certificate_is
          ∙ ap (certificate_of_runs line time days near next) (figure_is ∙ ap (λ (x : Ends). certified_figure x lo hi cents) square_is),
    )

-- ---- what is published can be written

module _ (P line time days : ℕ) (at_line : (1 ≤ line) × (line ≤ LINE_MAX)) (at_time : time ≤ MINUTE_MAX) (in_days : AreDaysInRange days) where
  module _ (near next : TermRun P) (h : AreRunsJoinable P days near next) where
    square_is_in_order : AreInOrder (square_of_runs days near next)
    square_is_in_order =
        (square_is_ordered (DAY_MINUTES * days) near.minutes next.minutes near.w next.w ((h.near_is).interval).ordered ((h.next_is).interval).ordered).0

    square_is_in_range : IsSquareInRange P (square_of_runs days near next)
    square_is_in_range =
        let m = h.minutes in
        let few = in_days.0 in
        let most = (m.next).1 in
        square_range P near.w next.w near.minutes next.minutes (DAY_MINUTES * days) m.rising (omega (arith, most)) (omega (arith, few)) m.weights
        (h.near_is).variance (h.next_is).variance ((h.near_is).interval).ordered ((h.next_is).interval).ordered

    certificate_in_range : (lo hi : ℤ) (cents : ℕ) → AreIndexEnds P (square_of_runs days near next) lo hi → Decides lo hi (decision.Cents cents)
        → IsCertificateInRange (index_certificate line time days near next lo hi cents)
    certificate_in_range lo hi cents ends decides =
        let most = in_days.1 in
        record {
          version_first = omega arith;
          version_last = omega arith;
          line_first = at_line.0;
          line_last = at_line.1;
          time = at_time;
          body = (
            omega (arith, most),
            (h.near_is).statable,
            (h.next_is).statable,
            figure_is_statable P (square_of_runs days near next) lo hi cents ((h.near_is).interval).scale square_is_in_order square_is_in_range (record { ends = ends; decides = decides }),
          );
        }

    of_runs : (answer : TickAnswer) → IsFigureAnswer line time days near next answer → CanBeWritten answer
    of_runs (Published cents lo hi certificate) (ends, decides, is) = subst IsCertificateInRange (sym is) (certificate_in_range lo hi cents ends decides)
    of_runs (UndecidedCents lo hi) is = tt
    of_runs (UndecidedForward which strike lo hi) is = tt
    of_runs (Refused reason which) is = tt

  -- a run's with another answer
  pub run_joined_can_be_written : (near : TermRun P) (next : TermAnswer P) → IsJoinableWithRun P days near next
      → (answer : TickAnswer) → IsJoinedWithRun line time days near next answer → CanBeWritten answer
  run_joined_can_be_written near (term.Run next) h answer is = of_runs near next h answer is
  run_joined_can_be_written near (term.Refused refusal) h answer is = subst CanBeWritten (sym is) tt
  run_joined_can_be_written near (term.UndecidedForward strike lo hi) h answer is = subst CanBeWritten (sym is) tt

  -- the certificate of a joined answer is in range
  pub joined_can_be_written : (near next : TermAnswer P) → AreJoinable P days near next → (answer : TickAnswer) → IsJoined line time days near next answer → CanBeWritten answer
  joined_can_be_written (term.Run near) next h answer is = run_joined_can_be_written near next h answer is
  joined_can_be_written (term.Refused refusal) next h answer is = subst CanBeWritten (sym is) tt
  joined_can_be_written (term.UndecidedForward strike lo hi) next h answer is = subst CanBeWritten (sym is) tt

-- ---- the answers for picked terms can be joined

-- a run over lawful facts has a contribution for each row
as_many_contributions : (x : Expiry) (f : TermFacts) (run : TermRun SCALE) → IsRun SCALE x f run → length run.sum.rows ≡ length run.strip.rows
as_many_contributions x f run is =
    ap length ((is.numbers_are).sum_is).rows ∙ length-map (entries_of run.strip) (row_ends SCALE) ∙ length-map run.strip.rows entry_of

-- a variance in range and in order is an interval
interval_of : (w : Ends) → w.lo ≤ℤ w.hi → IsVarianceInRange SCALE w → IsInterval SCALE w
interval_of w ordered range =
    let small = unit_at_most SCALE (omega arith, omega arith) in
    let low = range.low in
    let high = range.high in
    record { scale = (omega arith, omega arith); ordered = ordered; in_range = record { low = omega (arith, ints, small, low); high = omega (arith, ints, small, high) } }

fine : IsScale SCALE
fine = (omega arith, omega arith)

module _ (days : ℕ) (x y : Expiry) (f g : TermFacts) (in_days : AreDaysInRange days) (x_in_range : IsExpiryInRange x) (y_in_range : IsExpiryInRange y)
    (near_lawful : AreFactsLawful f) (next_lawful : AreFactsLawful g) (picked : AreMinutesOfPicked days f.minutes g.minutes) where
  runs_are_joinable : (near next : TermRun SCALE) → IsRun SCALE x f near → IsRun SCALE y g next → AreRunsJoinable SCALE days near next
  runs_are_joinable near next near_run next_run =
      let first = near_range days x y f g near next in_days near_lawful next_lawful near_run next_run picked in
      let second = next_range days x y f g near next in_days near_lawful next_lawful near_run next_run picked in
      record {
        minutes = minutes_of_runs days x y f g near next in_days near_lawful next_lawful near_run next_run picked;
        near_is = record {
          interval = interval_of near.w (near_ordered days x y f g near next in_days near_lawful next_lawful near_run next_run picked) first;
          variance = first;
          contributions = as_many_contributions x f near near_run;
          statable = run_is_statable SCALE x f near fine x_in_range near_lawful near_run;
        };
        next_is = record {
          interval = interval_of next.w (next_ordered days x y f g near next in_days near_lawful next_lawful near_run next_run picked) second;
          variance = second;
          contributions = as_many_contributions y g next next_run;
          statable = run_is_statable SCALE y g next fine y_in_range next_lawful next_run;
        };
      }

  with_run_joinable : (near : TermRun SCALE) (next : TermAnswer SCALE) → IsRun SCALE x f near → IsTermAnswer SCALE y g next → IsJoinableWithRun SCALE days near next
  with_run_joinable near (term.Run next) h k = runs_are_joinable near next h k
  with_run_joinable near (term.Refused refusal) h k = tt
  with_run_joinable near (term.UndecidedForward strike lo hi) h k = tt

  -- the answers for two terms of lawful facts, whose minutes are as picked terms' are
  pub answers_are_joinable : (near next : TermAnswer SCALE) → IsTermAnswer SCALE x f near → IsTermAnswer SCALE y g next → AreJoinable SCALE days near next
  answers_are_joinable (term.Run near) next h k = with_run_joinable near next h k
  answers_are_joinable (term.Refused refusal) next h k = tt
  answers_are_joinable (term.UndecidedForward strike lo hi) next h k = tt

-- the answers for the two terms that are picked of lawful events can be joined
pub picked_answers_are_joinable : PickedAnswersAreJoinable
picked_answers_are_joinable days window events now x y near next in_days in_window lawful is_near is_next h k =
    let picked = picked_minutes_are_in_range days window now (declared_expiries events) x y in_days in_window is_near is_next in
    let at_near = standing_is_lawful x events lawful in
    let at_next = standing_is_lawful y events lawful in
    let near_lawful : AreFactsLawful (term_facts events now x) = record { rows = at_near.rows_are; rate = at_near.rate_is; minutes = picked.near } in
    let next_lawful : AreFactsLawful (term_facts events now y) = record { rows = at_next.rows_are; rate = at_next.rate_is; minutes = picked.next } in
    answers_are_joinable days x y (term_facts events now x) (term_facts events now y) in_days
    (declared_expiries_are_in_range events x lawful is_near.declared) (declared_expiries_are_in_range events y lawful is_next.declared)
    near_lawful next_lawful picked near next h k
