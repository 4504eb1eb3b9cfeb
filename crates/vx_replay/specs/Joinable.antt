-- Which answers for two terms can be joined to the answer to a tick: those of a refusal or an undecided forward always, two runs where
-- their figure can be computed and stated. This project's own.
use Rattle.std.specs.Prelude.{◌≡◌, ℕ, length}
use Rattle.vx_interval.specs.Ends.{IsInterval}
use Rattle.vx_cert.specs.Ranges.{IsCertificateInRange, IsTermInRange}
use Rattle.vx_term.specs.declared.answer.TermAnswer.{TermAnswer}
use Rattle.vx_term.specs.declared.answer.TermAnswer.TheVariants as term
use Rattle.vx_term.specs.declared.answer.TermRun.{TermRun}
use Rattle.vx_term.specs.Ranges.{IsVarianceInRange}
use Rattle.vx_certify.specs.Certified.{certified_term}
use Rattle.vx_accepted.specs.Picked.{AreMinutesOfPicked}
use Rattle.vx_replay.specs.declared.answer.TickAnswer.{TickAnswer}
use Rattle.vx_replay.specs.declared.answer.TickAnswer.TheVariants.{Published}

-- the variance is an interval within 6, there is a contribution for each row of the strip, and what is stated of the run is in the
-- ranges that a certificate has
pub record IsRunJoinable (P : ℕ) (run : TermRun P) : Type 0 where
  pub interval : IsInterval P run.w
  pub variance : IsVarianceInRange P run.w
  pub contributions : length run.sum.rows ≡ length run.strip.rows
  pub statable : IsTermInRange (certified_term run)

-- two runs, whose minutes are as the interpolation to so many days asks
pub record AreRunsJoinable (P days : ℕ) (near next : TermRun P) : Type 0 where
  pub minutes : AreMinutesOfPicked days near.minutes next.minutes
  pub near_is : IsRunJoinable P near
  pub next_is : IsRunJoinable P next

-- a near term's run with an answer for the next term
abbrev pub IsJoinableWithRun : (P : ℕ) → ℕ → TermRun P → TermAnswer P → Type 0
IsJoinableWithRun P days near (term.Run next) = AreRunsJoinable P days near next
IsJoinableWithRun P days near (term.Refused refusal) = Unit {0}
IsJoinableWithRun P days near (term.UndecidedForward strike lo hi) = Unit {0}

-- the answers for both terms
abbrev pub AreJoinable : (P : ℕ) → ℕ → TermAnswer P → TermAnswer P → Type 0
AreJoinable P days (term.Run near) next = IsJoinableWithRun P days near next
AreJoinable P days (term.Refused refusal) next = Unit {0}
AreJoinable P days (term.UndecidedForward strike lo hi) next = Unit {0}

-- the certificate of a figure that is published is in range, so that it can be written
abbrev pub CanBeWritten : TickAnswer → Type 0
CanBeWritten (Published cents lo hi certificate) = IsCertificateInRange certificate
CanBeWritten _ = Unit {0}
