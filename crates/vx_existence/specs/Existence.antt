-- That there is an answer: for a term, for a figure, to every tick of a lawful feed and to the opening. That there is at most one is
-- said where answers are defined.
use Rattle.std.specs.Prelude.{ℕ, ℤ, List}
use Rattle.vx_clock.specs.declared.terms.Expiry.{Expiry}
use Rattle.vx_interval.specs.Ends.{Ends}
use Rattle.vx_bounds.specs.Cents.{Decides}
use Rattle.vx_bounds.specs.declared.cents.Decision.{Decision}
use Rattle.vx_feed.specs.declared.events.Event.{Event}
use Rattle.vx_feed.specs.Order.{AreLawful}
use Rattle.vx_formula.specs.Term.{TermFacts}
use Rattle.vx_claims.specs.Seen.{IsTickAt}
use Rattle.vx_term.specs.declared.answer.TermAnswer.{TermAnswer}
use Rattle.vx_term.specs.declared.answer.TermRun.{TermRun}
use Rattle.vx_term.specs.Answer.{IsTermAnswer}
use Rattle.vx_term.specs.Ranges.{AreDaysInRange}
use Rattle.vx_certify.specs.Certified.{AreIndexEnds}
use Rattle.vx_accepted.specs.Picked.{IsWindowInRange}
use Rattle.vx_replay.specs.declared.answer.TickAnswer.{TickAnswer}
use Rattle.vx_replay.specs.Figures.{IsFigureAnswer}
use Rattle.vx_replay.specs.Lawful.{IsLawfulAnswer}
use Rattle.vx_replay.specs.Ticks.{IsTickAnswer}
use Rattle.vx_soq.specs.declared.answer.OpeningAnswer.{OpeningAnswer}
use Rattle.vx_soq.specs.Openings.{IsOpeningAnswer}

-- whatever is known of a term, there is an answer for it, at every scale
abbrev pub EveryTermHasAnswer : Type 0
EveryTermHasAnswer = (P : ℕ) (x : Expiry) (facts : TermFacts) → (answer : TermAnswer P) × IsTermAnswer P x facts answer

-- the index has ends, whatever the ends of its square
abbrev pub SquareHasIndexEnds : Type 0
SquareHasIndexEnds = (P : ℕ) (square : Ends) → (lo hi : ℤ) × AreIndexEnds P square lo hi

-- of any two ends there is a decision
abbrev pub EndsAreDecided : Type 0
EndsAreDecided = (lo hi : ℤ) → (decision : Decision) × Decides lo hi decision

-- any two runs have an answer, at every scale, for the tick of any line at any minute and for any days
abbrev pub EveryFigureHasAnswer : Type 0
EveryFigureHasAnswer = (P line time days : ℕ) (near next : TermRun P) →
    (answer : TickAnswer) × IsFigureAnswer line time days near next answer

-- every tick of lawful events has an answer, for any days and any window, so for those of every figure
abbrev pub EveryTickHasAnswer : Type 0
EveryTickHasAnswer = (days window : ℕ) (events : List Event) (line time : ℕ) → AreLawful events → IsTickAt events line time →
    (answer : TickAnswer) × IsTickAnswer days window events line time answer

-- for 7 to 120 days within a window of at most 35 it is lawful
abbrev pub EveryTickHasLawfulAnswer : Type 0
EveryTickHasLawfulAnswer = (days window : ℕ) (events : List Event) (line time : ℕ) → AreDaysInRange days → IsWindowInRange window →
    AreLawful events → IsTickAt events line time →
    (answer : TickAnswer) × IsTickAnswer days window events line time answer × IsLawfulAnswer days window events line time answer

-- the opening has an answer, whatever the events
abbrev pub OpeningHasAnswer : Type 0
OpeningHasAnswer = (events : List Event) → (answer : OpeningAnswer) × IsOpeningAnswer events answer
