-- Which answers to a tick are lawful, by the words of the formula.
use Rattle.std.specs.Prelude.{◌≡◌, ℕ, List, Option, Some, None}
use Rattle.vx_feed.specs.declared.events.Event.{Event}
use Rattle.vx_feed.specs.Order.{AreLawful}
use Rattle.vx_formula.specs.Refusal.{TickReason, no_near_term, no_next_term, of_near, of_next, negative_variance}
use Rattle.vx_claims.specs.Answers.{PublishesTick, RefusesTick, LeavesNearForward, LeavesNextForward, LeavesCents}
use Rattle.vx_term.specs.Meaning.{reason_of}
use Rattle.vx_term.specs.Ranges.{AreDaysInRange}
use Rattle.vx_accepted.specs.Picked.{IsWindowInRange}
use Rattle.vx_replay.specs.declared.answer.TickAnswer.{TickAnswer}
use Rattle.vx_replay.specs.declared.answer.TickAnswer.TheVariants.{Published, UndecidedCents, UndecidedForward, Refused}
use Rattle.vx_replay.specs.declared.answer.Reason.{Reason}
use Rattle.vx_replay.specs.declared.answer.Reason.TheVariants.{NoTerm, Term, NegativeVariance}
use Rattle.vx_replay.specs.declared.answer.Which.{Which}
use Rattle.vx_replay.specs.declared.answer.Which.TheVariants.{Near, Next, Both}
use Rattle.vx_replay.specs.Ticks.{IsTickAnswer}

-- the refusal of the formula that a reason and its term name, where they go together
abbrev pub tick_reason : Reason → Which → Option TickReason
tick_reason NoTerm Near = Some no_near_term
tick_reason NoTerm Next = Some no_next_term
tick_reason (Term refusal) Near = Some (of_near (reason_of refusal))
tick_reason (Term refusal) Next = Some (of_next (reason_of refusal))
tick_reason NegativeVariance Both = Some negative_variance
tick_reason _ _ = None

-- the answer is lawful, for so many days within a window: a figure that is the exact value rounded, with an accepted certificate;
-- the first refusal that holds; or an undecided forward or figure whose near ends lie around the exact value
abbrev pub IsLawfulAnswer : ℕ → ℕ → List Event → ℕ → ℕ → TickAnswer → Type 0
IsLawfulAnswer days window events line time (Published cents lo hi certificate) = PublishesTick events line time days window cents lo hi certificate
IsLawfulAnswer days window events line time (UndecidedCents lo hi) = LeavesCents events line time days window lo hi
IsLawfulAnswer days window events line time (UndecidedForward Near strike lo hi) = LeavesNearForward events line time days window strike lo hi
IsLawfulAnswer days window events line time (UndecidedForward Next strike lo hi) = LeavesNextForward events line time days window strike lo hi
IsLawfulAnswer days window events line time (UndecidedForward Both strike lo hi) = ⊥
IsLawfulAnswer days window events line time (Refused reason which) =
    (refusal : TickReason) × (tick_reason reason which ≡ Some refusal) × RefusesTick events line time days window refusal

-- the tick function's answer is lawful, for 7 to 120 days within a window of at most 35
abbrev pub TickAnswerIsLawful : Type 0
TickAnswerIsLawful = (days window : ℕ) (events : List Event) (line time : ℕ) (answer : TickAnswer) → AreDaysInRange days → IsWindowInRange window →
    AreLawful events → IsTickAnswer days window events line time answer → IsLawfulAnswer days window events line time answer
