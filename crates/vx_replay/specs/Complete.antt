-- What a tick is sure to be answered: a figure, or the first refusal, where all that comes before is far from every boundary.
use Rattle.std.specs.Prelude.{◌≡◌, ℕ, ◌<◌, List, Some}
use Rattle.vx_feed.specs.declared.events.Event.{Event}
use Rattle.vx_feed.specs.Order.{AreLawful}
use Rattle.vx_formula.specs.Refusal.{TickFacts, TickReason, negative_variance, TickRefuses, tick_place, FirstRefusal, near_undecided_place, next_undecided_place}
use Rattle.vx_claims.specs.declared.limits.TheConstants.{SCALE}
use Rattle.vx_claims.specs.Seen.{AreTickFacts}
use Rattle.vx_term.specs.Ranges.{AreDaysInRange}
use Rattle.vx_accepted.specs.Clear.{HasClearForward, HasClearIndex}
use Rattle.vx_accepted.specs.Picked.{IsWindowInRange}
use Rattle.vx_replay.specs.declared.answer.TickAnswer.{TickAnswer}
use Rattle.vx_replay.specs.declared.answer.TickAnswer.TheVariants.{Published, Refused}
use Rattle.vx_replay.specs.Ticks.{IsTickAnswer}
use Rattle.vx_replay.specs.Lawful.{tick_reason}

-- the answer is a figure
abbrev pub IsPublished : TickAnswer → Type 0
IsPublished (Published cents lo hi certificate) = Unit {0}
IsPublished _ = ⊥

-- the answer is this refusal
abbrev pub IsRefusedFor : TickReason → TickAnswer → Type 0
IsRefusedFor refusal (Refused reason which) = tick_reason reason which ≡ Some refusal
IsRefusedFor refusal _ = ⊥

-- what is known of a tick of a lawful feed, for 7 to 120 days within a window of at most 35, and its answer
pub record IsTickAnswered (days window : ℕ) (events : List Event) (line time : ℕ) (facts : TickFacts) (answer : TickAnswer) : Type 0 where
  pub in_days : AreDaysInRange days
  pub in_window : IsWindowInRange window
  pub lawful : AreLawful events
  pub are_facts : AreTickFacts events line time days window facts
  pub is_answer : IsTickAnswer days window events line time answer

-- where no refusal holds, and both forwards and the index are clear, a figure is published
abbrev pub ClearTickIsPublished : Type 0
ClearTickIsPublished = (days window : ℕ) (events : List Event) (line time : ℕ) (facts : TickFacts) (answer : TickAnswer) →
    IsTickAnswered days window events line time facts answer → ((reason : TickReason) → ¬ TickRefuses SCALE facts reason) →
    HasClearForward facts.near → HasClearForward facts.next → HasClearIndex facts → IsPublished answer

-- where a refusal is the first that holds, and the forwards are clear whose undecided answers come before it, it is answered; for a
-- negative variance the index is to be clear too
abbrev pub FirstRefusalIsAnswered : Type 0
FirstRefusalIsAnswered = (days window : ℕ) (events : List Event) (line time : ℕ) (facts : TickFacts) (answer : TickAnswer) (reason : TickReason) →
    IsTickAnswered days window events line time facts answer → FirstRefusal SCALE facts reason →
    (near_undecided_place < tick_place reason → HasClearForward facts.near) → (next_undecided_place < tick_place reason → HasClearForward facts.next) →
    (reason ≡ negative_variance → HasClearIndex facts) → IsRefusedFor reason answer
