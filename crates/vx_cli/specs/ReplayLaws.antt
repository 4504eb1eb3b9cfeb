-- The last of some events is given one answer at most.
use Rattle.std.proofs.Common.{◌≡◌, ◌∙◌, ℕ, List, length, Option, Some, None, refl, sym, ap, subst}
use Rattle.vx_clock.specs.declared.limits.TheConstants.{INDEX_DAYS, INDEX_WINDOW}
use Rattle.vx_feed.specs.declared.events.Event.{Event}
use Rattle.vx_feed.specs.declared.events.Event.TheVariants as event
use Rattle.vx_claims.specs.Seen.{IsTickAt}
use Rattle.vx_replay.specs.Ticks.{IsIndexAnswer}
use Rattle.vx_replay.proofs.TickAnswerIsOne.{tick_answer_is_one}
use Rattle.vx_cli.specs.ReplayRuns.{GivesAnswer, GivesWritten, IsAnsweredLast}
use Rattle.vx_cli.specs.ReplayText.{Answered}

-- the minute of an event that is a tick
abbrev tick_time : Option Event → ℕ
tick_time (Some (event.Tick time)) = time
tick_time _ = 0

times_one : (events : List Event) (line time other : ℕ) → IsTickAt events line time → IsTickAt events line other → time ≡ other
times_one events line time other h k = ap tick_time (sym h.1 ∙ k.1)

last_is_one : (events : List Event) (a b : Answered) → IsAnsweredLast events a → IsAnsweredLast events b → a ≡ b
last_is_one events a b h k =
    let lines : a.tick.line ≡ b.tick.line = h.last ∙ sym k.last in
    let moved : IsIndexAnswer events b.tick.line a.tick.time a.answer =
    subst (λ (l : ℕ). IsIndexAnswer events l a.tick.time a.answer) lines h.is_answer in
    let times : a.tick.time ≡ b.tick.time = times_one events b.tick.line a.tick.time b.tick.time moved.is_tick k.is_answer.is_tick in
    let at_b : IsIndexAnswer events b.tick.line b.tick.time a.answer =
    subst (λ (t : ℕ). IsIndexAnswer events b.tick.line t a.answer) times moved in
    let answers : a.answer ≡ b.answer =
    tick_answer_is_one INDEX_DAYS INDEX_WINDOW events b.tick.line b.tick.time a.answer b.answer at_b k.is_answer in
    λ i. record { tick = record { line = lines i; time = times i }; answer = answers i }

-- where there is an answer, the last event is a tick
last_is_tick : (events : List Event) (a : Answered) → IsAnsweredLast events a → IsTickAt events (length events) a.tick.time
last_is_tick events a h = subst (λ (l : ℕ). IsTickAt events l a.tick.time) h.last h.is_answer.is_tick

answers_one : (events : List Event) (a b : Option Answered) → GivesAnswer events a → GivesAnswer events b → a ≡ b
answers_one events (Some a) (Some b) h k = ap (λ (x : Answered). Some x) (last_is_one events a b h k)
answers_one events (Some a) None h none = absurd (none a.tick.time (last_is_tick events a h))
answers_one events None (Some b) none k = absurd (none b.tick.time (last_is_tick events b k))
answers_one events None None h k = refl

pub gives_one : (events : List Event) (a b : Option Answered) → GivesWritten events a → GivesWritten events b → a ≡ b
gives_one events a b h k = answers_one events a b h.0 k.0
