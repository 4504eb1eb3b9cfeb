-- What the last of some events is answered, from what the replay says of it.
use Rattle.std.proofs.Common.{◌≡◌, ◌≢◌, ◌∙◌, ◌⊎◌, inl, inr, ℕ, ◌-◌, ◌+◌, List, [], ◌∷◌, ◌++◌, length, Option, Some, None, refl, sym, ap, subst, arith}
use Rattle.std.specs.List.{slice_get}
use Rattle.std.proofs.lemmas.List.{length-append}
use Rattle.vx_clock.specs.declared.limits.TheConstants.{INDEX_DAYS, INDEX_WINDOW}
use Rattle.vx_feed.specs.declared.events.Event.{Event}
use Rattle.vx_feed.specs.declared.events.Event.TheVariants as event
use Rattle.vx_claims.specs.Seen.{event_at}
use Rattle.vx_replay.specs.declared.answer.TickAnswer.{TickAnswer}
use Rattle.vx_replay.specs.Joinable.{CanBeWritten}
use Rattle.vx_replay.specs.Lawful.{IsLawfulAnswer}
use Rattle.vx_replay.specs.Stepped.{IsAnswerNext, IsStepAnswer}
use Rattle.vx_replay.specs.Ticks.{IsIndexAnswer}
use Rattle.vx_cli.specs.ReplayRuns.{GivesAnswer, IsAnsweredLast}
use Rattle.vx_feed.specs.Order.{tick_minute}

-- ---- the last event

after_all : (events : List Event) (e : Event) → slice_get (events ++ e ∷ []) (length events) ≡ Some e
after_all [] e = refl
after_all (x ∷ xs) e = after_all xs e

pub at_last : (events : List Event) (e : Event) → event_at (events ++ e ∷ []) (length (events ++ e ∷ [])) ≡ Some e
at_last events e =
    let more : length (events ++ e ∷ []) ≡ length events + 1 = length-append events (e ∷ []) in
    let one_less : length (events ++ e ∷ []) - 1 ≡ length events = omega (arith, more) in
    ap (λ (n : ℕ). slice_get (events ++ e ∷ []) n) one_less ∙ after_all events e

abbrev pub minute_at : Option Event → Option ℕ
minute_at (Some e) = tick_minute e
minute_at None = None

-- an event without a tick's minute is no tick
pub is_no_tick : (e : Event) → tick_minute e ≡ None → (time : ℕ) → e ≢ event.Tick time
is_no_tick e none time is = let neither : None ≡ Some time = sym none ∙ ap tick_minute is in (let no : ⊥ = cc in no)

-- an event that is no tick is given nothing
pub no_tick : (events : List Event) (e : Event) → tick_minute e ≡ None → GivesAnswer (events ++ e ∷ []) None
no_tick events e none time (first, at) =
    let same : Some e ≡ Some (event.Tick time) = sym (at_last events e) ∙ at in
    let minute : tick_minute e ≡ Some time = ap minute_at same in
    let neither : None ≡ Some time = sym none ∙ minute in
    absurd (let no : ⊥ = cc in no)

-- before the first event there is no tick
pub no_event : GivesAnswer [] None
no_event time (first, at) = omega (arith, first)

-- ---- what the replay says

-- a tick with its answer, or another event with none
abbrev pub IsEither : List Event → Event → Option TickAnswer → Type 0
IsEither events e answer =
    ((time : ℕ) × (a : TickAnswer) × (e ≡ event.Tick time) × (answer ≡ Some a) × IsAnswerNext events time a)
    ⊎ ((tick_minute e ≡ None) × (answer ≡ None))

-- which of the two it is
pub either : (events : List Event) (e : Event) (answer : Option TickAnswer) → IsStepAnswer events e answer → IsEither events e answer
either events (event.Tick time) (Some a) h = inl (time, a, refl, refl, h)
either events (event.Tick time) None h = absurd h
either events (event.Header day) answer h = inr (refl, h)
either events (event.Expiry x) answer h = inr (refl, h)
either events (event.Rate x rate) answer h = inr (refl, h)
either events (event.Series s) answer h = inr (refl, h)
either events (event.Quote time s bid ask) answer h = inr (refl, h)
either events (event.Trade time s price) answer h = inr (refl, h)
either events (event.Opening time) answer h = inr (refl, h)
either events (event.End count) answer h = inr (refl, h)

-- the tick's answer, which its line and its minute name
answered_next : (events : List Event) (time : ℕ) (a : TickAnswer) → IsAnswerNext events time a
    → IsAnsweredLast (events ++ event.Tick time ∷ []) (record {
      tick = record { line = length (events ++ event.Tick time ∷ []); time = time };
      answer = a;
    })
answered_next events time a h =
    let line : length events + 1 ≡ length (events ++ event.Tick time ∷ []) = sym (length-append events (event.Tick time ∷ [])) in
    record {
      last = refl;
      is_answer = subst (λ (l : ℕ). IsIndexAnswer (events ++ event.Tick time ∷ []) l time a) line h.is_index;
      is_lawful = subst (λ (l : ℕ). IsLawfulAnswer INDEX_DAYS INDEX_WINDOW (events ++ event.Tick time ∷ []) l time a) line h.is_lawful;
    }

abbrev Gives : List Event → Event → ℕ → TickAnswer → Type 0
Gives events e time a = IsAnsweredLast (events ++ e ∷ []) (record {
  tick = record { line = length (events ++ e ∷ []); time = time };
  answer = a;
})

tick_answered : (events : List Event) (e : Event) (time : ℕ) (a : TickAnswer) (answer : Option TickAnswer) → tick_minute e ≡ Some time
    → answer ≡ Some a → IsEither events e answer → Gives events e time a
tick_answered events e time a answer minute is (inl (t, b, tick, same, h)) =
    let times : Some t ≡ Some time = sym (ap tick_minute tick) ∙ minute in
    let times_one : t ≡ time = cc in
    let answers : Some b ≡ Some a = sym same ∙ is in
    let answers_one : b ≡ a = cc in
    subst (λ (x : Event). Gives events x time a) (sym tick)
    (subst (λ (m : ℕ). Gives events (event.Tick t) m a) times_one
    (subst (λ (x : TickAnswer). Gives events (event.Tick t) t x) answers_one (answered_next events t b h)))
tick_answered events e time a answer minute is (inr (none, same)) =
    let neither : None ≡ Some time = sym none ∙ minute in absurd (let no : ⊥ = cc in no)

-- a tick is given its answer
pub is_answered : (events : List Event) (e : Event) (time : ℕ) (a : TickAnswer) (answer : Option TickAnswer) → tick_minute e ≡ Some time
    → answer ≡ Some a → IsStepAnswer events e answer → Gives events e time a
is_answered events e time a answer minute is h = tick_answered events e time a answer minute is (either events e answer h)

-- and never none
unanswered : (events : List Event) (e : Event) (time : ℕ) (answer : Option TickAnswer) → tick_minute e ≡ Some time → answer ≡ None
    → IsEither events e answer → ⊥
unanswered events e time answer minute is (inl (t, b, tick, same, h)) =
    let neither : None ≡ Some b = sym is ∙ same in (let no : ⊥ = cc in no)
unanswered events e time answer minute is (inr (none, same)) =
    let neither : None ≡ Some time = sym none ∙ minute in (let no : ⊥ = cc in no)

pub never_unanswered : (events : List Event) (e : Event) (time : ℕ) (answer : Option TickAnswer) → tick_minute e ≡ Some time → answer ≡ None
    → IsStepAnswer events e answer → ⊥
never_unanswered events e time answer minute is h = unanswered events e time answer minute is (either events e answer h)

-- an answer's certificate can be written
either_written : (events : List Event) (e : Event) (a : TickAnswer) (answer : Option TickAnswer) → answer ≡ Some a → IsEither events e answer
    → CanBeWritten a
either_written events e a answer is (inl (t, b, tick, same, h)) =
    let answers : Some b ≡ Some a = sym same ∙ is in
    let answers_one : b ≡ a = cc in
    subst CanBeWritten answers_one h.in_range
either_written events e a answer is (inr (none, same)) =
    let neither : None ≡ Some a = sym same ∙ is in absurd (let no : ⊥ = cc in no)

pub is_written : (events : List Event) (e : Event) (a : TickAnswer) (answer : Option TickAnswer) → answer ≡ Some a → IsStepAnswer events e answer
    → CanBeWritten a
is_written events e a answer is h = either_written events e a answer is (either events e answer h)
