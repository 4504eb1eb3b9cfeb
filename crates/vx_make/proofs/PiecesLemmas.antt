-- The pieces of a sample feed, one after another, are its text.
use Rattle.std.proofs.Common.{◌≡◌, refl, sym, ap, ◌∙◌, ℕ, zero, suc, ◌+◌, ◌-◌, ◌≤◌, List, [], ◌∷◌, ◌++◌, append_assoc, arith}
use Rattle.std.proofs.lemmas.List.{append-nil}
use Rattle.vx_feed.specs.Written.{event_text, text_of_events}
use Rattle.vx_make.specs.Feed.{closing_event, head_events, make_text, tick_events_at, ticks_events}
use Rattle.vx_make.specs.Pieces.{made_text}
use Rattle.vx_make.proofs.FeedLemmas.{text_none, text_one, text_one_part_more, text_three}

-- before the first tick it is the head
pub made_none : (number : ℕ) → text_of_events head_events ≡ made_text number 0
made_none number = text_none (text_of_events head_events) (λ t. tick_events_at number t)

-- a tick more
pub made_more : (number made : ℕ) → made_text number made ++ text_of_events (tick_events_at number made) ≡ made_text number (made + 1)
made_more number made = text_one_part_more (text_of_events head_events) (made_text number made) _ (λ t. tick_events_at number t) made refl refl

-- and the last line
pub made_whole : (number ticks : ℕ) → made_text number ticks ++ event_text (closing_event number ticks) ≡ make_text number ticks
made_whole number ticks =
    text_three [] (text_of_events head_events) (made_text number ticks) _ head_events (ticks_events number ticks) (closing_event number ticks ∷ []) refl refl
    (ap (λ t. made_text number ticks ++ t) (text_one (closing_event number ticks)))

-- what is made after the first ticks
later : (number made more : ℕ) → (rest : List ℕ) × (made_text number (made + more) ≡ made_text number made ++ rest)
later number made zero = ([], (let same : made + 0 ≡ made = omega arith in ap (made_text number) same) ∙ sym (append-nil (made_text number made)))
later number made (suc more) =
    let before = later number made more in
    let tick = text_of_events (tick_events_at number (made + more)) in
    let next : made + suc more ≡ made + more + 1 = omega arith in
    (before.0 ++ tick, ap (made_text number) next ∙ sym (made_more number (made + more)) ∙ ap (λ t. t ++ tick) before.1 ∙ append_assoc (made_text number made) before.0 tick)

-- the feed begins with what was made of it
pub made_begins : (number made ticks : ℕ) → made ≤ ticks → (rest : List ℕ) × (make_text number ticks ≡ made_text number made ++ rest)
made_begins number made ticks within =
    let others = later number made (ticks - made) in
    let all : made + (ticks - made) ≡ ticks = omega arith in
    let last = event_text (closing_event number ticks) in
    (others.0 ++ last, sym (made_whole number ticks) ∙ ap (λ t. t ++ last) (ap (made_text number) (sym all) ∙ others.1) ∙ append_assoc (made_text number made) others.0 last)
