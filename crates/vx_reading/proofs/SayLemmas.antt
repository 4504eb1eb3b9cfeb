-- Which events lines say that are each lawful next.
use Rattle.std.proofs.Common.{◌≡◌, ◌∙◌, sym, ap, refl, ℕ, ◌+◌, Bool, true, false, cond, List, [], ◌∷◌, ◌++◌, length, None, Result, Ok, Err, arith}
use Rattle.std.specs.List.{list_any}
use Rattle.std.proofs.lemmas.List.{length_push}
use Rattle.vx_lines.specs.TextLines.{Ending, at_end}
use Rattle.vx_feed.specs.declared.events.Event.{Event}
use Rattle.vx_feed.specs.Feed.{BadCause, Reading, event_of_line, missing_end, reading_after, reading_at_end, reading_from, stopped_at, with_cause}
use Rattle.vx_feed.specs.Order.{is_end}
use Rattle.vx_reading.specs.WhatWasRead.{SayEvents}

-- whether the end is missed or not, the events are those that came before
end_by : (events : List Event) (b : Bool) → (cond b (record { events = events; bad = None }) (stopped_at events missing_end)).events ≡ events
end_by events true = refl
end_by events false = refl

-- at the end of a text the events are those that came before
end_events : (events : List Event) → (reading_at_end events at_end).events ≡ events
end_events events = end_by events (list_any is_end events)

-- lines behind a first one are read after its event, where those after it are read so after any events
by_first : (line : List ℕ) (lines rest : List (List ℕ)) (ending : Ending) (before : List Event) (said : Result Event BadCause)
    → ((events : List Event) → length (reading_from events lines at_end).events ≡ length events + length lines → reading_from events (lines ++ rest) ending ≡ reading_from (reading_from events lines at_end).events rest ending)
    → length (reading_after (λ events. reading_from events lines at_end) before said).events ≡ length before + length (line ∷ lines)
    → reading_after (λ events. reading_from events (lines ++ rest) ending) before said
    ≡ reading_from (reading_after (λ events. reading_from events lines at_end) before said).events rest ending
by_first line lines rest ending before (Ok e) further size = let pushed = length_push before e in further (before ++ e ∷ []) (omega (arith, size, pushed))
by_first line lines rest ending before (Err why) further size = absurd (omega (arith, size))

-- lines behind lines that each say a lawful next event are read after their events
read_behind : (lines rest : List (List ℕ)) (ending : Ending) (before : List Event) → length (reading_from before lines at_end).events ≡ length before + length lines
    → reading_from before (lines ++ rest) ending ≡ reading_from (reading_from before lines at_end).events rest ending
read_behind [] rest ending before all = ap (λ (es : List Event). reading_from es rest ending) (sym (end_events before))
read_behind (line ∷ lines) rest ending before all =
    by_first line lines rest ending before (with_cause (event_of_line before line)) (λ events size. read_behind lines rest ending events size) all

-- no line says no event
pub say_none : SayEvents [] []
say_none = record { events_are = end_events []; none_bad = refl }

-- one more line says one more event
pub say_more : (lines : List (List ℕ)) (line : List ℕ) (events : List Event) (e : Event) → event_of_line events line ≡ Ok e → SayEvents lines events → SayEvents (lines ++ line ∷ []) (events ++ e ∷ [])
say_more lines line events e says say =
    let count : length lines ≡ length events = say.none_bad in
    let size : length (reading_from [] lines at_end).events ≡ length lines = ap (λ (es : List Event). length es) say.events_are ∙ sym count in
    let all : length (reading_from [] lines at_end).events ≡ 0 + length lines = omega (arith, size) in
    let few = length_push lines line in
    let many = length_push events e in
    record {
      events_are =
          ap (λ (r : Reading). r.events) (
          read_behind lines (line ∷ []) at_end [] all
          ∙ ap (λ (es : List Event). reading_from es (line ∷ []) at_end) say.events_are
          ∙ ap (λ said. reading_after (λ es. reading_at_end es at_end) events (with_cause said)) says
          )
          ∙ end_events (events ++ e ∷ []);
      none_bad = omega (arith, count, few, many);
    }
