-- A run of `replay` is there.
use Rattle.std.proofs.Common.{◌≡◌, refl, sym, ◌∙◌, subst, inl, inr, ◌+◌, ◌≤◌, List, [], ◌∷◌, ◌++◌, length, Option, Some, None, arith, append_assoc}
use Rattle.std.proofs.lemmas.List.{length-append}
use Rattle.vx_clock.specs.declared.limits.TheConstants.{INDEX_DAYS, INDEX_WINDOW}
use Rattle.vx_feed.specs.declared.events.Event.{Event}
use Rattle.vx_feed.specs.Feed.{reading_of}
use Rattle.vx_feed.specs.Order.{AreLawful}
use Rattle.vx_feed.proofs.LawfulLists.{leading_parts_are_lawful}
use Rattle.vx_claims.specs.Seen.{event_at}
use Rattle.vx_drivers.proofs.TickLawLemmas.{run_is_there as tick_run_is_there}
use Rattle.vx_cli.specs.ReplayRuns.{GivesAnswer}
use Rattle.vx_cli.specs.ReplayText.{Answered}
use Rattle.vx_feed.proofs.ReadingLemmas.{prefix_is_lawful}
use Rattle.vx_existence.proofs.Ticks.{every_tick_has_lawful_answer}
use Rattle.vx_whole.specs.Runs.{ReplayIsThere, answers_alone}
use Rattle.vx_whole.proofs.Places.{some_tick}

-- the last of lawful events, of which there is one, is given something
last_is_given : (events : List Event) → 1 ≤ length events → AreLawful events → (said : Option Answered) × GivesAnswer events said
last_is_given events low lawful =
    elim (some_tick (event_at events (length events))) [
      | inl tick ↦
          let found =
          every_tick_has_lawful_answer INDEX_DAYS INDEX_WINDOW events (length events) tick.0 (omega arith, omega arith) (omega arith) lawful (low, tick.1) in (
            Some (record { tick = record { line = length events; time = tick.0 }; answer = found.0 }),
            record { last = refl; is_answer = found.1; is_lawful = found.2 },
          )
      | inr none ↦ (None, (λ time h. none time h.1))
    ]

-- a run of `replay` is there
pub replay_is_there : ReplayIsThere
replay_is_there feed =
    tick_run_is_there answers_alone (reading_of feed) (λ before event after is.
    let whole : (reading_of feed).events ≡ (before ++ event ∷ []) ++ after = is ∙ sym (append_assoc before (event ∷ []) after) in
    let lawful : AreLawful (before ++ event ∷ []) =
    leading_parts_are_lawful (before ++ event ∷ []) after (subst AreLawful whole (prefix_is_lawful feed)) in
    let many : length (before ++ event ∷ []) ≡ length before + 1 = length-append before (event ∷ []) in
    last_is_given (before ++ event ∷ []) (omega arith) lawful)
