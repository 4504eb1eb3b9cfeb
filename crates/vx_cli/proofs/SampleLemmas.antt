-- The counts of a sample feed: its text is read as the events that it is made of.
use Rattle.std.proofs.Common.{◌≡◌, ◌∙◌, ℕ, suc, ◌+◌, ◌≤◌, List, [], ◌∷◌, ◌++◌, length, None, Ok, Err, refl, sym, ap, subst}
use Rattle.std.proofs.lemmas.List.{length-map}
use Rattle.vx_feed.specs.declared.events.Event.{Event}
use Rattle.vx_feed.specs.declared.events.Event.TheVariants as event
use Rattle.vx_feed.specs.Feed.{Reading, bad_line}
use Rattle.vx_make.specs.declared.limits.TheConstants.{TICKS_MAX}
use Rattle.vx_make.specs.Feed.{make_events, make_text}
use Rattle.vx_make.specs.Lawful.{tick_minutes}
use Rattle.vx_make.proofs.SampleFeeds.{samples_are_read_back, samples_have_their_ticks}
use Rattle.vx_reading.specs.declared.stop.FeedStop.{FeedStop}
use Rattle.vx_reading.specs.declared.stop.FeedStop.TheVariants.{BadLine, Device, NoMemory}
use Rattle.vx_cli.specs.declared.drill.AnswerCounts.{AnswerCounts}
use Rattle.vx_cli.specs.DrillRuns.{CountsText, HasCounted, drill_line}
use Rattle.vx_cli.specs.DrillText.{Drills}
use Rattle.vx_drivers.specs.Sending.{Text}
use Rattle.vx_cli.specs.Laws.{DrillAnswersEveryTick}
use Rattle.vx_cli.specs.ReplayText.{Answered, Tick, ticks_from}
use Rattle.vx_cli.proofs.DrillLemmas.{line_is}

-- what was counted are its events
pub sample_counted : (number ticks : ℕ) (counts : AnswerCounts) → ticks ≤ TICKS_MAX → CountsText (make_text number ticks) (Ok counts)
    → HasCounted (make_events number ticks) counts
sample_counted number ticks counts most h =
    subst (λ (events : List Event). HasCounted events counts) (ap (λ (said : Reading). said.events) (samples_are_read_back number ticks most)) h.1

-- it is read on but for want of memory: no line of it is bad
pub sample_stops : (number ticks : ℕ) (stop : FeedStop) → ticks ≤ TICKS_MAX → CountsText (make_text number ticks) (Err stop) → stop ≡ NoMemory
sample_stops number ticks (BadLine line why) most h =
    let good : bad_line (make_text number ticks) ≡ None = ap (λ (said : Reading). said.bad) (samples_are_read_back number ticks most) in
    absurd (let no : ⊥ = cc in no)
sample_stops number ticks Device most h = absurd h
sample_stops number ticks NoMemory most h = refl

-- the line of its counts is that of `drill`
pub line_drills : (number ticks : ℕ) (counts : AnswerCounts) (before out : Text) → HasCounted (make_events number ticks) counts → before ≡ []
    → out ≡ before ++ drill_line counts → Drills number ticks out
line_drills number ticks counts before out h none is = record {
  answers = h.answers;
  are_answers = h.are_answers;
  out_is = is ∙ ap (λ (text : Text). text ++ drill_line counts) none ∙ line_is (make_events number ticks) counts h;
}

-- ticks are as many as their minutes
as_many : (line : ℕ) (events : List Event) → length (ticks_from line events) ≡ length (tick_minutes events)
as_many line [] = refl
as_many line (event.Tick time ∷ events) = ap (λ (n : ℕ). suc n) (as_many (line + 1) events)
as_many line (event.Header day ∷ events) = as_many (line + 1) events
as_many line (event.Expiry x ∷ events) = as_many (line + 1) events
as_many line (event.Rate x rate ∷ events) = as_many (line + 1) events
as_many line (event.Series s ∷ events) = as_many (line + 1) events
as_many line (event.Quote time s bid ask ∷ events) = as_many (line + 1) events
as_many line (event.Trade time s price ∷ events) = as_many (line + 1) events
as_many line (event.Opening time ∷ events) = as_many (line + 1) events
as_many line (event.End count ∷ events) = as_many (line + 1) events

-- `drill` counts as many answers as ticks were asked for
pub drill_answers_every_tick : DrillAnswersEveryTick
drill_answers_every_tick number ticks out h =
    sym (length-map h.answers (λ (a : Answered). a.tick)) ∙ ap (λ (found : List Tick). length found) h.are_answers.ticks_are
    ∙ as_many 1 (make_events number ticks) ∙ samples_have_their_ticks number ticks
