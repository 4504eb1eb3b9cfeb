-- The counts of a text in memory that is read as a feed.
use Rattle.std.proofs.Common.{◌∙◌, ℕ, List, Option, Some, Ok, Err, sym, ap, subst}
use Rattle.vx_desk.specs.declared.device.Slot.{Slot}
use Rattle.vx_desk.specs.Told.{Told}
use Rattle.vx_feed.specs.declared.events.Event.{Event}
use Rattle.vx_feed.specs.Feed.{Reading}
use Rattle.vx_reading.specs.declared.feed.FeedReader.{FeedReader}
use Rattle.vx_reading.specs.declared.stop.FeedStop.{FeedStop}
use Rattle.vx_reading.specs.declared.stop.FeedStop.TheVariants.{BadLine, Device, NoMemory}
use Rattle.vx_desk.specs.Calls.{IsStep}
use Rattle.vx_reading.specs.FeedReading.{IsAt, ReadsAll, Says, all_good, feed_told}
use Rattle.vx_reading.specs.Stops.{bad_cause, feed_stop_calls}
use Rattle.vx_cli.specs.declared.drill.AnswerCounts.{AnswerCounts}
use Rattle.vx_cli.specs.declared.drill.CountedReplay.{CountedReplay}
use Rattle.vx_cli.specs.DrillRuns.{CountsText, HasCounted, HasCountedAlong}
use Rattle.vx_cli.specs.TextDesk.{told_text}
use Rattle.vx_cli.proofs.TextDeskLemmas.{never_fails}

-- what has taken up a feed's events has their counts
abbrev pub Stands : CountedReplay → List Event → Type 0
Stands taker events = HasCountedAlong taker.replay taker.counts events

-- where it is not read on, a line of it is bad or memory is wanting
pub text_stopped : (held : Option (List ℕ)) (feed : FeedReader CountedReplay) (text left : List ℕ) (stop : FeedStop)
    → ReadsAll Stands held (feed_told (told_text text)) feed (told_text left) (Err stop)
    → IsStep (feed_stop_calls stop) (told_text text) (told_text left) → CountsText text (Err stop)
text_stopped held feed text left (BadLine line why) (cause, events, at, says) step =
    ap (λ (said : Reading). said.bad) says ∙ ap (λ (n : ℕ). Some (record { line = n; cause = bad_cause why })) (sym at)
text_stopped held feed text left Device reads step = never_fails text left step
text_stopped held feed text left NoMemory reads step = tt

-- no line is left, and none was bad
abbrev IsReadWhole : Option (List ℕ) → FeedReader CountedReplay → List ℕ → List ℕ → Type 0
IsReadWhole held feed text left =
    (events : List Event) × IsAt Stands held (feed_told (told_text text)) events feed (told_text left) × Says (feed_told (told_text text)) (all_good events)

-- where it is read to its end, its events are counted
pub text_counted : (held : Option (List ℕ)) (feed : FeedReader CountedReplay) (text left : List ℕ) (counts : AnswerCounts)
    → ((whole : Option Reading) (events : List Event) (told : Slot → Told) → IsAt Stands held whole events feed told → HasCounted events counts)
    → IsReadWhole held feed text left → CountsText text (Ok counts)
text_counted held feed text left counts taken (events, at, says) = (
  ap (λ (said : Reading). said.bad) says,
  subst (λ (found : List Event). HasCounted found counts) (sym (ap (λ (said : Reading). said.events) says))
      (taken (feed_told (told_text text)) events (told_text left) at),
)
