-- The lines of a feed that are read ahead, and what they say.
use Rattle.std.specs.Prelude.{◌≡◌, ℕ, List, Option, Some, None, Result, Ok, Err}
use Rattle.std.specs.Option.{option_map}
use Rattle.vx_desk.specs.declared.device.Slot.{Slot}
use Rattle.vx_desk.specs.declared.device.Slot.TheVariants.{Feed}
use Rattle.vx_desk.specs.Told.{Told}
use Rattle.vx_blocks.specs.declared.split_lines.SplitLines.{SplitLines}
use Rattle.vx_blocks.specs.declared.split_lines.Rest.{Rest}
use Rattle.vx_blocks.specs.declared.split_lines.Rest.TheVariants as rest
use Rattle.vx_blocks.specs.SplitLines.{AreAhead, lines_coming}
use Rattle.vx_feed.specs.declared.events.Event.{Event}
use Rattle.vx_feed.specs.declared.faults.FeedFault.{FeedFault}
use Rattle.vx_feed.specs.declared.faults.FeedFault.TheVariants as fault
use Rattle.vx_feed.specs.declared.limits.TheConstants.{LINE_LEN_MAX}
use Rattle.vx_feed.specs.declared.order.Order.{Order}
use Rattle.vx_feed.specs.Feed.{Reading, fault_of_unsplit, next_event, reading_on}
use Rattle.vx_feed.specs.Noted.{StandsFor}
use Rattle.vx_feed.specs.Order.{IsLawfulNext}
use Rattle.vx_reading.specs.declared.stop.FeedCause.{FeedCause}
use Rattle.vx_reading.specs.declared.stop.FeedCause.TheVariants.{Event as OfEvent, NoEol, TooLong}
use Rattle.vx_reading.specs.declared.stop.FeedStop.{FeedStop}
use Rattle.vx_reading.specs.declared.stop.FeedStop.TheVariants.{BadLine, Device, NoMemory}
use Rattle.vx_reading.specs.Stops.{IsCause}

-- these are the lines of the feed
pub record IsFeedAhead (ahead : SplitLines) : Type 0 where
  pub slot : ahead.lines.slot ≡ Feed
  pub limit : ahead.lines.limit ≡ LINE_LEN_MAX
  pub are_ahead : AreAhead ahead

-- what the lines that are to come say after the events before them, where they are told
abbrev pub ahead_says : SplitLines → (Slot → Told) → List Event → Option Reading
ahead_says ahead told before = option_map (reading_on before) (lines_coming ahead told)

-- why the line is bad that comes behind those that were split, if it is known to be
abbrev pub cause_of_rest : Rest → Option FeedCause
cause_of_rest rest.More = None
cause_of_rest rest.End = None
cause_of_rest (rest.Unsplit why) = Some (OfEvent (fault_of_unsplit why))
cause_of_rest rest.TooLong = Some TooLong
cause_of_rest rest.NoEol = Some NoEol

-- the lawful next event that a line says, or the line by its number with its fault
abbrev pub SaysEvent : Result Event FeedFault → List Event → ℕ → Result Event FeedStop → Type 0
SaysEvent said events number (Ok event) = (said ≡ Ok event) × IsLawfulNext events event
SaysEvent said events number (Err (BadLine line (OfEvent fault))) =
    (line ≡ number) × (said ≡ Err fault) × IsCause (OfEvent fault)
SaysEvent said events number (Err (BadLine line _)) = ⊥
SaysEvent said events number (Err NoMemory) = said ≡ Err fault.NoMemory
SaysEvent said events number (Err Device) = ⊥

-- the fields of the line of this number say their event, or their fault, after the events that were noted
abbrev pub SayEvent : List (List ℕ) → Order → ℕ → Result Event FeedStop → Type 0
SayEvent fields order number result =
    (events : List Event) → StandsFor order events → SaysEvent (next_event events fields) events number result
