-- A feed as a text: the events of its lawful lines, and its first bad line (this project's own).
use Rattle.std.specs.Prelude.{◌≡◌, ℕ, ◌+◌, ◌==◌, List, [], ◌∷◌, ◌++◌, length, Option, Some, None, Result, Ok, Err, if◌then◌else◌}
use Rattle.std.specs.List.{list_all, list_any}
use Rattle.vx_lines.specs.TextLines as lines
use Rattle.vx_fields.specs.Lines.{fields_of_line, is_plain}
use Rattle.vx_fields.specs.declared.line.Unsplit.{Unsplit}
use Rattle.vx_fields.specs.declared.line.Unsplit.TheVariants.{Empty, Byte}
use Rattle.vx_feed.specs.declared.events.Event.{Event}
use Rattle.vx_feed.specs.declared.faults.FeedFault.{FeedFault}
use Rattle.vx_feed.specs.declared.faults.FeedFault.TheVariants as fault
use Rattle.vx_feed.specs.declared.limits.TheConstants.{LINE_LEN_MAX}
use Rattle.vx_feed.specs.Form.{event_of_fields}
use Rattle.vx_feed.specs.Order.{is_end, order_fault}

-- an event, unless it has a fault
abbrev pub event_unless : Option FeedFault → Event → Result Event FeedFault
event_unless None e = Ok e
event_unless (Some f) e = Err f

-- an event that a line says, where it may come next after a list of events
abbrev pub event_in_order : List Event → Result Event FeedFault → Result Event FeedFault
event_in_order before (Err f) = Err f
event_in_order before (Ok e) = event_unless (order_fault before e) e

-- the event of a line's fields after a list of events, or else the first fault
abbrev pub next_event : List Event → List (List ℕ) → Result Event FeedFault
next_event before fields = event_in_order before (event_of_fields fields)

-- the fault of a line that has no fields, by why it has none
abbrev pub fault_of_unsplit : Unsplit → FeedFault
fault_of_unsplit Empty = fault.Kind
fault_of_unsplit Byte = fault.Byte

-- the event of a line after a list of events, or else the first fault
abbrev pub event_of_line : List Event → List ℕ → Result Event FeedFault
event_of_line before line =
    if length line == 0 then Err fault.Kind
    else (if list_all is_plain line then next_event before (fields_of_line line) else Err fault.Byte)

-- why a line is bad: a fault, more bytes than a line may have, no LF at the end of the text, or an
-- end of the text where no END line came
pub data BadCause : Type 0 where
  of_fault : FeedFault → BadCause
  too_long : BadCause
  no_eol : BadCause
  missing_end : BadCause

-- a bad line, by its number from 1
pub record BadLine : Type 0 where
  pub line : ℕ
  pub cause : BadCause

-- what a text says: the events of its lawful leading lines, and the line after them where it is bad
pub record Reading : Type 0 where
  pub events : List Event
  pub bad : Option BadLine

-- the line after these events is bad
abbrev pub stopped_at : List Event → BadCause → Reading
stopped_at before cause =
    record { events = before; bad = Some (record { line = length before + 1; cause = cause }) }

-- a line's event, or why the line is bad
abbrev pub with_cause : Result Event FeedFault → Result Event BadCause
with_cause (Ok e) = Ok e
with_cause (Err f) = Err (of_fault f)

-- what the end of a text says after the events of its lines; a line too many has no cause of its own
abbrev pub reading_at_end : List Event → lines.Ending → Reading
reading_at_end before lines.at_end =
    if list_any is_end before then record { events = before; bad = None } else stopped_at before missing_end
reading_at_end before lines.too_long = stopped_at before too_long
reading_at_end before lines.no_eol = stopped_at before no_eol
reading_at_end before lines.too_many = stopped_at before too_long

-- what follows a line: the reading of the lines after it, or the stop at it
abbrev pub reading_after : (List Event → Reading) → List Event → Result Event BadCause → Reading
reading_after more before (Ok e) = more (before ++ e ∷ [])
reading_after more before (Err cause) = stopped_at before cause

-- what lines, and how the text ends behind them, say after the events of earlier lines
abbrev pub reading_from : List Event → List (List ℕ) → lines.Ending → Reading
reading_from before [] ending = reading_at_end before ending
reading_from before (line ∷ rest) ending =
    reading_after (λ events. reading_from events rest ending) before (with_cause (event_of_line before line))

abbrev pub reading_on : List Event → lines.TextLines → Reading
reading_on before text = reading_from before text.lines text.ending

abbrev pub reading_of : List ℕ → Reading
reading_of text = reading_on [] (lines.lines_of LINE_LEN_MAX text)

-- the events of the longest list of leading lines that are each lawful next
abbrev pub lawful_prefix : List ℕ → List Event
lawful_prefix text = (reading_of text).events

-- the first bad line of a text, if it has one
abbrev pub bad_line : List ℕ → Option BadLine
bad_line text = (reading_of text).bad

-- every line is lawful next, and the last one is an END line
abbrev pub IsLawfulFeed : List ℕ → Type 0
IsLawfulFeed text = bad_line text ≡ None
