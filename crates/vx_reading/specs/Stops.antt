-- Why a feed is not read on.
use Rattle.std.specs.Prelude.{Option, Some, None, Result, Ok, Err}
use Rattle.vx_desk.specs.declared.device.Slot.TheVariants.{Feed}
use Rattle.vx_feed.specs.declared.faults.FeedFault.TheVariants as fault
use Rattle.vx_feed.specs.Feed.{BadCause, of_fault, too_long, no_eol, missing_end}
use Rattle.vx_reading.specs.declared.stop.FeedCause.{FeedCause}
use Rattle.vx_reading.specs.declared.stop.FeedCause.TheVariants as cause
use Rattle.vx_reading.specs.declared.stop.FeedStop.{FeedStop}
use Rattle.vx_reading.specs.declared.stop.FeedStop.TheVariants.{BadLine, Device, NoMemory}
use Rattle.vx_blocks.specs.declared.stop.ReadStop.{ReadStop}
use Rattle.vx_blocks.specs.declared.stop.ReadStop.TheVariants as read
use Rattle.vx_desk.specs.Calls.{Calls, read_call}

-- want of memory is no cause
abbrev pub IsCause : FeedCause → Type 0
IsCause (cause.Event fault.NoMemory) = ⊥
IsCause _ = Unit {0}

-- why a line is bad, in the words of a feed's text
abbrev pub bad_cause : FeedCause → BadCause
bad_cause (cause.Event fault) = of_fault fault
bad_cause cause.TooLong = too_long
bad_cause cause.NoEol = no_eol
bad_cause cause.MissingEnd = missing_end

-- why the feed is not read on, where its lines are not
abbrev pub stop_of : ReadStop → FeedStop
stop_of read.Device = Device
stop_of read.NoMemory = NoMemory

-- the stop is no fault of the device
abbrev pub IsNoFeedFault : FeedStop → Type 0
IsNoFeedFault Device = ⊥
IsNoFeedFault _ = Unit {0}

-- the calls of which a stop says that one failed
abbrev pub feed_stop_calls : FeedStop → Option Calls
feed_stop_calls (BadLine line cause) = None
feed_stop_calls Device = Some (record { slot = Feed; kind = read_call })
feed_stop_calls NoMemory = None

-- the same of a step that may stop
abbrev pub feed_failed_in : {T : Type 0} → Result T FeedStop → Option Calls
feed_failed_in (Ok _) = None
feed_failed_in (Err stop) = feed_stop_calls stop
