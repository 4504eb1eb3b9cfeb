-- The line that the program prints on standard error for each exit. Each line ends with LF.
use Rattle.std.specs.Prelude.{ℕ, [], ◌∷◌, ◌++◌, codes}
use Rattle.vx_num.specs.Written.{decimal_text}
use Rattle.vx_desk.specs.declared.device.Slot.{Slot}
use Rattle.vx_desk.specs.declared.device.Slot.TheVariants as slot
use Rattle.vx_feed.specs.declared.faults.FeedFault.{FeedFault}
use Rattle.vx_feed.specs.declared.faults.FeedFault.TheVariants as feed
use Rattle.vx_settle.specs.declared.fault.PositionFault.{PositionFault}
use Rattle.vx_settle.specs.declared.fault.PositionFault.TheVariants as position
use Rattle.vx_drivers.specs.declared.exit.Exit.{Exit}
use Rattle.vx_drivers.specs.declared.exit.Exit.TheVariants.{Done, SaidNo, Usage, BadFeed, OpenFault, ReadFault, WriteFault, NoMemory, BadPositions, BadCerts}
use Rattle.vx_drivers.specs.declared.exit.LineCause.{LineCause}
use Rattle.vx_drivers.specs.declared.exit.LineCause.TheVariants as line
use Rattle.vx_reading.specs.declared.stop.FeedCause.{FeedCause}
use Rattle.vx_reading.specs.declared.stop.FeedCause.TheVariants as feed_cause
use Rattle.vx_drivers.specs.declared.exit.PositionCause.{PositionCause}
use Rattle.vx_drivers.specs.declared.exit.PositionCause.TheVariants as position_cause
use Rattle.vx_drivers.specs.Sending.{Text}

abbrev pub slot_word : Slot → Text
slot_word slot.Feed = codes "feed"
slot_word slot.Side = codes "side"
slot_word slot.Out = codes "out"
slot_word slot.Certs = codes "certs"

-- `field-n`, for the first field that is not of its form or range
abbrev pub field_word : ℕ → Text
field_word n = codes "field-" ++ decimal_text n 0

abbrev pub feed_fault_word : FeedFault → Text
feed_fault_word feed.NoMemory = []
feed_fault_word feed.Byte = codes "byte"
feed_fault_word feed.Kind = codes "kind"
feed_fault_word feed.Fields = codes "fields"
feed_fault_word (feed.Field n) = field_word n
feed_fault_word feed.NotFirst = codes "not-first"
feed_fault_word feed.AfterEnd = codes "after-end"
feed_fault_word feed.TimeBack = codes "time-back"
feed_fault_word feed.DuplicateExpiry = codes "duplicate-expiry"
feed_fault_word feed.DuplicateSeries = codes "duplicate-series"
feed_fault_word feed.UndeclaredExpiry = codes "undeclared-expiry"
feed_fault_word feed.TooMany = codes "too-many"
feed_fault_word feed.EndCount = codes "end-count"
feed_fault_word feed.TimeRange = codes "time-range"
feed_fault_word feed.SecondOpening = codes "second-opening"

abbrev pub feed_word : FeedCause → Text
feed_word (feed_cause.Event fault) = feed_fault_word fault
feed_word feed_cause.TooLong = codes "too-long"
feed_word feed_cause.NoEol = codes "no-eol"
feed_word feed_cause.MissingEnd = codes "missing-end"

abbrev pub position_fault_word : PositionFault → Text
position_fault_word position.NoMemory = []
position_fault_word position.Byte = codes "byte"
position_fault_word position.Fields = codes "fields"
position_fault_word (position.Field n) = field_word n

abbrev pub position_word : PositionCause → Text
position_word (position_cause.Fault fault) = position_fault_word fault
position_word position_cause.TooLong = codes "too-long"
position_word position_cause.NoEol = codes "no-eol"
position_word position_cause.TooMany = codes "too-many"

abbrev pub line_word : LineCause → Text
line_word line.TooLong = codes "too-long"
line_word line.NoEol = codes "no-eol"
line_word line.TooMany = codes "too-many"

-- `INPUT line N: `
abbrev pub place : Text → ℕ → Text
place input number = input ++ codes " line " ++ decimal_text number 0 ++ codes ": "

-- which line of which input is bad, and why
abbrev pub bad_feed_text : ℕ → FeedCause → Text
bad_feed_text number cause = place (codes "feed") number ++ feed_word cause

abbrev pub bad_positions_text : ℕ → PositionCause → Text
bad_positions_text number cause = place (codes "position") number ++ position_word cause

abbrev pub bad_certs_text : ℕ → LineCause → Text
bad_certs_text number cause = place (codes "certificate") number ++ line_word cause

-- `cannot CALL SLOT`
abbrev pub failed_call_text : Text → Slot → Text
failed_call_text call slot = codes "cannot " ++ call ++ codes " " ++ slot_word slot

-- what is wrong, where something is
abbrev pub complaint : Exit → Text
complaint Done = []
complaint (SaidNo count) = []
complaint Usage = codes "usage: replay FEED CERTS, check FEED CERTS, settle FEED POSITIONS CERTS, make NUMBER TICKS, drill NUMBER TICKS"
complaint (BadFeed number cause) = bad_feed_text number cause
complaint (OpenFault slot) = failed_call_text (codes "open") slot
complaint (ReadFault slot) = failed_call_text (codes "read") slot
complaint (WriteFault slot) = failed_call_text (codes "write") slot
complaint NoMemory = codes "no memory"
complaint (BadPositions number cause) = bad_positions_text number cause
complaint (BadCerts number cause) = bad_certs_text number cause

-- `vixcert: COMPLAINT` and LF (10), where something is wrong
abbrev pub exit_text : Exit → Text
exit_text Done = []
exit_text (SaidNo count) = []
exit_text exit = codes "vixcert: " ++ complaint exit ++ 10 ∷ []
