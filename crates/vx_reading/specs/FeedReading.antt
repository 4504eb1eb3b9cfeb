-- A feed as a command reads it, with what takes up its events.
use Rattle.std.specs.Prelude.{◌≡◌, ℕ, ◌<◌, ◌≤◌, ◌+◌, Bool, true, false, nat_le, List, [], ◌∷◌, ◌++◌, length, take}
use Rattle.std.specs.Prelude.{Option, Some, None, IfSome, Result, Ok, Err}
use Rattle.std.specs.Option.{option_map, option_map_or}
use Rattle.std.specs.List.{list_any}
use Rattle.vx_lines.specs.Cut.{HasNoLf}
use Rattle.vx_lines.specs.TextLines.{lines_of}
use Rattle.vx_desk.specs.declared.device.Slot.{Slot}
use Rattle.vx_desk.specs.declared.device.Slot.TheVariants.{Feed}
use Rattle.vx_desk.specs.Told.{Told}
use Rattle.vx_feed.specs.declared.events.Event.{Event}
use Rattle.vx_feed.specs.declared.limits.TheConstants.{LINES_MAX, LINE_LEN_MAX}
use Rattle.vx_feed.specs.Feed.{Reading, stopped_at}
use Rattle.vx_feed.specs.Noted as noted
use Rattle.vx_feed.specs.Order.{AreLawful, is_end}
use Rattle.vx_reading.specs.declared.feed.FeedReader.{FeedReader}
use Rattle.vx_reading.specs.declared.stop.FeedCause.{FeedCause}
use Rattle.vx_reading.specs.declared.stop.FeedCause.TheVariants.{MissingEnd}
use Rattle.vx_reading.specs.declared.stop.FeedStop.{FeedStop}
use Rattle.vx_reading.specs.declared.stop.FeedStop.TheVariants.{BadLine, Device, NoMemory}
use Rattle.vx_feed.specs.Feed.{reading_of, reading_on}
use Rattle.vx_blocks.specs.SplitLines.{is_in_hand}
use Rattle.vx_blocks.specs.Given.{HasGiven}
use Rattle.vx_reading.specs.FeedAhead.{IsFeedAhead, ahead_says}
use Rattle.vx_reading.specs.Stops.{IsCause, bad_cause}
use Rattle.vx_reading.specs.WhatWasRead.{EventsRead, SayEvents}

-- what the feed says, where its desk tells it
abbrev pub feed_told : (Slot → Told) → Option Reading
feed_told told = option_map reading_of (told Feed).left

-- a line is in hand, or the fault of one, so that the next one is read without the device
abbrev pub is_waiting : {T : Type 0} → FeedReader T → Bool
is_waiting feed = is_in_hand feed.ahead

-- these events were taken up
pub record HasTakenUp {T : Type 0} (StandsFor : T → List Event → Type 0) (feed : FeedReader T) (events : List Event)
    : Type 0 where
  pub taker : StandsFor feed.taker events
  pub order : noted.StandsFor feed.order events
  pub lawful : AreLawful events
  pub count : feed.count ≡ length events
  pub few : length events ≤ LINES_MAX
  pub has_end : feed.has_end ≡ list_any is_end events

-- these events were read of what the feed held at first
pub record IsReadFrom {T : Type 0} (held : Option (List ℕ)) (events : List Event) (feed : FeedReader T)
    (told : Slot → Told) : Type 0 where
  pub slot : feed.ahead.lines.slot ≡ Feed
  pub lines : List (List ℕ)
  pub say : SayEvents lines events
  pub given : HasGiven lines held feed.ahead told

-- these events were read of what the feed held at first and are taken up, and with the lines that are to come the whole
-- feed says this, where it is told
pub record IsAt {T : Type 0} (StandsFor : T → List Event → Type 0) (held : Option (List ℕ)) (whole : Option Reading)
    (events : List Event) (feed : FeedReader T) (told : Slot → Told) : Type 0 where
  pub taken_up : HasTakenUp StandsFor feed events
  pub ahead : IsFeedAhead feed.ahead
  pub rest : ahead_says feed.ahead told events ≡ whole
  pub read : IsReadFrom held events feed told

-- a reader of a feed of which no line was read
abbrev pub IsAtStart : {T : Type 0} → (T → List Event → Type 0) → (Slot → Told) → FeedReader T → Type 0
IsAtStart StandsFor told feed = IsAt StandsFor (told Feed).left (feed_told told) [] feed told

-- what was read stays read
abbrev pub StaysRead : {T : Type 0} → FeedReader T → (Slot → Told) → (Slot → Told) → Type 0
StaysRead feed before after =
    (held : Option (List ℕ)) (events : List Event) → IsReadFrom held events feed before
    → EventsRead events held (after Feed)

-- a feed that may be read on
abbrev pub IsReading : {T : Type 0} → (T → List Event → Type 0) → FeedReader T → (Slot → Told) → Type 0
IsReading StandsFor feed told =
    (held : Option (List ℕ)) × (whole : Option Reading) × (events : List Event)
    × IsAt StandsFor held whole events feed told

-- what has taken up the events of a feed
abbrev pub IsTakerOf : {T : Type 0} → (T → List Event → Type 0) → FeedReader T → T → Type 0
IsTakerOf StandsFor feed taker =
    (held : Option (List ℕ)) (whole : Option Reading) (events : List Event) (told : Slot → Told)
    → IsAt StandsFor held whole events feed told → StandsFor taker events

-- behind these events no more was read of a feed than a part of a line: what the whole feed says, that part and the
-- bytes that are left say after these events
pub record IsCutBehind (whole : Option Reading) (events : List Event) (told : Slot → Told) : Type 0 where
  pub part : List ℕ
  pub fits : length part ≤ LINE_LEN_MAX
  pub no_lf : HasNoLf part
  pub rest : whole ≡ option_map (λ left. reading_on events (lines_of LINE_LEN_MAX (part ++ left))) (told Feed).left

-- the whole feed, where it is told, says this
abbrev pub Says : Option Reading → Reading → Type 0
Says whole said = IfSome whole (λ feed. feed ≡ said)

-- what a feed says that has no bad line
abbrev pub all_good : List Event → Reading
all_good events = record { events = events; bad = None }

-- the feed ends in an END line, or one is missing at the line of this number
abbrev pub EndsAt : Bool → ℕ → Result (Option Event) FeedStop → Type 0
EndsAt true number result = result ≡ Ok None
EndsAt false number result = result ≡ Err (BadLine number MissingEnd)

-- ---- one line more

-- one more event is taken up, or the feed ends here, or the next line is bad; at a fault of the device the same events
-- are taken up and no line is in hand; and want of memory says nothing
abbrev pub ReadsNext : {T : Type 0} → (T → List Event → Type 0) → Option (List ℕ) → Option Reading → List Event
    → FeedReader T → (Slot → Told) → Result (Option Event) FeedStop → Type 0
ReadsNext StandsFor held whole events feed told (Ok (Some event)) =
    IsAt StandsFor held whole (events ++ event ∷ []) feed told
ReadsNext StandsFor held whole events feed told (Ok None) =
    IsAt StandsFor held whole events feed told × Says whole (all_good events)
ReadsNext StandsFor held whole events feed told (Err (BadLine line why)) =
    (line ≡ length events + 1) × IsCause why × Says whole (stopped_at events (bad_cause why))
ReadsNext StandsFor held whole events feed told (Err Device) =
    IsAt StandsFor held whole events feed told × (is_waiting feed ≡ false)
ReadsNext StandsFor held whole events feed told (Err NoMemory) = Unit {0}

-- the next line is read
abbrev pub TakesOne : {T : Type 0} → (T → List Event → Type 0) → FeedReader T → (Slot → Told) → FeedReader T
    → (Slot → Told) → Result (Option Event) FeedStop → Type 0
TakesOne StandsFor old before new after result =
    (held : Option (List ℕ)) (whole : Option Reading) (events : List Event)
    → IsAt StandsFor held whole events old before → ReadsNext StandsFor held whole events new after result

-- ---- the lines up to a number

-- the bad line of a feed, where it has one, stands at or before the line of this number
abbrev pub is_met : ℕ → Reading → Bool
is_met number feed = option_map_or (λ bad. nat_le bad.line number) feed.bad false

-- a feed's events up to the line of this number, where no line up to there is bad
pub record IsReadTo (number : ℕ) (events : List Event) (feed : Reading) : Type 0 where
  pub events_are : events ≡ take number feed.events
  pub no_bad : is_met number feed ≡ false

-- a bad line that is named is the feed's, where the feed is told, and stands at this line or before it
pub record NamesBad (whole : Option Reading) (number : ℕ) (line : ℕ) (why : FeedCause) : Type 0 where
  pub is_bad : IfSome whole (λ feed. feed.bad ≡ Some (record { line = line; cause = bad_cause why }))
  pub within : line ≤ number
  pub has_cause : IsCause why

-- the feed is read up to a line or to its end, or its bad line is met; at a fault of the device it is read up to an
-- earlier line and no line is in hand; and want of memory says nothing
abbrev pub ReadsTo : {T : Type 0} → (T → List Event → Type 0) → Option (List ℕ) → Option Reading → ℕ → FeedReader T
    → (Slot → Told) → Result Unit FeedStop → Type 0
ReadsTo StandsFor held whole number feed told (Ok _) =
    (events : List Event) × IsAt StandsFor held whole events feed told × (length events ≤ number)
    × IfSome whole (IsReadTo number events)
ReadsTo StandsFor held whole number feed told (Err (BadLine line why)) = NamesBad whole number line why
ReadsTo StandsFor held whole number feed told (Err Device) =
    (events : List Event) × IsAt StandsFor held whole events feed told × (is_waiting feed ≡ false)
    × (length events < number)
ReadsTo StandsFor held whole number feed told (Err NoMemory) = Unit {0}

-- the lines up to this number are read, of which more were not read before
abbrev pub TakesUpTo : {T : Type 0} → (T → List Event → Type 0) → ℕ → FeedReader T → (Slot → Told) → FeedReader T
    → (Slot → Told) → Result Unit FeedStop → Type 0
TakesUpTo StandsFor number old before new after result =
    (held : Option (List ℕ)) (whole : Option Reading) (events : List Event)
    → IsAt StandsFor held whole events old before → length events ≤ number
    → ReadsTo StandsFor held whole number new after result

-- ---- the whole feed

-- all lines are read and none is bad, or the bad line is met; at a fault of the device it is read up to some line and
-- no line is in hand; and want of memory says nothing
abbrev pub ReadsAll : {T : Type 0} → (T → List Event → Type 0) → Option (List ℕ) → Option Reading → FeedReader T
    → (Slot → Told) → Result Unit FeedStop → Type 0
ReadsAll StandsFor held whole feed told (Ok _) =
    (events : List Event) × IsAt StandsFor held whole events feed told × Says whole (all_good events)
ReadsAll StandsFor held whole feed told (Err (BadLine line why)) =
    IsCause why × (events : List Event) × (line ≡ length events + 1) × Says whole (stopped_at events (bad_cause why))
ReadsAll StandsFor held whole feed told (Err Device) =
    (events : List Event) × IsAt StandsFor held whole events feed told × (is_waiting feed ≡ false)
ReadsAll StandsFor held whole feed told (Err NoMemory) = Unit {0}

-- the rest of the feed is read
abbrev pub TakesAll : {T : Type 0} → (T → List Event → Type 0) → FeedReader T → (Slot → Told) → FeedReader T
    → (Slot → Told) → Result Unit FeedStop → Type 0
TakesAll StandsFor old before new after result =
    (held : Option (List ℕ)) (whole : Option Reading) (events : List Event)
    → IsAt StandsFor held whole events old before → ReadsAll StandsFor held whole new after result
