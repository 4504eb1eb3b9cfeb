-- The steps of a run that settles positions.
use Rattle.std.specs.Prelude.{◌≡◌, ◌≢◌, ◌⊎◌, ℕ, ◌+◌, ◌-◌, Bool, true, false, List, [], ◌∷◌, ◌++◌, length}
use Rattle.std.specs.Prelude.{IfOk, IfSome, OnOk, Option, Some, None, Result, Ok, Err}
use Rattle.std.specs.Option.{option_map}
use Rattle.vx_lines.specs.TextLines.{TextLines, at_end, at_most, ended, lines_then}
use Rattle.vx_desk.specs.declared.device.Slot.{Slot}
use Rattle.vx_desk.specs.declared.device.Slot.TheVariants.{Feed, Side, Out, Certs}
use Rattle.vx_desk.specs.Told.{Told}
use Rattle.vx_num.specs.declared.fault.NoMemory.{NoMemory}
use Rattle.vx_feed.specs.declared.events.Event.{Event}
use Rattle.vx_feed.specs.Feed.{Reading}
use Rattle.vx_feed.specs.Order.{AreLawful}
use Rattle.vx_settle.specs.declared.fault.PositionFault.{PositionFault}
use Rattle.vx_blocks.specs.declared.split_lines.SplitLines.{SplitLines}
use Rattle.vx_blocks.specs.SplitLines.{has_line, lines_coming}
use Rattle.vx_blocks.specs.Given.{HasGiven, IsCutAfter, WereRead}
use Rattle.vx_reading.specs.FeedReading.{Says, all_good}
use Rattle.vx_reading.specs.WhatWasRead.{EventsRead}
use Rattle.vx_drivers.specs.declared.exit.Exit.{Exit}
use Rattle.vx_drivers.specs.declared.exit.Exit.TheVariants.{BadPositions, ReadFault, NoMemory as WantsMemory}
use Rattle.vx_drivers.specs.declared.exit.PositionCause.TheVariants.{Fault}
use Rattle.vx_drivers.specs.declared.limits.TheConstants.{POSITION_LINES_MAX, POSITION_LINE_LEN_MAX}
use Rattle.vx_drivers.specs.declared.position_run.PositionRun.{PositionRun}
use Rattle.vx_drivers.specs.Along.{Along}
use Rattle.vx_drivers.specs.Exits.{is_cut, is_write_fault}
use Rattle.vx_drivers.specs.Held.{Held}
use Rattle.vx_drivers.specs.PositionExits.{IsLineFault}
use Rattle.vx_drivers.specs.PositionRun.{PositionRules, RunsPositionsBy, ComesToOneMore, positions_of, settled_text}
use Rattle.vx_drivers.specs.Sending.{Begins, CutsOff, Sent, Text}

-- what the positions are, where their desk tells them
abbrev pub positions_told : (Slot → Told) → Option TextLines
positions_told told = option_map positions_of (told Side).left

-- the lines that are to come, as many as there may be after so many
abbrev pub allowed_positions : ℕ → SplitLines → (Slot → Told) → Option TextLines
allowed_positions count positions told = option_map (at_most (POSITION_LINES_MAX - count)) (lines_coming positions told)

-- ---- what answers

-- the opening of some events is answered, with the two texts of the answer and a sheet on which nothing is settled
pub record OpensSheet {A I S : Type 0} (rules : PositionRules A I) (StandsAt : S → A → List I → Type 0)
    (events : List Event) (certificate line : Text) (sheet : S) : Type 0 where
  pub answer : A
  pub is_opening : rules.IsOpening events answer
  pub certificate_is : certificate ≡ rules.certificate answer
  pub line_is : line ≡ rules.line answer
  pub stands : StandsAt sheet answer []

-- it has taken up events, a lawful list
abbrev pub HasTakenUpLawful : {B : Type 0} → (B → List Event → Type 0) → B → Type 0
HasTakenUpLawful StandsFor book = (events : List Event) × StandsFor book events × AreLawful events

-- and answers their opening so
abbrev pub AnswersOpeningOf : {A I S B : Type 0} → PositionRules A I → (S → A → List I → Type 0)
    → (B → List Event → Type 0) → B → Text → Text → Result S NoMemory → Type 0
AnswersOpeningOf rules StandsAt StandsFor book certificate line result =
    (events : List Event) → StandsFor book events → AreLawful events
    → IfOk result (OpensSheet rules StandsAt events certificate line)

-- what a line of positions comes to is on the sheet, and this is what the output says of it
pub record AddsItem {A I S : Type 0} (rules : PositionRules A I) (StandsAt : S → A → List I → Type 0) (answer : A)
    (items : List I) (text : List ℕ) (line : Text) (sheet : S) : Type 0 where
  pub item : I
  pub comes : rules.ComesTo answer text (Ok item)
  pub line_is : line ≡ rules.item_line (length items + 1) item
  pub stands : StandsAt sheet answer (items ++ item ∷ [])

-- the same, or the line is no position for this fault
abbrev pub AddsUnless : {A I S : Type 0} → PositionRules A I → (S → A → List I → Type 0) → A → List I → List ℕ → Text
    → S → Option PositionFault → Type 0
AddsUnless rules StandsAt answer items text line sheet None = AddsItem rules StandsAt answer items text line sheet
AddsUnless rules StandsAt answer items text line sheet (Some fault) =
    rules.ComesTo answer text (Err fault) × IsLineFault fault

-- a sheet on which so many items stand
abbrev pub HasItems : {A I S : Type 0} → (S → A → List I → Type 0) → S → ℕ → Type 0
HasItems {A} {I} StandsAt sheet count =
    (answer : A) × (items : List I) × StandsAt sheet answer items × (count ≡ length items)

-- and the next line is settled on it
abbrev pub SettlesNext : {A I S : Type 0} → PositionRules A I → (S → A → List I → Type 0) → S → ℕ → List ℕ → Text → S
    → Result (Option PositionFault) NoMemory → Type 0
SettlesNext {A} {I} rules StandsAt old count text line new result =
    (answer : A) (items : List I) → StandsAt old answer items → count ≡ length items
    → IfOk result (AddsUnless rules StandsAt answer items text line new)

-- and its last lines are these
abbrev pub WritesLast : {A I S : Type 0} → PositionRules A I → (S → A → List I → Type 0) → S → ℕ → Text
    → Result Unit NoMemory → Type 0
WritesLast {A} {I} rules StandsAt sheet count line result =
    (answer : A) (items : List I) → StandsAt sheet answer items → count ≡ length items
    → OnOk result (line ≡ rules.last_lines answer items)

-- ---- how a run ends

-- a run was cut off behind the feed's end: it sent what the opening and first lines give, which were read by then, or where
-- a write failed a first part of it; and where a read of the lines failed, no more was read behind them than a part of a line
pub record SettlesLinesRead {A I : Type 0} (rules : PositionRules A I) (held : Held) (feed : Option Reading)
    (positions : Option TextLines) (after : Slot → Told) (exit : Exit) (out certs : Text) : Type 0 where
  pub events : List Event
  pub feed_is : Says feed (all_good events)
  pub events_read : EventsRead events held.feed (after Feed)
  pub answer : A
  pub is_opening : rules.IsOpening events answer
  pub items : List I
  pub lines : List (List ℕ)
  pub steps : Along (ComesToOneMore rules answer) [] lines items
  pub lines_read : WereRead lines held.side (after Side)
  pub last : Text
  pub last_is : (last ≡ []) ⊎ (IfSome positions (λ told. told ≡ lines_then lines (ended at_end))
      × (last ≡ rules.last_lines answer items))
  pub out_part : Begins out (settled_text rules answer items ++ last)
  pub certs_part : Begins certs (rules.certificate answer)
  pub whole : is_write_fault exit ≡ false
      → (out ≡ settled_text rules answer items) × (certs ≡ rules.certificate answer)
  pub cut : exit ≡ ReadFault Side → IsCutAfter lines POSITION_LINE_LEN_MAX held.side (after Side)

-- nothing was sent, and no line of positions was asked for
pub record SendsNeither (exit : Exit) (out certs : Text) : Type 0 where
  pub out_is : out ≡ []
  pub certs_are : certs ≡ []
  pub not_side : exit ≢ ReadFault Side

-- the opening counts as read once the feed was read to its end: before that nothing is sent
abbrev pub SettlesNothingOrRead : {A I : Type 0} → PositionRules A I → Held → Option Reading → Option TextLines → (Slot → Told)
    → Exit → Text → Text → Type 0
SettlesNothingOrRead rules held feed positions after exit out certs =
    SendsNeither exit out certs ⊎ SettlesLinesRead rules held feed positions after exit out certs

-- the run ended with this exit, and sent what it gives over the feed and the positions: those that are told, or some
-- where none are; and where it was cut off, what the lines give that were read
pub record HasEndedPositions {A I : Type 0} (rules : PositionRules A I) (held : Held) (feed : Option Reading)
    (positions : Option TextLines) (before after : Slot → Told) (exit : Exit) : Type 0 where
  pub over : Reading
  pub feed_is : Says feed over
  pub lines : TextLines
  pub lines_are : IfSome positions (λ told. told ≡ lines)
  pub out : Text
  pub certs : Text
  pub runs : RunsPositionsBy rules over lines exit out certs
  pub out_sent : Sent out (before Out) (after Out)
  pub certs_sent : Sent certs (before Certs) (after Certs)
  pub cut : is_cut exit ≡ true → SettlesNothingOrRead rules held feed positions after exit out certs

-- what was not sent yet is sent before a run ends with this exit, or a write of it failed
abbrev pub EndsAllSent : Text → Told → Told → Exit → Exit → Type 0
EndsAllSent unsent before after exit result =
    ((result ≡ exit) × Sent unsent before after) ⊎ CutsOff Out unsent before after result

module _ {A I S : Type 0} (rules : PositionRules A I) (StandsAt : S → A → List I → Type 0) where
  -- ---- one line

  -- a line is settled, and what there is to say of it stands behind what is to be sent
  pub record KeepsItem (answer : A) (items : List I) (text : List ℕ) (old new : PositionRun S) : Type 0 where
    pub item : I
    pub comes : rules.ComesTo answer text (Ok item)
    pub stands : StandsAt new.sheet answer (items ++ item ∷ [])
    pub unsent : new.unsent.items ≡ old.unsent.items ++ rules.item_line (length items + 1) item

  -- the line is no position
  pub record EndsAtFault (answer : A) (items : List I) (text : List ℕ) (exit : Exit) : Type 0 where
    pub fault : PositionFault
    pub exit_is : exit ≡ BadPositions (length items + 1) (Fault fault)
    pub comes : rules.ComesTo answer text (Err fault)

  -- a line is settled, or the run ends at it: for want of memory, or as it is no position
  abbrev pub SettlesLine : A → List I → List ℕ → PositionRun S → PositionRun S → Result Unit Exit → Type 0
  SettlesLine answer items text old new (Ok _) = KeepsItem answer items text old new
  SettlesLine answer items text old new (Err exit) = (exit ≡ WantsMemory) ⊎ EndsAtFault answer items text exit

  -- the line after so many is settled
  abbrev pub SettlesOne : PositionRun S → List ℕ → PositionRun S → Result Unit Exit → Type 0
  SettlesOne old text new result =
      (answer : A) (items : List I) → StandsAt old.sheet answer items → old.count ≡ length items
      → SettlesLine answer items text old new result

  -- ---- the opening

  -- the opening of a feed that is read to its end was answered, and its two texts were sent
  pub record HasOpened (held : Option (List ℕ)) (feed : Option Reading) (before : Slot → Told) (run : PositionRun S)
      (now : Slot → Told) : Type 0 where
    pub events : List Event
    pub feed_is : Says feed (all_good events)
    pub events_read : EventsRead events held (now Feed)
    pub answer : A
    pub is_opening : rules.IsOpening events answer
    pub sheet : StandsAt run.sheet answer []
    pub count : run.count ≡ 0
    pub unsent : run.unsent.items ≡ []
    pub certs : Sent (rules.certificate answer) (before Certs) (now Certs)
    pub out : Sent (rules.line answer) (before Out) (now Out)

  -- the same, or the run ended
  abbrev pub OpensRun : Held → Option Reading → (Slot → Told) → (Slot → Told) → Result (PositionRun S) Exit → Type 0
  OpensRun held feed before now (Ok run) = HasOpened held.feed feed before run now
  OpensRun held feed before now (Err exit) =
      (positions : Option TextLines) → held.side ≡ (now Side).left → HasEndedPositions rules held feed positions before now exit

  -- ---- from the start of the run

  module _ (held : Held) (feed : Option Reading) (positions : Option TextLines) (before : Slot → Told) where
    -- the opening and the first lines are answered, the answers are sent but for what is unsent, and these lines are to come
    pub record IsSettling (run : PositionRun S) (ahead : SplitLines) (now : Slot → Told) (rest : Option TextLines) : Type 0 where
      pub events : List Event
      pub feed_is : Says feed (all_good events)
      pub events_read : EventsRead events held.feed (now Feed)
      pub answer : A
      pub is_opening : rules.IsOpening events answer
      pub items : List I
      pub lines : List (List ℕ)
      pub are_first : positions ≡ option_map (lines_then lines) rest
      pub slot : ahead.lines.slot ≡ Side
      pub lines_read : HasGiven lines held.side ahead now
      pub steps : Along (ComesToOneMore rules answer) [] lines items
      pub sheet : StandsAt run.sheet answer items
      pub count : run.count ≡ length items
      pub certs : Sent (rules.certificate answer) (before Certs) (now Certs)
      pub sent : Text
      pub text_is : settled_text rules answer items ≡ sent ++ run.unsent.items
      pub out : Sent sent (before Out) (now Out)

    -- the next line is at hand, or all is sent; or the run ended
    abbrev pub IsReady : PositionRun S → SplitLines → (Slot → Told) → Option TextLines → Result Unit Exit → Type 0
    IsReady run ahead now rest (Ok _) =
        IsSettling run ahead now rest × (has_line ahead ≡ false → run.unsent.items ≡ [])
    IsReady run ahead now rest (Err exit) = HasEndedPositions rules held feed positions before now exit

    -- no line is left, and all is sent
    abbrev pub IsThroughPositions : PositionRun S → (Slot → Told) → Type 0
    IsThroughPositions run now =
        (ahead : SplitLines) × (rest : Option TextLines) × IsSettling run ahead now rest
        × IfSome rest (λ lines. lines ≡ ended at_end) × (run.unsent.items ≡ [])

    -- one line more is settled, or none is left, or the run ended
    abbrev pub GoesOnPositions : PositionRun S → SplitLines → (Slot → Told) → Option TextLines → Result Bool Exit → Type 0
    GoesOnPositions run ahead now rest (Ok true) = IsSettling run ahead now rest
    GoesOnPositions run ahead now rest (Ok false) = IsThroughPositions run now
    GoesOnPositions run ahead now rest (Err exit) = HasEndedPositions rules held feed positions before now exit

    -- all lines are settled, or the run ended
    abbrev pub SettlesEach : PositionRun S → (Slot → Told) → Result Unit Exit → Type 0
    SettlesEach run now (Ok _) = IsThroughPositions run now
    SettlesEach run now (Err exit) = HasEndedPositions rules held feed positions before now exit

  -- ---- the clauses of a run

  -- the lines that are to come to a run, as many as there may be
  abbrev pub rest_of : PositionRun S → SplitLines → (Slot → Told) → Option TextLines
  rest_of run ahead told = allowed_positions run.count ahead told

  -- a run that may go on
  abbrev pub MaySettle : PositionRun S → SplitLines → (Slot → Told) → Type 0
  MaySettle run ahead told =
      (held : Held) × (feed : Option Reading) × (positions : Option TextLines) × (before : Slot → Told)
      × IsSettling held feed positions before run ahead told (rest_of run ahead told)

  -- the lines are read on where none is at hand
  abbrev pub ReadsMorePositions : PositionRun S → SplitLines → (Slot → Told) → PositionRun S → SplitLines
      → (Slot → Told) → Result Unit Exit → Type 0
  ReadsMorePositions old lines told new more now result =
      (held : Held) (feed : Option Reading) (positions : Option TextLines) (before : Slot → Told)
      → IsSettling held feed positions before old lines told (rest_of old lines told)
      → IsReady held feed positions before new more now (rest_of new more now) result

  -- the next line is settled
  abbrev pub GoesOnePosition : PositionRun S → SplitLines → (Slot → Told) → PositionRun S → SplitLines
      → (Slot → Told) → Result Bool Exit → Type 0
  GoesOnePosition old lines told new more now result =
      (held : Held) (feed : Option Reading) (positions : Option TextLines) (before : Slot → Told)
      → IsSettling held feed positions before old lines told (rest_of old lines told)
      → GoesOnPositions held feed positions before new more now (rest_of new more now) result

  -- all lines are settled
  abbrev pub GoesToLastPosition : PositionRun S → SplitLines → (Slot → Told) → PositionRun S → (Slot → Told)
      → Result Unit Exit → Type 0
  GoesToLastPosition old lines told new now result =
      (held : Held) (feed : Option Reading) (positions : Option TextLines) (before : Slot → Told)
      → IsSettling held feed positions before old lines told (rest_of old lines told)
      → SettlesEach held feed positions before new now result

  -- a run whose lines are all settled
  abbrev pub MayEndPositions : PositionRun S → (Slot → Told) → Type 0
  MayEndPositions run told =
      (held : Held) × (feed : Option Reading) × (positions : Option TextLines) × (before : Slot → Told)
      × IsThroughPositions held feed positions before run told

  -- the run ends behind the last line
  abbrev pub EndsPositionRun : PositionRun S → (Slot → Told) → (Slot → Told) → Exit → Type 0
  EndsPositionRun run told now exit =
      (held : Held) (feed : Option Reading) (positions : Option TextLines) (before : Slot → Told)
      → IsThroughPositions held feed positions before run told
      → HasEndedPositions rules held feed positions before now exit
