-- A run that settles positions on the opening of a feed: one step a line of positions, in their order.
use Rattle.std.specs.Prelude.{◌≡◌, ◌⊎◌, ℕ, ◌+◌, Bool, true, false, List, [], ◌∷◌, ◌++◌, length, Option, Some, None, Result, Ok, Err}
use Rattle.vx_lines.specs.TextLines.{TextLines, at_end, too_long, no_eol, too_many, ended, at_most, line_then, lines_of, lines_then}
use Rattle.vx_feed.specs.declared.events.Event.{Event}
use Rattle.vx_feed.specs.Feed.{BadLine, Reading}
use Rattle.vx_settle.specs.declared.fault.PositionFault.{PositionFault}
use Rattle.vx_reading.specs.declared.stop.FeedCause.{FeedCause}
use Rattle.vx_reading.specs.Stops.{bad_cause}
use Rattle.vx_drivers.specs.declared.exit.Exit.{Exit}
use Rattle.vx_drivers.specs.declared.exit.Exit.TheVariants.{Done, BadFeed, BadPositions}
use Rattle.vx_drivers.specs.declared.exit.PositionCause.{PositionCause}
use Rattle.vx_drivers.specs.declared.exit.PositionCause.TheVariants as cause
use Rattle.vx_drivers.specs.declared.limits.TheConstants.{POSITION_LINES_MAX, POSITION_LINE_LEN_MAX}
use Rattle.vx_drivers.specs.Along.{Along}
use Rattle.vx_drivers.specs.Exits.{is_cut}
use Rattle.vx_drivers.specs.Sending.{Text}

-- what a command makes of a feed's events and of lines of positions: what the opening of the events is answered; what
-- the answer adds to the file of certificates, nothing where it has none, and to the output; what a line of positions
-- comes to at that answer, or why it is no position; what the output says of it, by its number; and the last lines
pub record PositionRules (A I : Type 0) : Type 1 where
  pub IsOpening : List Event → A → Type 0
  pub certificate : A → Text
  pub line : A → Text
  pub ComesTo : A → List ℕ → Result I PositionFault → Type 0
  pub item_line : ℕ → I → Text
  pub last_lines : A → List I → Text

-- what a line comes to by its fields, unless it cannot be split
abbrev pub said_unless : {I : Type 0} → Option PositionFault → Result I PositionFault → Result I PositionFault
said_unless None said = said
said_unless (Some fault) said = Err fault

-- the lines of a file of positions
abbrev pub positions_of : List ℕ → TextLines
positions_of text = at_most POSITION_LINES_MAX (lines_of POSITION_LINE_LEN_MAX text)

-- ---- one step

-- a line comes to one thing more, behind those of the lines before it
abbrev pub ComesToOneMore : {A I : Type 0} → PositionRules A I → A → List I → List ℕ → List I → Type 0
ComesToOneMore {A} {I} rules answer old text new =
    (item : I) × rules.ComesTo answer text (Ok item) × (new ≡ old ++ item ∷ [])

-- the first lines of positions have come to these items, one after another, and this is the rest
pub record SettledBefore {A I : Type 0} (rules : PositionRules A I) (answer : A) (positions : TextLines) (items : List I)
    (rest : TextLines) : Type 0 where
  pub lines : List (List ℕ)
  pub are_first : positions ≡ lines_then lines rest
  pub steps : Along (ComesToOneMore rules answer) [] lines items

-- ---- the texts

-- what the output says of items, of which the first is that of the line of this number
abbrev pub items_from : {A I : Type 0} → PositionRules A I → ℕ → List I → Text
items_from rules number [] = []
items_from rules number (item ∷ items) = rules.item_line number item ++ items_from rules (number + 1) items

-- the opening's line, and then those of the positions
abbrev pub settled_text : {A I : Type 0} → PositionRules A I → A → List I → Text
settled_text rules answer items = rules.line answer ++ items_from rules 1 items

-- ---- a whole run

-- the next line of positions is bad, for this cause
abbrev pub NextIsBad : {A I : Type 0} → PositionRules A I → A → TextLines → PositionCause → Type 0
NextIsBad rules answer rest (cause.Fault fault) =
    (text : List ℕ) × (more : TextLines) × (rest ≡ line_then text more) × rules.ComesTo answer text (Err fault)
NextIsBad rules answer rest cause.TooLong = rest ≡ ended too_long
NextIsBad rules answer rest cause.NoEol = rest ≡ ended no_eol
NextIsBad rules answer rest cause.TooMany = rest ≡ ended too_many

-- the exit of a run by what is left of the positions: nothing, or a bad line
abbrev pub EndsPositions : {A I : Type 0} → PositionRules A I → A → List I → TextLines → Exit → Type 0
EndsPositions rules answer items rest Done = rest ≡ ended at_end
EndsPositions rules answer items rest (BadPositions number why) =
    (number ≡ length items + 1) × NextIsBad rules answer rest why
EndsPositions rules answer items rest _ = ⊥

-- the last lines come where no line of positions is bad
abbrev pub if_done : Exit → Text → Text
if_done Done text = text
if_done _ text = []

-- the run over the events of a feed with no bad line: the opening's certificate, its line, those of the positions, and
-- the last lines
pub record SettlesOpening {A I : Type 0} (rules : PositionRules A I) (events : List Event) (positions : TextLines)
    (exit : Exit) (out certs : Text) : Type 0 where
  pub answer : A
  pub is_opening : rules.IsOpening events answer
  pub items : List I
  pub rest : TextLines
  pub before : SettledBefore rules answer positions items rest
  pub ends : EndsPositions rules answer items rest exit
  pub out_is : out ≡ settled_text rules answer items ++ if_done exit (rules.last_lines answer items)
  pub certs_are : certs ≡ rules.certificate answer

-- where the feed has a bad line, the run ends at it and sends nothing
abbrev pub RunsUnlessBad : {A I : Type 0} → PositionRules A I → Option BadLine → List Event → TextLines → Exit
    → Text → Text → Type 0
RunsUnlessBad rules None events positions exit out certs = SettlesOpening rules events positions exit out certs
RunsUnlessBad rules (Some bad) events positions exit out certs =
    (why : FeedCause) × (exit ≡ BadFeed bad.line why) × (bad.cause ≡ bad_cause why) × (out ≡ []) × (certs ≡ [])

-- the run over a feed and lines of positions: its exit, and the texts that it sends to the output and to the file of
-- certificates
abbrev pub RunsPositions : {A I : Type 0} → PositionRules A I → Reading → TextLines → Exit → Text → Text → Type 0
RunsPositions rules feed positions exit out certs =
    RunsUnlessBad rules feed.bad feed.events positions exit out certs

-- ---- a run that is cut off

-- what the opening and first lines of positions give; the last lines only where these are all and none is bad
pub record GivesOpening {A I : Type 0} (rules : PositionRules A I) (events : List Event) (positions : TextLines)
    (out certs : Text) : Type 0 where
  pub answer : A
  pub is_opening : rules.IsOpening events answer
  pub items : List I
  pub rest : TextLines
  pub before : SettledBefore rules answer positions items rest
  pub last : Text
  pub last_is : (last ≡ []) ⊎ ((rest ≡ ended at_end) × (last ≡ rules.last_lines answer items))
  pub out_is : out ≡ settled_text rules answer items ++ last
  pub certs_are : certs ≡ rules.certificate answer

-- first parts of it, over a feed with no bad line; where any of the output was sent, the certificate is whole
pub record GivesOpeningPart {A I : Type 0} (rules : PositionRules A I) (feed : Reading) (positions : TextLines)
    (out certs : Text) : Type 0 where
  pub no_bad : feed.bad ≡ None
  pub out_more : Text
  pub certs_more : Text
  pub gives : GivesOpening rules feed.events positions (out ++ out_more) (certs ++ certs_more)
  pub whole : (out ≡ []) ⊎ (certs_more ≡ [])

-- nothing is sent before the feed is read to its end
abbrev pub GivesPositionParts : {A I : Type 0} → PositionRules A I → Reading → TextLines → Text → Text → Type 0
GivesPositionParts rules feed positions out certs =
    ((out ≡ []) × (certs ≡ [])) ⊎ GivesOpeningPart rules feed positions out certs

-- what a run sends, by its exit: after a failed call or for want of memory first parts of the texts
abbrev pub RunsPositionsIf : {A I : Type 0} → PositionRules A I → Reading → TextLines → Exit → Text → Text → Bool
    → Type 0
RunsPositionsIf rules feed positions exit out certs true = GivesPositionParts rules feed positions out certs
RunsPositionsIf rules feed positions exit out certs false = RunsPositions rules feed positions exit out certs

abbrev pub RunsPositionsBy : {A I : Type 0} → PositionRules A I → Reading → TextLines → Exit → Text → Text → Type 0
RunsPositionsBy rules feed positions exit out certs =
    RunsPositionsIf rules feed positions exit out certs (is_cut exit)
