-- A whole run.
use Rattle.std.specs.Prelude.{◌≡◌, ◌⊎◌, ℕ, Bool, true, List, [], Option, Some, None, IsTrue, IfSome, false}
use Rattle.std.specs.Option.{option_map}
use Rattle.vx_desk.specs.Told.{Told}
use Rattle.vx_desk.specs.declared.device.Slot.{Slot}
use Rattle.vx_desk.specs.declared.device.Slot.TheVariants.{Feed, Side, Out, Certs}
use Rattle.vx_lines.specs.TextLines.{TextLines}
use Rattle.vx_feed.specs.Feed.{Reading, reading_of}
use Rattle.vx_make.specs.Feed.{make_text}
use Rattle.vx_reading.specs.FeedReading.{Says, feed_told}
use Rattle.vx_drivers.specs.declared.exit.Exit.{Exit}
use Rattle.vx_drivers.specs.declared.exit.Exit.TheVariants.{Done, OpenFault, WriteFault, NoMemory}
use Rattle.vx_drivers.specs.CertificateExits.{IsCertificateExit}
use Rattle.vx_drivers.specs.CertificateRun.{RunsBy, certificates_of}
use Rattle.vx_drivers.specs.CertificateSteps.{AnswersLinesRead, EndsCertificates, IfBoth}
use Rattle.vx_drivers.specs.Exits.{is_cut}
use Rattle.vx_drivers.specs.Held.{Held, held_in}
use Rattle.vx_drivers.specs.PositionExits.{IsPositionExit}
use Rattle.vx_drivers.specs.PositionRun.{RunsPositionsBy, positions_of}
use Rattle.vx_drivers.specs.PositionSteps.{HasEndedPositions, SettlesNothingOrRead, positions_told}
use Rattle.vx_drivers.specs.Sending.{Sent, SentPart, Text}
use Rattle.vx_drivers.specs.TickExits.{IsTickExit}
use Rattle.vx_drivers.specs.TickRun.{RunsTicksBy}
use Rattle.vx_drivers.specs.TickSteps.{AnswersEventsRead, HasEndedTicks}
use Rattle.vx_cli.specs.CheckRuns.{check_rules}
use Rattle.vx_cli.specs.DrillText.{Drills}
use Rattle.vx_cli.specs.ReplayRuns.{replay_rules}
use Rattle.vx_cli.specs.SettleRuns.{settle_rules}
use Rattle.vx_cli.specs.Words.{Command, check, drill, make, replay, settle}

-- ---- how a command ends

-- an open of one of its two slots fails, or it ends as a run that answers ticks does
abbrev pub IsReplayExit : Exit → Type 0
IsReplayExit (OpenFault Feed) = Unit {0}
IsReplayExit (OpenFault Certs) = Unit {0}
IsReplayExit exit = IsTickExit exit

-- an open of one of its two slots fails, or it ends as a run that answers certificates does
abbrev pub IsCheckExit : Exit → Type 0
IsCheckExit (OpenFault Feed) = Unit {0}
IsCheckExit (OpenFault Side) = Unit {0}
IsCheckExit exit = IsCertificateExit exit

-- an open of one of its three slots fails, or it ends as a run that settles positions does
abbrev pub IsSettleExit : Exit → Type 0
IsSettleExit (OpenFault Feed) = Unit {0}
IsSettleExit (OpenFault Side) = Unit {0}
IsSettleExit (OpenFault Certs) = Unit {0}
IsSettleExit exit = IsPositionExit exit

-- how `make` and `drill` end: all is sent, memory is wanting, or a write of the output fails
abbrev pub IsMakeExit : Exit → Type 0
IsMakeExit Done = Unit {0}
IsMakeExit NoMemory = Unit {0}
IsMakeExit (WriteFault Out) = Unit {0}
IsMakeExit _ = ⊥

-- an exit that the command may have
abbrev pub IsExitOf : Exit → Command → Type 0
IsExitOf exit (replay feed certs) = IsReplayExit exit
IsExitOf exit (check feed certs) = IsCheckExit exit
IsExitOf exit (settle feed positions certs) = IsSettleExit exit
IsExitOf exit (make number ticks) = IsMakeExit exit
IsExitOf exit (drill number ticks) = IsMakeExit exit

-- ---- which slots are open at its end

-- the slot is not open
abbrev pub IsShut : Told → Type 0
IsShut told = told.is_open ≡ false

-- no slot but the output is open
abbrev pub OpensNothing : (Slot → Told) → Type 0
OpensNothing told = IsShut (told Feed) × IsShut (told Side) × IsShut (told Certs)

-- the slot is open, and where its name is told it is this one
abbrev pub IsOpenAs : List ℕ → Told → Type 0
IsOpenAs name told = IsTrue told.is_open × IfSome told.name (λ bytes. bytes ≡ name)

-- both files of `replay` are open
abbrev pub OpensToWrite : Text → Text → (Slot → Told) → Type 0
OpensToWrite feed certs told = IsOpenAs feed (told Feed) × IsShut (told Side) × IsOpenAs certs (told Certs)

-- what `replay` leaves open, by its exit: it opens the feed and then the file of certificates, unless memory is wanting
-- before it opens any
abbrev pub OpensToReplay : Text → Text → (Slot → Told) → Exit → Type 0
OpensToReplay feed certs told (OpenFault Feed) = OpensNothing told
OpensToReplay feed certs told (OpenFault Certs) = IsOpenAs feed (told Feed) × IsShut (told Side) × IsShut (told Certs)
OpensToReplay feed certs told NoMemory = OpensNothing told ⊎ OpensToWrite feed certs told
OpensToReplay feed certs told _ = OpensToWrite feed certs told

-- both files of `check` are open
abbrev pub OpensBoth : Text → Text → (Slot → Told) → Type 0
OpensBoth feed certs told = IsOpenAs feed (told Feed) × IsOpenAs certs (told Side) × IsShut (told Certs)

-- what `check` leaves open, by its exit: it opens the feed and then the certificates, unless memory is wanting before it
-- opens any
abbrev pub OpensToCheck : Text → Text → (Slot → Told) → Exit → Type 0
OpensToCheck feed certs told (OpenFault Feed) = OpensNothing told
OpensToCheck feed certs told (OpenFault Side) = IsOpenAs feed (told Feed) × IsShut (told Side) × IsShut (told Certs)
OpensToCheck feed certs told NoMemory = OpensNothing told ⊎ OpensBoth feed certs told
OpensToCheck feed certs told _ = OpensBoth feed certs told

-- all three files of `settle` are open
abbrev pub OpensAllThree : Text → Text → Text → (Slot → Told) → Type 0
OpensAllThree feed positions certs told =
    IsOpenAs feed (told Feed) × IsOpenAs positions (told Side) × IsOpenAs certs (told Certs)

-- what `settle` leaves open, by its exit: it opens the feed, then the positions and then the file of certificates,
-- unless memory is wanting before it opens any
abbrev pub OpensToSettle : Text → Text → Text → (Slot → Told) → Exit → Type 0
OpensToSettle feed positions certs told (OpenFault Feed) = OpensNothing told
OpensToSettle feed positions certs told (OpenFault Side) =
    IsOpenAs feed (told Feed) × IsShut (told Side) × IsShut (told Certs)
OpensToSettle feed positions certs told (OpenFault Certs) =
    IsOpenAs feed (told Feed) × IsOpenAs positions (told Side) × IsShut (told Certs)
OpensToSettle feed positions certs told NoMemory = OpensNothing told ⊎ OpensAllThree feed positions certs told
OpensToSettle feed positions certs told _ = OpensAllThree feed positions certs told

-- each slot that a command opens is opened with the word that names it, and no other slot is opened
abbrev pub OpensFor : Option Command → (Slot → Told) → Exit → Type 0
OpensFor None told exit = OpensNothing told
OpensFor (Some (replay feed certs)) told exit = OpensToReplay feed certs told exit
OpensFor (Some (check feed certs)) told exit = OpensToCheck feed certs told exit
OpensFor (Some (settle feed positions certs)) told exit = OpensToSettle feed positions certs told exit
OpensFor (Some (make number ticks)) told exit = OpensNothing told
OpensFor (Some (drill number ticks)) told exit = OpensNothing told

-- ---- what it sends

-- what a run of `make` sends, by its exit: the whole feed, or nothing for want of memory, or a first part
-- of the feed before a write that failed; it has no other exit
abbrev pub Makes : ℕ → ℕ → Told → Told → Exit → Type 0
Makes number ticks before after Done = Sent (make_text number ticks) before after
Makes number ticks before after NoMemory = after.sent ≡ before.sent
Makes number ticks before after (WriteFault Out) = SentPart (make_text number ticks) before after
Makes number ticks before after _ = ⊥

-- what a run of `drill` sends, by its exit: its whole line, or nothing for want of memory, or a first part of the line
-- before a write that failed; it has no other exit
abbrev pub DrillsTo : ℕ → ℕ → Told → Told → Exit → Type 0
DrillsTo number ticks before after Done = (line : Text) × Drills number ticks line × Sent line before after
DrillsTo number ticks before after NoMemory = after.sent ≡ before.sent
DrillsTo number ticks before after (WriteFault Out) =
    (line : Text) × Drills number ticks line × SentPart line before after
DrillsTo number ticks before after _ = ⊥

-- a text is all that was sent to a slot since its opening, where what was sent is told; to a slot that is not open
-- nothing was sent
abbrev pub SentIfOpen : Bool → Text → Told → Told → Type 0
SentIfOpen true text before after = after.sent ≡ option_map (λ bytes. text) before.sent
SentIfOpen false text before after = (text ≡ []) × (after.sent ≡ before.sent)

-- what a run of `check` sends that is cut off, by whether it has opened its certificates: nothing, or the answers to
-- first lines, which were read by then, or where a write failed a first part of them
abbrev pub ChecksLinesRead : Held → (Slot → Told) → Exit → Text → Bool → Type 0
ChecksLinesRead held after exit text false = text ≡ []
ChecksLinesRead held after exit text true =
    AnswersLinesRead check_rules held (option_map reading_of held.feed) (option_map certificates_of held.side) after exit text

-- what a run of `check` sends, by its exit, over the bytes that its two files held, where they are told: the text of a run
-- that ends so; or where a call fails or memory is wanting, a first part of it, which the lines give that were read
pub record HasChecked (held : Held) (before after : Slot → Told) (exit : Exit) : Type 0 where
  pub text : Text
  pub sent : Sent text (before Out) (after Out)
  pub runs : IfBoth (option_map reading_of held.feed) (option_map certificates_of held.side)
      (λ feed certs. RunsBy check_rules feed certs text exit)
  pub cut : is_cut exit ≡ true → ChecksLinesRead held after exit text (after Side).is_open

-- the same over the bytes that the two names hold
abbrev pub ChecksFiles : Text → Text → (List ℕ → Option (List ℕ)) → (Slot → Told) → (Slot → Told) → Exit → Type 0
ChecksFiles feed certs holds before after exit =
    HasChecked (record { feed = holds feed; side = holds certs }) before after exit

-- the same of two files that are open
abbrev pub ChecksOpen : (Slot → Told) → (Slot → Told) → Exit → Type 0
ChecksOpen before after exit = EndsCertificates check_rules before after exit

-- what a run of `replay` sends that is cut off, by whether it has opened the file of certificates: nothing, or the answers to
-- first ticks, which were read by then, each with its certificate, or where a write failed a first part of them
abbrev pub ReplaysEventsRead : Option (List ℕ) → (Slot → Told) → Exit → Text → Text → Bool → Type 0
ReplaysEventsRead held after exit out certs false = (out ≡ []) × (certs ≡ [])
ReplaysEventsRead held after exit out certs true =
    AnswersEventsRead replay_rules held (option_map reading_of held) after exit out certs

-- what a run of `replay` sends over the bytes that its feed held, those that are told, or some feed where none are: to the
-- output and to the file of certificates the two texts of a run that ends so; or where a call fails or memory is wanting,
-- first parts of them, which the lines give that were read, each certificate whole whose line was begun
pub record HasReplayed (held : Option (List ℕ)) (before after : Slot → Told) (exit : Exit) : Type 0 where
  pub over : Reading
  pub feed_is : Says (option_map reading_of held) over
  pub out : Text
  pub certs : Text
  pub runs : RunsTicksBy replay_rules over exit out certs
  pub out_sent : Sent out (before Out) (after Out)
  pub certs_sent : SentIfOpen (after Certs).is_open certs (before Certs) (after Certs)
  pub cut : is_cut exit ≡ true → ReplaysEventsRead held after exit out certs (after Certs).is_open

-- the same of files that are open
abbrev pub ReplaysOpen : (Slot → Told) → (Slot → Told) → Exit → Type 0
ReplaysOpen before after exit =
    HasEndedTicks replay_rules (before Feed).left (feed_told before) before after exit

-- the same over the bytes that the feed's name holds
abbrev pub ReplaysFile : Text → (List ℕ → Option (List ℕ)) → (Slot → Told) → (Slot → Told) → Exit → Type 0
ReplaysFile feed holds before after exit = HasReplayed (holds feed) before after exit

-- what a run of `settle` sends that is cut off, by whether it has opened the file of certificates: nothing, or what the
-- opening and first lines of positions give, which were read by then, or where a write failed a first part of it
abbrev pub SettlesWhatWasRead : Held → (Slot → Told) → Exit → Text → Text → Bool → Type 0
SettlesWhatWasRead held after exit out certs false = (out ≡ []) × (certs ≡ [])
SettlesWhatWasRead held after exit out certs true =
    SettlesNothingOrRead settle_rules held (option_map reading_of held.feed) (option_map positions_of held.side) after exit out certs

-- what a run of `settle` sends over the bytes that its feed and its positions held, those that are told, or some where none
-- are: to the output and to the file of certificates the two texts of a run that ends so; or where a call fails or memory
-- is wanting, first parts of them, which the lines give that were read, the certificate whole where anything of the output
-- was sent
pub record HasSettled (held : Held) (before after : Slot → Told) (exit : Exit) : Type 0 where
  pub over : Reading
  pub feed_is : Says (option_map reading_of held.feed) over
  pub lines : TextLines
  pub lines_are : IfSome (option_map positions_of held.side) (λ told. told ≡ lines)
  pub out : Text
  pub certs : Text
  pub runs : RunsPositionsBy settle_rules over lines exit out certs
  pub out_sent : Sent out (before Out) (after Out)
  pub certs_sent : SentIfOpen (after Certs).is_open certs (before Certs) (after Certs)
  pub cut : is_cut exit ≡ true → SettlesWhatWasRead held after exit out certs (after Certs).is_open

-- the same of files that are open
abbrev pub SettlesOpen : (Slot → Told) → (Slot → Told) → Exit → Type 0
SettlesOpen before after exit =
    HasEndedPositions settle_rules (held_in before) (feed_told before) (positions_told before) before after exit

-- the same over the bytes that the names of the feed and of the positions hold
abbrev pub SettlesFiles : Text → Text → (List ℕ → Option (List ℕ)) → (Slot → Told) → (Slot → Told) → Exit → Type 0
SettlesFiles feed positions holds before after exit =
    HasSettled (record { feed = holds feed; side = holds positions }) before after exit

-- what a command sends, by the exit of its run: `check`, `make` and `drill` to the output alone
abbrev pub SendsFor : Option Command → (List ℕ → Option (List ℕ)) → (Slot → Told) → (Slot → Told) → Exit → Type 0
SendsFor None holds before after exit = (after Out).sent ≡ (before Out).sent
SendsFor (Some (replay feed certs)) holds before after exit = ReplaysFile feed holds before after exit
SendsFor (Some (check feed certs)) holds before after exit = ChecksFiles feed certs holds before after exit
SendsFor (Some (settle feed positions certs)) holds before after exit =
    SettlesFiles feed positions holds before after exit
SendsFor (Some (make number ticks)) holds before after exit = Makes number ticks (before Out) (after Out) exit
SendsFor (Some (drill number ticks)) holds before after exit = DrillsTo number ticks (before Out) (after Out) exit
