-- The steps of a run that answers certificates.
use Rattle.std.specs.Prelude.{◌≡◌, ◌≢◌, ◌⊎◌, ℕ, ◌+◌, ◌-◌, ◌==◌, ◌≤◌, Bool, true, false, List, [], ◌++◌, length, Option, Some, None, IfOk, IfSome, Result, Ok, Err, if◌then◌else◌}
use Rattle.std.specs.Option.{option_map}
use Rattle.vx_num.specs.declared.fault.NoMemory.{NoMemory}
use Rattle.std.specs.Io.KnownBytes.{prepend_known}
use Rattle.vx_lines.specs.TextLines.{TextLines, at_end, at_most, ended, lines_then, text_of}
use Rattle.vx_desk.specs.declared.device.Slot.{Slot}
use Rattle.vx_desk.specs.declared.device.Slot.TheVariants.{Feed, Side, Out}
use Rattle.vx_desk.specs.Told.{Told}
use Rattle.vx_desk.specs.Lines.{ReaderState, to_come}
use Rattle.vx_desk.specs.Coming.{coming}
use Rattle.vx_feed.specs.declared.events.Event.{Event}
use Rattle.vx_feed.specs.Feed.{Reading}
use Rattle.vx_feed.specs.Order.{AreLawful}
use Rattle.vx_reading.specs.declared.stop.FeedCause.{FeedCause}
use Rattle.vx_reading.specs.FeedReading.{IsAt, IsReadTo, Says, all_good, feed_told}
use Rattle.vx_reading.specs.WhatWasRead.{EventsRead, IsCutAfter, WereRead}
use Rattle.vx_reading.specs.Stops.{bad_cause}
use Rattle.vx_drivers.specs.declared.check_run.CheckRun.{CheckRun}
use Rattle.vx_drivers.specs.declared.exit.Exit.{Exit}
use Rattle.vx_drivers.specs.declared.exit.Exit.TheVariants.{Done, SaidNo, BadFeed, ReadFault}
use Rattle.vx_drivers.specs.declared.limits.TheConstants.{CERT_LINES_MAX, CERT_LINE_LEN_MAX}
use Rattle.vx_drivers.specs.Along.{Along}
use Rattle.vx_drivers.specs.Answers.{Answer, answer_of, answer_text, answers_text, count_no, count_yes, end_text}
use Rattle.vx_drivers.specs.CertificateRun.{Rules, Stand, Answers, RunsBy, Stops, answered, certificates_of, start}
use Rattle.vx_drivers.specs.Exits.{is_cut, is_write_fault}
use Rattle.vx_drivers.specs.Held.{Held, held_in}
use Rattle.vx_drivers.specs.Sending.{Begins, CutsOff, Sent, Text}

-- what the certificates are, where their desk tells them
abbrev pub certs_told : (Slot → Told) → Option TextLines
certs_told told = option_map certificates_of (told Side).left

-- what a line is read as: a certificate, or the word for why it is none
abbrev pub read_as : {C : Type 0} → Option C → Text → Result C Text
read_as (Some c) word = Ok c
read_as None word = Err word

-- what has taken up the events up to the line that a certificate names, a lawful list, gives it this answer: whether it
-- is yes, and its words
abbrev pub JudgesBy : {C B : Type 0} → Rules C → (B → List Event → Type 0) → B → C → Text → Result Bool NoMemory
    → Type 0
JudgesBy rules StandsFor book certificate words result =
    (events : List Event) → StandsFor book events → AreLawful events → length events ≤ rules.named certificate
    → IfOk result (λ holds. rules.Judges events certificate (answer_of holds words))

-- how many lines a run has answered
abbrev pub answered_lines : {B : Type 0} → CheckRun B → ℕ
answered_lines run = run.yes + run.no

-- ---- one line

-- a run between two lines
pub record StandsBetweenLines {B : Type 0} (StandsFor : B → List Event → Type 0) (held : Option (List ℕ)) (feed : Option Reading)
    (stand : Stand) (run : CheckRun B) (told : Slot → Told) : Type 0 where
  pub events : List Event
  pub at : IsAt StandsFor held feed events run.feed told
  pub read_to : IfSome feed (IsReadTo stand.reached events)
  pub reached : run.reached ≡ stand.reached
  pub not_past : length events ≤ stand.reached
  pub yes : run.yes ≡ count_yes stand.answers
  pub no : run.no ≡ count_no stand.answers

abbrev pub IsBetweenLines : {B : Type 0} → (B → List Event → Type 0) → CheckRun B → (Slot → Told) → Type 0
IsBetweenLines StandsFor run told =
    (held : Option (List ℕ)) × (feed : Option Reading) × (stand : Stand) × StandsBetweenLines StandsFor held feed stand run told

-- a line has this answer, by which the run stands at the next line
pub record IsAnswered {C B : Type 0} (rules : Rules C) (StandsFor : B → List Event → Type 0) (held : Option (List ℕ))
    (feed : Option Reading) (old : Stand) (line : List ℕ) (answer : Answer) (run : CheckRun B)
    (told : Slot → Told) : Type 0 where
  pub reached : ℕ
  pub answers : IfSome feed (λ f. Answers rules f old line (answered old answer reached))
  pub events : List Event
  pub at : IsAt StandsFor held feed events run.feed told
  pub read_to : IfSome feed (IsReadTo reached events)
  pub reached_is : run.reached ≡ reached
  pub not_past : length events ≤ reached

-- the feed's bad line ends the run at a line
pub record EndsForFeed {C : Type 0} (rules : Rules C) (feed : Option Reading) (stand : Stand) (line : List ℕ)
    (exit : Exit) : Type 0 where
  pub number : ℕ
  pub why : FeedCause
  pub exit_is : exit ≡ BadFeed number why
  pub bad : IfSome feed (λ f. f.bad ≡ Some (record { line = number; cause = bad_cause why }))
  pub stops : IfSome feed (λ f. Stops rules f stand line)

-- a run is cut off, and not by a read of the certificates
pub record IsCutElsewhere (exit : Exit) : Type 0 where
  pub cut : is_cut exit ≡ true
  pub not_lines : exit ≢ ReadFault Side

-- the run ends at a line before it is answered: it is cut off, or the feed ends it
abbrev pub EndsBefore : {C : Type 0} → Rules C → Option Reading → Stand → List ℕ → Exit → Type 0
EndsBefore rules feed stand line exit = IsCutElsewhere exit ⊎ EndsForFeed rules feed stand line exit

-- what comes of a line
abbrev pub ComesOf : {C B : Type 0} → Rules C → (B → List Event → Type 0) → Option (List ℕ) → Option Reading → Stand
    → List ℕ → Text → CheckRun B → (Slot → Told) → Result Bool Exit → Type 0
ComesOf rules StandsFor held feed stand line words run told (Ok holds) =
    IsAnswered rules StandsFor held feed stand line (answer_of holds words) run told
ComesOf rules StandsFor held feed stand line words run told (Err exit) = EndsBefore rules feed stand line exit

-- what comes of a line that a run reads
abbrev pub ComesOfLine : {C B : Type 0} → Rules C → (B → List Event → Type 0) → List ℕ → CheckRun B → (Slot → Told)
    → CheckRun B → (Slot → Told) → Result Bool Exit → Type 0
ComesOfLine rules StandsFor line old before new after result =
    (held : Option (List ℕ)) (feed : Option Reading) (stand : Stand) → StandsBetweenLines StandsFor held feed stand old before
    → ComesOf rules StandsFor held feed stand line new.words.items new after result

-- the output line of the next answer, of which the words are in hand
abbrev pub next_line : {B : Type 0} → CheckRun B → Bool → Text
next_line run holds = answer_text (answered_lines run + 1) (answer_of holds run.words.items)

-- the line of the answer that comes next
abbrev pub next_text : Stand → Answer → Text
next_text stand answer = answer_text (length stand.answers + 1) answer

-- the answer to a line was sent
pub record SendsAnswer {C B : Type 0} (rules : Rules C) (StandsFor : B → List Event → Type 0) (held : Option (List ℕ))
    (feed : Option Reading) (stand : Stand) (line : List ℕ) (run : CheckRun B)
    (before after : Slot → Told) : Type 0 where
  pub answer : Answer
  pub reached : ℕ
  pub answers : IfSome feed (λ f. Answers rules f stand line (answered stand answer reached))
  pub between : StandsBetweenLines StandsFor held feed (answered stand answer reached) run after
  pub sent : Sent (next_text stand answer) (before Out) (after Out)

-- a write of it failed, when the feed was read up to the line that is then reached
pub record CutsAnswer {C : Type 0} (rules : Rules C) (held : Option (List ℕ)) (feed : Option Reading) (stand : Stand)
    (line : List ℕ) (before after : Slot → Told) (exit : Exit) : Type 0 where
  pub answer : Answer
  pub reached : ℕ
  pub answers : IfSome feed (λ f. Answers rules f stand line (answered stand answer reached))
  pub events : List Event
  pub events_read : EventsRead events held (after Feed)
  pub read_to : IfSome feed (IsReadTo reached events)
  pub cut : CutsOff Out (next_text stand answer) (before Out) (after Out) exit

-- the run ends at a line, with nothing sent for it, or with a part of its answer
abbrev pub EndsAtLine : {C : Type 0} → Rules C → Option (List ℕ) → Option Reading → Stand → List ℕ → (Slot → Told)
    → (Slot → Told) → Exit → Type 0
EndsAtLine rules held feed stand line before after exit =
    (EndsBefore rules feed stand line exit × (after Out ≡ before Out))
    ⊎ CutsAnswer rules held feed stand line before after exit

abbrev pub AnswersLine : {C B : Type 0} → Rules C → (B → List Event → Type 0) → Option (List ℕ) → Option Reading → Stand
    → List ℕ → CheckRun B → (Slot → Told) → (Slot → Told) → Result Unit Exit → Type 0
AnswersLine rules StandsFor held feed stand line run before after (Ok _) =
    SendsAnswer rules StandsFor held feed stand line run before after
AnswersLine rules StandsFor held feed stand line run before after (Err exit) =
    EndsAtLine rules held feed stand line before after exit

-- a line that a run reads is answered
abbrev pub AnswersNextLine : {C B : Type 0} → Rules C → (B → List Event → Type 0) → List ℕ → CheckRun B → (Slot → Told)
    → CheckRun B → (Slot → Told) → Result Unit Exit → Type 0
AnswersNextLine rules StandsFor line old before new after result =
    (held : Option (List ℕ)) (feed : Option Reading) (stand : Stand) → StandsBetweenLines StandsFor held feed stand old before
    → AnswersLine rules StandsFor held feed stand line new before after result

-- ---- from the start of the run

-- the first lines are answered and their answers sent, and these are to come
pub record IsUnderWay {C B : Type 0} (rules : Rules C) (StandsFor : B → List Event → Type 0) (held : Held)
    (feed : Option Reading) (certs : Option TextLines) (before : Told) (run : CheckRun B) (reader : ReaderState)
    (now : Slot → Told) (rest : Option TextLines) : Type 0 where
  pub stand : Stand
  pub lines : List (List ℕ)
  pub read : held.side ≡ prepend_known (text_of lines) (to_come reader (now Side))
  pub are_first : certs ≡ option_map (lines_then lines) rest
  pub steps : IfSome feed (λ f. Along (Answers rules f) start lines stand)
  pub between : StandsBetweenLines StandsFor held.feed feed stand run now
  pub sent : Sent (answers_text stand.answers) before (now Out)

-- a fact about a feed and certificates that are told
abbrev pub IfBoth : Option Reading → Option TextLines → (Reading → TextLines → Type 0) → Type 0
IfBoth feed certs P = IfSome feed (λ f. IfSome certs (λ c. P f c))

-- the last line is due: the feed was read to its end and has no bad line, and no line of certificates is left
pub record IsLastDue (held : Held) (feed : Option Reading) (certs : Option TextLines) (after : Slot → Told)
    (lines : List (List ℕ)) : Type 0 where
  pub events : List Event
  pub events_read : EventsRead events held.feed (after Feed)
  pub no_bad : Says feed (all_good events)
  pub no_line : IfSome certs (λ told. told ≡ lines_then lines (ended at_end))

-- a run was cut off: it sent the answers to first lines, which were read by then, or where a write failed a first part of
-- them; a line that names a line of the feed counts as read once the feed was read up to there, or to its end; and where a
-- read of the lines failed, no more was read behind them than a part of a line
pub record AnswersLinesRead {C : Type 0} (rules : Rules C) (held : Held) (feed : Option Reading)
    (certs : Option TextLines) (after : Slot → Told) (exit : Exit) (text : Text) : Type 0 where
  pub stand : Stand
  pub lines : List (List ℕ)
  pub steps : IfSome feed (λ f. Along (Answers rules f) start lines stand)
  pub lines_read : WereRead lines held.side (after Side)
  pub events : List Event
  pub events_read : EventsRead events held.feed (after Feed)
  pub read_to : IfSome feed (IsReadTo stand.reached events)
  pub last : Text
  pub last_is : (last ≡ []) ⊎ (IsLastDue held feed certs after lines × (last ≡ end_text stand.answers))
  pub part : Begins text (answers_text stand.answers ++ last)
  pub whole : is_write_fault exit ≡ false → text ≡ answers_text stand.answers
  pub cut : exit ≡ ReadFault Side → IsCutAfter lines CERT_LINE_LEN_MAX held.side (after Side)

-- the run ended with this exit, and sent what it gives; and where it was cut off, what the lines give that were read
pub record HasEnded {C : Type 0} (rules : Rules C) (held : Held) (feed : Option Reading) (certs : Option TextLines)
    (before : Told) (after : Slot → Told) (exit : Exit) : Type 0 where
  pub text : Text
  pub sent : Sent text before (after Out)
  pub runs : IfBoth feed certs (λ f c. RunsBy rules f c text exit)
  pub cut : is_cut exit ≡ true → AnswersLinesRead rules held feed certs after exit text

-- the lines that are to come, as many as there may be after so many
abbrev pub allowed : ℕ → ReaderState → (Slot → Told) → Option TextLines
allowed count reader told = option_map (at_most (CERT_LINES_MAX - count)) (coming reader told)

-- all lines are answered and their answers sent
abbrev pub IsThrough : {C B : Type 0} → Rules C → (B → List Event → Type 0) → Held → Option Reading → Option TextLines
    → Told → CheckRun B → (Slot → Told) → Type 0
IsThrough rules StandsFor held feed certs before run now =
    (reader : ReaderState) × (rest : Option TextLines)
    × IsUnderWay rules StandsFor held feed certs before run reader now rest × IfSome rest (λ lines. lines ≡ ended at_end)

-- one line more is answered, or none is left, or the run ended
abbrev pub GoesOn : {C B : Type 0} → Rules C → (B → List Event → Type 0) → Held → Option Reading → Option TextLines
    → Told → CheckRun B → ReaderState → (Slot → Told) → Option TextLines → Result Bool Exit → Type 0
GoesOn rules StandsFor held feed certs before run reader now rest (Ok true) =
    IsUnderWay rules StandsFor held feed certs before run reader now rest
GoesOn rules StandsFor held feed certs before run reader now rest (Ok false) =
    IsThrough rules StandsFor held feed certs before run now
GoesOn rules StandsFor held feed certs before run reader now rest (Err exit) =
    HasEnded rules held feed certs before now exit

-- all lines are answered, or the run ended
abbrev pub AnswersAll : {C B : Type 0} → Rules C → (B → List Event → Type 0) → Held → Option Reading → Option TextLines
    → Told → CheckRun B → (Slot → Told) → Result Unit Exit → Type 0
AnswersAll rules StandsFor held feed certs before run now (Ok _) = IsThrough rules StandsFor held feed certs before run now
AnswersAll rules StandsFor held feed certs before run now (Err exit) = HasEnded rules held feed certs before now exit

-- the exit of a run that read and sent all, by how many lines got a no
abbrev pub said_exit : ℕ → Exit
said_exit count = if count == 0 then Done else SaidNo count

-- ---- the clauses of a run

-- nothing was read
pub record IsNew {B : Type 0} (StandsFor : B → List Event → Type 0) (run : CheckRun B) : Type 0 where
  pub feed : (told : Slot → Told) → IsAt StandsFor (told Feed).left (feed_told told) [] run.feed told
  pub reached : run.reached ≡ 0
  pub yes : run.yes ≡ 0
  pub no : run.no ≡ 0

-- a run that may go on over the lines that are to come to a reader of certificates
abbrev pub MayGoOn : {C B : Type 0} → Rules C → (B → List Event → Type 0) → CheckRun B → ReaderState → (Slot → Told)
    → Type 0
MayGoOn rules StandsFor run reader told =
    (held : Held) × (feed : Option Reading) × (certs : Option TextLines) × (before : Told)
    × IsUnderWay rules StandsFor held feed certs before run reader told (allowed (answered_lines run) reader told)

-- the next line is answered
abbrev pub GoesOneOn : {C B : Type 0} → Rules C → (B → List Event → Type 0) → CheckRun B → ReaderState → (Slot → Told)
    → CheckRun B → ReaderState → (Slot → Told) → Result Bool Exit → Type 0
GoesOneOn rules StandsFor old reader told new next now result =
    (held : Held) (feed : Option Reading) (certs : Option TextLines) (before : Told)
    → IsUnderWay rules StandsFor held feed certs before old reader told (allowed (answered_lines old) reader told)
    → GoesOn rules StandsFor held feed certs before new next now (allowed (answered_lines new) next now) result

-- all lines are answered
abbrev pub GoesToEnd : {C B : Type 0} → Rules C → (B → List Event → Type 0) → CheckRun B → ReaderState → (Slot → Told)
    → CheckRun B → (Slot → Told) → Result Unit Exit → Type 0
GoesToEnd rules StandsFor old reader told new now result =
    (held : Held) (feed : Option Reading) (certs : Option TextLines) (before : Told)
    → IsUnderWay rules StandsFor held feed certs before old reader told (allowed (answered_lines old) reader told)
    → AnswersAll rules StandsFor held feed certs before new now result

-- a run whose lines are all answered
abbrev pub MayEnd : {C B : Type 0} → Rules C → (B → List Event → Type 0) → CheckRun B → (Slot → Told) → Type 0
MayEnd rules StandsFor run told =
    (held : Held) × (feed : Option Reading) × (certs : Option TextLines) × (before : Told)
    × IsThrough rules StandsFor held feed certs before run told

-- the run ends behind the last line
abbrev pub EndsRun : {C B : Type 0} → Rules C → (B → List Event → Type 0) → CheckRun B → (Slot → Told) → (Slot → Told)
    → Exit → Type 0
EndsRun rules StandsFor run told now exit =
    (held : Held) (feed : Option Reading) (certs : Option TextLines) (before : Told)
    → IsThrough rules StandsFor held feed certs before run told
    → HasEnded rules held feed certs before now exit

-- the run over a feed and a file of certificates ended, and sent what it gives
abbrev pub EndsCertificates : {C : Type 0} → Rules C → (Slot → Told) → (Slot → Told) → Exit → Type 0
EndsCertificates rules before after exit =
    HasEnded rules (held_in before) (feed_told before) (certs_told before) (before Out) after exit
