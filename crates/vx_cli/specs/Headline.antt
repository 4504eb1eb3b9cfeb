-- The headline: what was sent is true, for any files and however the run ended. `sends` of `run` names every byte of a
-- run, and from it this follows: it is what one has to read to rely on an answer. It says less than `sends`: not that a
-- NO is needed, nor which of two lawful answers a tick gets, nor that a run that is not done had to end where it did.
use Rattle.std.specs.Prelude.{◌≡◌, ◌≢◌, ◌⊎◌, ℕ, ◌<◌, List, [], ◌∷◌, ◌++◌, length, map, take, codes, false, Option, Some, None, Ok}
use Rattle.std.specs.List.{All}
use Rattle.vx_clock.specs.declared.limits.TheConstants.{INDEX_DAYS, INDEX_WINDOW}
use Rattle.vx_desk.specs.declared.device.Slot.{Slot}
use Rattle.vx_desk.specs.declared.device.Slot.TheVariants.{Out, Certs}
use Rattle.vx_desk.specs.Told.{Told}
use Rattle.vx_feed.specs.declared.events.Event.{Event}
use Rattle.vx_feed.specs.Feed.{Reading, reading_of}
use Rattle.vx_feed.specs.Opening.{opening_time}
use Rattle.vx_cert.specs.declared.certificate.Certificate.{Certificate}
use Rattle.vx_cert.specs.Reading.{ReadsAs}
use Rattle.vx_claims.specs.declared.acceptance.Test.{Test}
use Rattle.vx_claims.specs.Test.{test_number}
use Rattle.vx_claims.specs.Accepts.{Accepts}
use Rattle.vx_claims.specs.Means.{Means}
use Rattle.vx_replay.specs.Lawful.{IsLawfulAnswer}
use Rattle.vx_soq.specs.declared.answer.OpeningAnswer.{OpeningAnswer}
use Rattle.vx_soq.specs.Lawful.{IsLawfulOpening}
use Rattle.vx_reading.specs.FeedReading.{is_met}
use Rattle.vx_drivers.specs.declared.exit.Exit.{Exit}
use Rattle.vx_drivers.specs.declared.exit.Exit.TheVariants.{Done}
use Rattle.vx_drivers.specs.Answers.{Answer, said_yes, said_no, answers_text, count_no, end_text}
use Rattle.vx_drivers.specs.CertificateRun.{certificates_of}
use Rattle.vx_drivers.specs.PositionRun.{items_from, positions_of}
use Rattle.vx_drivers.specs.Sending.{Begins, Sent, Text}
use Rattle.vx_drivers.specs.TickRun.{certificates_text, counts_text, lines_text}
use Rattle.vx_cli.specs.CheckRuns.{test_word, yes_words}
use Rattle.vx_cli.specs.ExitText.{field_word}
use Rattle.vx_cli.specs.ReplayRuns.{replay_rules}
use Rattle.vx_cli.specs.ReplayText.{Answered, Tick, ticks_of}
use Rattle.vx_cli.specs.Runs.{SentIfOpen}
use Rattle.vx_cli.specs.SettleRuns.{LineComesTo, settle_rules}
use Rattle.vx_cli.specs.SettleText.{Settled, figure_of, last_text, opening_certificate_text, opening_clock, opening_text}
use Rattle.vx_cli.specs.Words.{Command, check, replay, settle}

-- the items are those of the first lines, one a line in their order, and each is right for its line
abbrev pub AreOfLines : {A : Type 0} → (Text → A → Type 0) → List Text → List A → Type 0
AreOfLines IsRight lines [] = Unit {0}
AreOfLines IsRight [] (item ∷ items) = ⊥
AreOfLines IsRight (line ∷ lines) (item ∷ items) = IsRight line item × AreOfLines IsRight lines items

-- ---- check

-- a yes to a line: whoever wrote the line, it is a certificate, no line of the feed is bad up to the one that it names,
-- and over the events up to there it is accepted and means what it states: its figure is the formula's exact value over
-- the quotes then standing, rounded to hundredths. The yes repeats its minute and its figure
pub record IsTrueYes (feed : Reading) (line words : Text) : Type 0 where
  pub certificate : Certificate
  pub is_read : ReadsAs line (Ok certificate)
  pub none_bad : is_met certificate.line feed ≡ false
  pub accepted : Accepts (take certificate.line feed.events) certificate
  pub means : Means (take certificate.line feed.events) certificate
  pub words_are : words ≡ yes_words certificate

-- the words of a no: out of order, no JSON, the field at fault, or the first test that fails
abbrev pub IsNoWord : Text → Type 0
IsNoWord word = ((word ≡ codes "order") ⊎ (word ≡ codes "syntax"))
    ⊎ (((n : ℕ) × (word ≡ field_word n)) ⊎ ((test : Test) × (word ≡ test_word (test_number test))))

-- each yes is true, and a no says nothing but its word
abbrev pub IsTrueAnswer : Reading → Text → Answer → Type 0
IsTrueAnswer feed line (said_yes words) = IsTrueYes feed line words
IsTrueAnswer feed line (said_no word) = IsNoWord word

-- what `check` sent: true answers to the first lines of the certificates and then the line of their counts, or a first
-- part of that; a run is done only where every line got a yes, and all was sent
pub record ChecksTruly (feed : Reading) (lines : List Text) (exit : Exit) (sent : Text) : Type 0 where
  pub answers : List Answer
  pub are_true : AreOfLines (IsTrueAnswer feed) lines answers
  pub last : Text
  pub last_is : (last ≡ []) ⊎ (last ≡ end_text answers)
  pub begins : Begins sent (answers_text answers ++ last)
  pub done : exit ≡ Done → (length answers ≡ length lines) × (count_no answers ≡ 0)
      × (sent ≡ answers_text answers ++ end_text answers)

-- ---- replay

-- the answer to a tick is lawful over the events up to it: a figure that alone is the exact value rounded, with a
-- certificate that is accepted; the first refusal that holds; or undecided, with close ends around the exact value and
-- between them a boundary of rounding or a listed strike
abbrev pub IsTrueTick : List Event → Answered → Type 0
IsTrueTick events a =
    IsLawfulAnswer INDEX_DAYS INDEX_WINDOW (take a.tick.line events) a.tick.line a.tick.time a.answer

-- what `replay` sent: the lines of true answers to the first ticks in order and then the line of their counts, and the
-- certificates of the figures, or a first part of each, with the certificate whole of each answer whose line was begun;
-- a run is done only where the feed has no bad line, every tick got an answer, and all was sent
pub record ReplaysTruly (feed : Reading) (exit : Exit) (out certs : Text) : Type 0 where
  pub answers : List Answered
  pub later : List Tick
  pub in_order : ticks_of feed.events ≡ map (λ a. a.tick) answers ++ later
  pub are_true : All (IsTrueTick feed.events) answers
  pub last : Text
  pub last_is : (last ≡ []) ⊎ (last ≡ counts_text replay_rules answers)
  pub begins : Begins out (lines_text replay_rules answers ++ last)
  pub certs_begin : Begins certs (certificates_text replay_rules answers)
  pub on_file : (before : List Answered) (a : Answered) (after : List Answered)
      → answers ≡ before ++ a ∷ after → length (lines_text replay_rules before) < length out
      → Begins (certificates_text replay_rules (before ++ a ∷ [])) certs
  pub done : exit ≡ Done → (feed.bad ≡ None) × (later ≡ []) × (certs ≡ certificates_text replay_rules answers)
      × (out ≡ lines_text replay_rules answers ++ counts_text replay_rules answers)

-- ---- settle

-- the line of the answer to the opening, and behind it those of the first positions
abbrev pub opened_text : List Event → OpeningAnswer → List (Option Settled) → Text
opened_text events answer items =
    opening_text (opening_clock (opening_time events)) answer ++ items_from settle_rules 1 items

-- what `settle` sent: the line of a lawful answer to the opening, those of the first positions with their amounts at the
-- figure and then the last lines, and the figure's certificate, or a first part of each, with the certificate whole where
-- a line was begun; a run is done only where the feed has no bad line, every position was settled, and all was sent
pub record SettlesTruly (feed : Reading) (positions : List Text) (exit : Exit) (out certs : Text) : Type 0 where
  pub answer : OpeningAnswer
  pub is_true : IsLawfulOpening feed.events answer
  pub items : List (Option Settled)
  pub are_true : AreOfLines (λ line item. LineComesTo (figure_of answer) line (Ok item)) positions items
  pub last : Text
  pub last_is : (last ≡ []) ⊎ (last ≡ last_text (figure_of answer) items)
  pub begins : Begins out (opened_text feed.events answer items ++ last)
  pub certs_begin : Begins certs (opening_certificate_text answer)
  pub on_file : (out ≡ []) ⊎ (certs ≡ opening_certificate_text answer)
  pub done : exit ≡ Done → (feed.bad ≡ None) × (length items ≡ length positions)
      × (certs ≡ opening_certificate_text answer)
      × (out ≡ opened_text feed.events answer items ++ last_text (figure_of answer) items)

-- or nothing was sent, and the run is not done
abbrev pub SettlesNothing : Exit → Text → Text → Type 0
SettlesNothing exit out certs = (exit ≢ Done) × (out ≡ []) × (certs ≡ [])

-- ---- a run

-- the output was sent this text, and the file of certificates that one since it was opened, nothing where it is not open
abbrev pub SentBoth : Text → Text → (Slot → Told) → (Slot → Told) → Type 0
SentBoth out certs before after =
    Sent out (before Out) (after Out) × SentIfOpen (after Certs).is_open certs (before Certs) (after Certs)

-- the run of a command on a device that told this before and after, wherever it tells what the files' names hold
abbrev pub Headline : Option Command → (List ℕ → Option (List ℕ)) → (Slot → Told) → (Slot → Told) → Exit → Type 0
Headline (Some (check feed certs)) holds before after exit =
    (f c : Text) → holds feed ≡ Some f → holds certs ≡ Some c → (sent : Text) × Sent sent (before Out) (after Out)
    × ChecksTruly (reading_of f) (certificates_of c).lines exit sent
Headline (Some (replay feed certs)) holds before after exit =
    (f : Text) → holds feed ≡ Some f → (out written : Text) × SentBoth out written before after
    × ReplaysTruly (reading_of f) exit out written
Headline (Some (settle feed positions certs)) holds before after exit =
    (f p : Text) → holds feed ≡ Some f → holds positions ≡ Some p → (out written : Text) × SentBoth out written before after
    × (SettlesNothing exit out written ⊎ SettlesTruly (reading_of f) (positions_of p).lines exit out written)
Headline command holds before after exit = Unit {0}
