-- A run that answers the lines of a file of certificates over a feed: one step a line, in their order.
use Rattle.std.specs.Prelude.{◌≡◌, ◌⊎◌, ℕ, ◌+◌, ◌≤◌, Bool, true, false, nat_lt, List, [], ◌∷◌, ◌++◌, length, take, codes, Some, None, Result, Ok, Err}
use Rattle.vx_lines.specs.TextLines.{Ending, TextLines, at_end, too_long, no_eol, too_many, ended, at_most, lines_of, lines_then}
use Rattle.vx_feed.specs.declared.events.Event.{Event}
use Rattle.vx_feed.specs.Feed.{Reading}
use Rattle.vx_reading.specs.FeedReading.{is_met}
use Rattle.vx_reading.specs.Stops.{bad_cause}
use Rattle.vx_drivers.specs.declared.exit.Exit.{Exit}
use Rattle.vx_drivers.specs.declared.exit.Exit.TheVariants.{Done, SaidNo, BadFeed, BadCerts}
use Rattle.vx_drivers.specs.declared.exit.LineCause.{LineCause}
use Rattle.vx_drivers.specs.declared.exit.LineCause.TheVariants as line
use Rattle.vx_drivers.specs.declared.limits.TheConstants.{CERT_LINES_MAX, CERT_LINE_LEN_MAX}
use Rattle.vx_drivers.specs.Along.{Along}
use Rattle.vx_drivers.specs.Answers.{Answer, said_no, count_no, answers_text, end_text}
use Rattle.vx_drivers.specs.Exits.{is_cut, is_write_fault}
use Rattle.vx_drivers.specs.Sending.{Text}

-- what a command makes of certificates: what a line is read as, a certificate or the word for why it is none; the
-- feed line that a certificate names; and the answer to it over the events up to there
pub record Rules (C : Type 0) : Type 1 where
  pub ReadsAs : List ℕ → Result C Text → Type 0
  pub named : C → ℕ
  pub Judges : List Event → C → Answer → Type 0

-- the lines of a file of certificates
abbrev pub certificates_of : List ℕ → TextLines
certificates_of text = at_most CERT_LINES_MAX (lines_of CERT_LINE_LEN_MAX text)

-- where a run stands: the answers so far, and the last feed line that a readable certificate named
pub record Stand : Type 0 where
  pub answers : List Answer
  pub reached : ℕ

abbrev pub start : Stand
start = record { answers = []; reached = 0 }

-- one answer more, and the feed line that is then reached
abbrev pub answered : Stand → Answer → ℕ → Stand
answered stand answer reached = record { answers = stand.answers ++ answer ∷ []; reached = reached }

-- ---- one step

-- a certificate that names an earlier feed line than one before it gets the no `order`; else the feed is good up to
-- the line that it names, and the events up to there decide
abbrev pub AnswersCertificate : {C : Type 0} → Rules C → Reading → Stand → C → Bool → Stand → Type 0
AnswersCertificate rules feed old c true new = new ≡ answered old (said_no (codes "order")) old.reached
AnswersCertificate rules feed old c false new =
    (is_met (rules.named c) feed ≡ false)
    × (answer : Answer) × rules.Judges (take (rules.named c) feed.events) c answer × (new ≡ answered old answer (rules.named c))

-- a line that is no certificate gets the no with its word
abbrev pub AnswersSaid : {C : Type 0} → Rules C → Reading → Stand → Result C Text → Stand → Type 0
AnswersSaid rules feed old (Ok c) new = AnswersCertificate rules feed old c (nat_lt (rules.named c) old.reached) new
AnswersSaid rules feed old (Err word) new = new ≡ answered old (said_no word) old.reached

-- a line is answered
abbrev pub Answers : {C : Type 0} → Rules C → Reading → Stand → List ℕ → Stand → Type 0
Answers {C} rules feed old text new = (said : Result C Text) × rules.ReadsAs text said × AnswersSaid rules feed old said new

-- a line is a certificate in order, and the feed has a bad line at or before the line that it names
pub record Stops {C : Type 0} (rules : Rules C) (feed : Reading) (stand : Stand) (text : List ℕ) : Type 0 where
  pub certificate : C
  pub reads : rules.ReadsAs text (Ok certificate)
  pub in_order : nat_lt (rules.named certificate) stand.reached ≡ false
  pub met : is_met (rules.named certificate) feed ≡ true

-- ---- a whole run

-- the first lines of the certificates are answered, one after another; the run stands here, before the rest
pub record StandsBefore {C : Type 0} (rules : Rules C) (feed : Reading) (certs : TextLines) (stand : Stand) (rest : TextLines) : Type 0 where
  pub lines : List (List ℕ)
  pub are_first : certs ≡ lines_then lines rest
  pub steps : Along (Answers rules feed) start lines stand

-- all lines are answered, and the feed has no bad line
pub record AllAnswered (feed : Reading) (rest : TextLines) : Type 0 where
  pub no_line : rest ≡ ended at_end
  pub no_bad : feed.bad ≡ None

-- the feed's bad line ends the run: at the next line, or behind the last
abbrev pub StopsAt : {C : Type 0} → Rules C → Reading → Stand → List (List ℕ) → Ending → Type 0
StopsAt rules feed stand (text ∷ texts) ending = Stops rules feed stand text
StopsAt rules feed stand [] ending = ending ≡ at_end

abbrev pub ending_for : LineCause → Ending
ending_for line.TooLong = too_long
ending_for line.NoEol = no_eol
ending_for line.TooMany = too_many

-- the exit of a run that stands here, before the rest
abbrev pub EndsWithRest : {C : Type 0} → Rules C → Reading → Stand → TextLines → Exit → Type 0
EndsWithRest rules feed stand rest Done = AllAnswered feed rest × (count_no stand.answers ≡ 0)
EndsWithRest rules feed stand rest (SaidNo count) = AllAnswered feed rest × (count ≡ count_no stand.answers) × (1 ≤ count)
EndsWithRest rules feed stand rest (BadFeed number why) =
    (feed.bad ≡ Some (record { line = number; cause = bad_cause why })) × StopsAt rules feed stand rest.lines rest.ending
EndsWithRest rules feed stand rest (BadCerts number why) = (number ≡ length stand.answers + 1) × (rest ≡ ended (ending_for why))
EndsWithRest rules feed stand rest _ = ⊥

-- the last line comes where all was read
abbrev pub last_line : Stand → Exit → Text
last_line stand Done = end_text stand.answers
last_line stand (SaidNo count) = end_text stand.answers
last_line stand _ = []

-- the run over a feed and certificates: its exit, and the text that it sends
pub record Runs {C : Type 0} (rules : Rules C) (feed : Reading) (certs : TextLines) (exit : Exit) (text : Text) : Type 0 where
  pub stand : Stand
  pub rest : TextLines
  pub before : StandsBefore rules feed certs stand rest
  pub ends : EndsWithRest rules feed stand rest exit
  pub text_is : text ≡ answers_text stand.answers ++ last_line stand exit

-- over the same feed and certificates there is one exit at most, and one text
abbrev pub RunIsOne : {C : Type 0} → Rules C → Type 0
RunIsOne rules = (feed : Reading) (certs : TextLines) (a b : Exit) (x y : Text) →
    Runs rules feed certs a x → Runs rules feed certs b y → (a ≡ b) × (x ≡ y)

-- what first lines of the certificates give: their answers, and the last line only where all are answered
pub record Gives {C : Type 0} (rules : Rules C) (feed : Reading) (certs : TextLines) (text : Text) : Type 0 where
  pub stand : Stand
  pub rest : TextLines
  pub before : StandsBefore rules feed certs stand rest
  pub last : Text
  pub last_is : (last ≡ []) ⊎ (AllAnswered feed rest × (last ≡ end_text stand.answers))
  pub text_is : text ≡ answers_text stand.answers ++ last

-- a first part of what first lines give
pub record GivesPart {C : Type 0} (rules : Rules C) (feed : Reading) (certs : TextLines) (part : Text) : Type 0 where
  pub more : Text
  pub gives : Gives rules feed certs (part ++ more)

-- what first lines of the certificates give in answers alone
pub record GivesAnswers {C : Type 0} (rules : Rules C) (feed : Reading) (certs : TextLines) (text : Text) : Type 0 where
  pub stand : Stand
  pub rest : TextLines
  pub before : StandsBefore rules feed certs stand rest
  pub text_is : text ≡ answers_text stand.answers

-- what a run sends that is cut off: a first part of the text, and whole answers alone where no write failed
pub record CutsRun {C : Type 0} (rules : Rules C) (feed : Reading) (certs : TextLines) (text : Text) (exit : Exit) : Type 0 where
  pub part : GivesPart rules feed certs text
  pub whole : is_write_fault exit ≡ false → GivesAnswers rules feed certs text

-- what a run sends, by its exit: all that it gives, or what it sends that is cut off by a failed call or for want of
-- memory
abbrev pub RunsIf : {C : Type 0} → Rules C → Reading → TextLines → Text → Exit → Bool → Type 0
RunsIf rules feed certs text exit true = CutsRun rules feed certs text exit
RunsIf rules feed certs text exit false = Runs rules feed certs exit text

abbrev pub RunsBy : {C : Type 0} → Rules C → Reading → TextLines → Text → Exit → Type 0
RunsBy rules feed certs text exit = RunsIf rules feed certs text exit (is_cut exit)
