-- A run that answers the ticks of a feed: one step an event, in their order.
use Rattle.std.specs.Prelude.{◌≡◌, ◌⊎◌, ℕ, ◌+◌, ◌<◌, Bool, true, false, List, [], ◌∷◌, ◌++◌, length, map, codes, Option, Some, None}
use Rattle.std.specs.List.{concat, sum_by}
use Rattle.std.specs.Option.{option_to_list}
use Rattle.vx_num.specs.Written.{decimal_text}
use Rattle.vx_feed.specs.declared.events.Event.{Event}
use Rattle.vx_feed.specs.Feed.{BadLine, Reading}
use Rattle.vx_reading.specs.declared.stop.FeedCause.{FeedCause}
use Rattle.vx_reading.specs.FeedReading.{all_good}
use Rattle.vx_reading.specs.Stops.{bad_cause}
use Rattle.vx_drivers.specs.declared.exit.Exit.{Exit}
use Rattle.vx_drivers.specs.declared.exit.Exit.TheVariants.{Done, BadFeed}
use Rattle.vx_drivers.specs.declared.ticks.Tally.{Tally}
use Rattle.vx_drivers.specs.Along.{Along}
use Rattle.vx_drivers.specs.Answers.{line_start}
use Rattle.vx_drivers.specs.Exits.{is_cut, is_write_fault}
use Rattle.vx_drivers.specs.Sending.{Text}

-- what a command makes of the events of a feed: what the last of some events is given, an answer, or nothing where it is
-- no tick; what an answer adds to the file of certificates, nothing where it has none, and to the output; and how many
-- answers it counts as, by their kinds
pub record TickRules (A : Type 0) : Type 1 where
  pub IsGiven : List Event → Option A → Type 0
  pub certificate : A → Text
  pub line : A → Text
  pub tally : A → Tally

-- where a run stands: the events so far, and the answers to the ticks among them
pub record TickStand (A : Type 0) : Type 0 where
  pub events : List Event
  pub answers : List A

abbrev pub no_events : {A : Type 0} → TickStand A
no_events = record { events = []; answers = [] }

-- one event more, and what it is given
abbrev pub one_more : {A : Type 0} → TickStand A → Event → Option A → TickStand A
one_more stand event said =
    record { events = stand.events ++ event ∷ []; answers = stand.answers ++ option_to_list said }

-- ---- one step

-- an event is taken up, and answered where it is a tick
abbrev pub TakesEvent : {A : Type 0} → TickRules A → TickStand A → Event → TickStand A → Type 0
TakesEvent {A} rules old event new =
    (said : Option A) × rules.IsGiven (old.events ++ event ∷ []) said × (new ≡ one_more old event said)

-- ---- the texts of answers

-- what answers add to the file of certificates, and what to the output
abbrev pub certificates_text : {A : Type 0} → TickRules A → List A → Text
certificates_text rules answers = concat (map rules.certificate answers)

abbrev pub lines_text : {A : Type 0} → TickRules A → List A → Text
lines_text rules answers = concat (map rules.line answers)

-- how many answers are published, how many undecided, and how many refused
abbrev pub published_count : {A : Type 0} → TickRules A → List A → ℕ
published_count rules answers = sum_by (λ a. (rules.tally a).published) answers

abbrev pub undecided_count : {A : Type 0} → TickRules A → List A → ℕ
undecided_count rules answers = sum_by (λ a. (rules.tally a).undecided) answers

abbrev pub refused_count : {A : Type 0} → TickRules A → List A → ℕ
refused_count rules answers = sum_by (λ a. (rules.tally a).refused) answers

-- `END,answers,published,undecided,refused` and LF (10). This project's own format
abbrev pub counts_line : ℕ → ℕ → ℕ → Text
counts_line published undecided refused =
    line_start (codes "END") (published + undecided + refused)
    ++ decimal_text published 0 ++ codes "," ++ decimal_text undecided 0 ++ codes "," ++ decimal_text refused 0 ++ 10 ∷ []

-- the last line
abbrev pub counts_text : {A : Type 0} → TickRules A → List A → Text
counts_text rules answers =
    counts_line (published_count rules answers) (undecided_count rules answers) (refused_count rules answers)

-- ---- a whole run

-- the exit of a run by the feed's bad line, where it has one
abbrev pub EndsTicks : Option BadLine → Exit → Type 0
EndsTicks None exit = exit ≡ Done
EndsTicks (Some bad) exit = (why : FeedCause) × (exit ≡ BadFeed bad.line why) × (bad.cause ≡ bad_cause why)

-- the last line comes where the feed has no bad line
abbrev pub unless_bad : Option BadLine → Text → Text
unless_bad None text = text
unless_bad (Some bad) text = []

-- the run over a feed: its exit, and the texts that it sends to the output and to the file of certificates
pub record RunsTicks {A : Type 0} (rules : TickRules A) (feed : Reading) (exit : Exit) (out certs : Text) : Type 0 where
  pub stand : TickStand A
  pub steps : Along (TakesEvent rules) no_events feed.events stand
  pub ends : EndsTicks feed.bad exit
  pub out_is : out ≡ lines_text rules stand.answers ++ unless_bad feed.bad (counts_text rules stand.answers)
  pub certs_are : certs ≡ certificates_text rules stand.answers

-- ---- a run that is cut off

-- what first events of a feed give: what their answers add, and the last line only where these are all and none is bad
pub record GivesTicks {A : Type 0} (rules : TickRules A) (feed : Reading) (out certs : Text) : Type 0 where
  pub stand : TickStand A
  pub steps : Along (TakesEvent rules) no_events stand.events stand
  pub rest : List Event
  pub are_first : feed.events ≡ stand.events ++ rest
  pub last : Text
  pub last_is : (last ≡ []) ⊎ ((feed ≡ all_good stand.events) × (last ≡ counts_text rules stand.answers))
  pub out_is : out ≡ lines_text rules stand.answers ++ last
  pub certs_are : certs ≡ certificates_text rules stand.answers

-- the certificate of each answer whose line was begun is whole, and so are those before it
abbrev pub AreWhole : {A : Type 0} → TickRules A → List A → Text → Text → Type 0
AreWhole {A} rules answers out certs =
    (before : List A) (answer : A) (after : List A)
    → answers ≡ before ++ answer ∷ after → length (lines_text rules before) < length out
    → (more : Text) × (certs ≡ certificates_text rules (before ++ answer ∷ []) ++ more)

-- first parts of what first events give
pub record GivesTickParts {A : Type 0} (rules : TickRules A) (feed : Reading) (out certs : Text) : Type 0 where
  pub out_more : Text
  pub certs_more : Text
  pub gives : GivesTicks rules feed (out ++ out_more) (certs ++ certs_more)
  pub whole : AreWhole rules gives.stand.answers out certs

-- what first events of a feed give in answers alone, each with its certificate
pub record GivesTickAnswers {A : Type 0} (rules : TickRules A) (feed : Reading) (out certs : Text) : Type 0 where
  pub stand : TickStand A
  pub steps : Along (TakesEvent rules) no_events stand.events stand
  pub rest : List Event
  pub are_first : feed.events ≡ stand.events ++ rest
  pub out_is : out ≡ lines_text rules stand.answers
  pub certs_are : certs ≡ certificates_text rules stand.answers

-- what a run sends that is cut off: first parts of the texts, and whole answers alone where no write failed
pub record CutsTicks {A : Type 0} (rules : TickRules A) (feed : Reading) (exit : Exit) (out certs : Text) : Type 0 where
  pub parts : GivesTickParts rules feed out certs
  pub whole : is_write_fault exit ≡ false → GivesTickAnswers rules feed out certs

-- what a run sends, by its exit: all that it gives, or what it sends that is cut off by a failed call or for want of
-- memory
abbrev pub RunsTicksIf : {A : Type 0} → TickRules A → Reading → Exit → Text → Text → Bool → Type 0
RunsTicksIf rules feed exit out certs true = CutsTicks rules feed exit out certs
RunsTicksIf rules feed exit out certs false = RunsTicks rules feed exit out certs

abbrev pub RunsTicksBy : {A : Type 0} → TickRules A → Reading → Exit → Text → Text → Type 0
RunsTicksBy rules feed exit out certs = RunsTicksIf rules feed exit out certs (is_cut exit)
