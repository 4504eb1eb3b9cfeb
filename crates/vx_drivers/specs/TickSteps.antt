-- The steps of a run that answers ticks.
use Rattle.std.specs.Prelude.{◌≡◌, ◌⊎◌, ℕ, ◌+◌, ◌*◌, ◌^◌, ◌≤◌, Bool, true, false, List, [], ◌∷◌, ◌++◌, length}
use Rattle.std.specs.Prelude.{IfOk, Option, Some, None, Result, Ok, Err}
use Rattle.std.specs.Option.{option_to_list}
use Rattle.vx_desk.specs.declared.device.Slot.{Slot}
use Rattle.vx_desk.specs.declared.device.Slot.TheVariants.{Feed, Out, Certs}
use Rattle.vx_desk.specs.Told.{Told}
use Rattle.vx_num.specs.declared.fault.NoMemory.{NoMemory}
use Rattle.vx_feed.specs.declared.events.Event.{Event}
use Rattle.vx_feed.specs.Feed.{Reading}
use Rattle.vx_feed.specs.Order.{AreLawful}
use Rattle.vx_reading.specs.FeedReading.{IsAt, IsCutBehind, Says, all_good, feed_told}
use Rattle.vx_reading.specs.WhatWasRead.{EventsRead}
use Rattle.vx_drivers.specs.declared.exit.Exit.{Exit}
use Rattle.vx_drivers.specs.declared.exit.Exit.TheVariants.{ReadFault}
use Rattle.vx_drivers.specs.declared.exit.Exit.TheVariants as exits
use Rattle.vx_drivers.specs.declared.tick_run.TickRun.{TickRun}
use Rattle.vx_drivers.specs.declared.ticks.Tally.{Tally}
use Rattle.vx_drivers.specs.Along.{Along}
use Rattle.vx_drivers.specs.Exits.{is_cut, is_write_fault}
use Rattle.vx_drivers.specs.Sending.{Begins, CutsOff, Sent, Text}
use Rattle.vx_drivers.specs.TickRun.{TickRules, TickStand, TakesEvent, RunsTicksBy, no_events, one_more}
use Rattle.vx_drivers.specs.TickRun.{certificates_text, counts_text, lines_text, published_count, refused_count, undecided_count}

-- ---- an answer

-- an answer with its two texts and its tally
pub record IsWrittenAs {A : Type 0} (rules : TickRules A) (certificate line : Text) (tally : Tally) (answer : A) : Type 0 where
  pub certificate_is : certificate ≡ rules.certificate answer
  pub line_is : line ≡ rules.line answer
  pub tally_is : tally ≡ rules.tally answer

-- the last of some events is given an answer with these texts and this tally, or nothing where there is no tally
abbrev pub GivesTexts : {A : Type 0} → TickRules A → List Event → Text → Text → Option Tally → Type 0
GivesTexts {A} rules events certificate line (Some tally) =
    (answer : A) × rules.IsGiven events (Some answer) × IsWrittenAs rules certificate line tally answer
GivesTexts rules events certificate line None = rules.IsGiven events None

-- what has taken up events, a lawful list, gives these texts and this tally to the last of them
abbrev pub GivesLast : {A T : Type 0} → TickRules A → (T → List Event → Type 0) → T → Text → Text
    → Result (Option Tally) NoMemory → Type 0
GivesLast rules StandsFor taker certificate line result =
    (events : List Event) → StandsFor taker events → AreLawful events
    → IfOk result (GivesTexts rules events certificate line)

-- ---- two texts, the certificate before anything of the line

-- a write failed: of the certificate, with nothing of the line sent, or of the line behind the whole certificate
abbrev pub CutsBoth : Text → Text → (Slot → Told) → (Slot → Told) → Exit → Type 0
CutsBoth certificate line before after exit =
    (CutsOff Certs certificate (before Certs) (after Certs) exit × (after Out ≡ before Out))
    ⊎ (Sent certificate (before Certs) (after Certs) × CutsOff Out line (before Out) (after Out) exit)

abbrev pub SendsBoth : Text → Text → (Slot → Told) → (Slot → Told) → Result Unit Exit → Type 0
SendsBoth certificate line before after (Ok _) =
    Sent certificate (before Certs) (after Certs) × Sent line (before Out) (after Out)
SendsBoth certificate line before after (Err exit) = CutsBoth certificate line before after exit

-- ---- one event

-- the three counts of a tally, each of 32 bits, add to less
abbrev pub TALLY_MAX : ℕ
TALLY_MAX = 3 * 2 ^ 32

-- how many answers a run has counted, by their kinds
abbrev pub answers_counted : {T : Type 0} → TickRun T → ℕ
answers_counted run = run.published + run.undecided + run.refused

-- how many events a run has read
abbrev pub events_read : {T : Type 0} → TickRun T → ℕ
events_read run = run.feed.count

-- the answers so far are counted
pub record HasCountedTicks {A T : Type 0} (rules : TickRules A) (stand : TickStand A) (run : TickRun T) : Type 0 where
  pub published : run.published ≡ published_count rules stand.answers
  pub undecided : run.undecided ≡ undecided_count rules stand.answers
  pub refused : run.refused ≡ refused_count rules stand.answers
  pub few : answers_counted run ≤ length stand.events * TALLY_MAX

-- an event is given this answer, and a write of its texts failed
pub record CutsTick {A : Type 0} (rules : TickRules A) (stand : TickStand A) (event : Event) (before after : Slot → Told)
    (exit : Exit) : Type 0 where
  pub answer : A
  pub gives : rules.IsGiven (stand.events ++ event ∷ []) (Some answer)
  pub cut : CutsBoth (rules.certificate answer) (rules.line answer) before after exit

-- nothing was sent for want of memory
pub record SendsNothing (before after : Slot → Told) (exit : Exit) : Type 0 where
  pub exit_is : exit ≡ exits.NoMemory
  pub certs : after Certs ≡ before Certs
  pub out : after Out ≡ before Out

-- a run was cut off: it sent the answers to first events, which were read by then, or where a write failed a first part of
-- them; and where a read of the feed failed, no more was read behind these events than a part of a line
pub record AnswersEventsRead {A : Type 0} (rules : TickRules A) (held : Option (List ℕ)) (feed : Option Reading)
    (after : Slot → Told) (exit : Exit) (out certs : Text) : Type 0 where
  pub stand : TickStand A
  pub steps : Along (TakesEvent rules) no_events stand.events stand
  pub read : EventsRead stand.events held (after Feed)
  pub last : Text
  pub last_is : (last ≡ []) ⊎ (Says feed (all_good stand.events) × (last ≡ counts_text rules stand.answers))
  pub out_part : Begins out (lines_text rules stand.answers ++ last)
  pub certs_part : Begins certs (certificates_text rules stand.answers)
  pub whole : is_write_fault exit ≡ false
      → (out ≡ lines_text rules stand.answers) × (certs ≡ certificates_text rules stand.answers)
  pub cut : exit ≡ ReadFault Feed → IsCutBehind feed stand.events after

-- the run ended with this exit, and sent what it gives over the feed: the one that is told, or some feed where none is; and
-- where it was cut off, what the lines give that were read
pub record HasEndedTicks {A : Type 0} (rules : TickRules A) (held : Option (List ℕ)) (feed : Option Reading)
    (before after : Slot → Told) (exit : Exit) : Type 0 where
  pub over : Reading
  pub feed_is : Says feed over
  pub out : Text
  pub certs : Text
  pub runs : RunsTicksBy rules over exit out certs
  pub out_sent : Sent out (before Out) (after Out)
  pub certs_sent : Sent certs (before Certs) (after Certs)
  pub cut : is_cut exit ≡ true → AnswersEventsRead rules held feed after exit out certs

-- nothing was read
pub record IsNewTicks {T : Type 0} (StandsFor : T → List Event → Type 0) (run : TickRun T) : Type 0 where
  pub feed : (told : Slot → Told) → IsAt StandsFor (told Feed).left (feed_told told) [] run.feed told
  pub published : run.published ≡ 0
  pub undecided : run.undecided ≡ 0
  pub refused : run.refused ≡ 0

module _ {A T : Type 0} (rules : TickRules A) (StandsFor : T → List Event → Type 0) where
  module _ (held : Option (List ℕ)) (feed : Option Reading) where
    -- these events are read, and those of the stand are answered and counted
    pub record HasReadEvents (stand : TickStand A) (events : List Event) (run : TickRun T) (told : Slot → Told) : Type 0 where
      pub at : IsAt StandsFor held feed events run.feed told
      pub steps : Along (TakesEvent rules) no_events stand.events stand
      pub counted : HasCountedTicks rules stand run

    -- a run between two events
    abbrev pub IsBetweenEvents : TickStand A → TickRun T → (Slot → Told) → Type 0
    IsBetweenEvents stand run told = HasReadEvents stand stand.events run told

    -- a run that has read one event more
    abbrev pub IsAtEvent : TickStand A → Event → TickRun T → (Slot → Told) → Type 0
    IsAtEvent stand event run told = HasReadEvents stand (stand.events ++ event ∷ []) run told

    -- an event is given this, and its texts were sent
    pub record SendsTick (stand : TickStand A) (event : Event) (run : TickRun T) (before after : Slot → Told) : Type 0 where
      pub said : Option A
      pub between : IsBetweenEvents (one_more stand event said) run after
      pub certs : Sent (certificates_text rules (option_to_list said)) (before Certs) (after Certs)
      pub out : Sent (lines_text rules (option_to_list said)) (before Out) (after Out)

    -- an event is answered, or the run ends at it
    abbrev pub AnswersEvent : TickStand A → Event → TickRun T → (Slot → Told) → (Slot → Told) → Result Unit Exit → Type 0
    AnswersEvent stand event run before after (Ok _) = SendsTick stand event run before after
    AnswersEvent stand event run before after (Err exit) =
        SendsNothing before after exit ⊎ CutsTick rules stand event before after exit

    -- ---- from the start of the run

    -- the answers to the events so far were sent
    pub record HasAnswered (before : Slot → Told) (run : TickRun T) (now : Slot → Told) : Type 0 where
      pub stand : TickStand A
      pub between : IsBetweenEvents stand run now
      pub certs : Sent (certificates_text rules stand.answers) (before Certs) (now Certs)
      pub out : Sent (lines_text rules stand.answers) (before Out) (now Out)

    -- and no event is left, nor a bad line
    pub record IsThroughTicks (before : Slot → Told) (run : TickRun T) (now : Slot → Told) : Type 0 where
      pub way : HasAnswered before run now
      pub says : Says feed (all_good way.stand.events)

    -- one event more is answered, or none is left, or the run ended
    abbrev pub GoesOnTicks : (Slot → Told) → TickRun T → (Slot → Told) → Result Bool Exit → Type 0
    GoesOnTicks before run now (Ok true) = HasAnswered before run now
    GoesOnTicks before run now (Ok false) = IsThroughTicks before run now
    GoesOnTicks before run now (Err exit) = HasEndedTicks rules held feed before now exit

    -- all events are answered, or the run ended
    abbrev pub AnswersAllTicks : (Slot → Told) → TickRun T → (Slot → Told) → Result Unit Exit → Type 0
    AnswersAllTicks before run now (Ok _) = IsThroughTicks before run now
    AnswersAllTicks before run now (Err exit) = HasEndedTicks rules held feed before now exit

  -- ---- the clauses of a run

  -- a run that has read an event to be answered
  abbrev pub MayAnswer : TickRun T → (Slot → Told) → Type 0
  MayAnswer run told =
      (held : Option (List ℕ)) × (feed : Option Reading) × (stand : TickStand A) × (event : Event) × IsAtEvent held feed stand event run told

  -- and its event is answered
  abbrev pub AnswersLast : TickRun T → (Slot → Told) → TickRun T → (Slot → Told) → Result Unit Exit → Type 0
  AnswersLast old before new after result =
      (held : Option (List ℕ)) (feed : Option Reading) (stand : TickStand A) (event : Event) → IsAtEvent held feed stand event old before
      → AnswersEvent held feed stand event new before after result

  -- a run that may go on
  abbrev pub MayGoOnTicks : TickRun T → (Slot → Told) → Type 0
  MayGoOnTicks run told =
      (held : Option (List ℕ)) × (feed : Option Reading) × (before : Slot → Told) × HasAnswered held feed before run told

  -- the next event is answered
  abbrev pub GoesOneEvent : TickRun T → (Slot → Told) → TickRun T → (Slot → Told) → Result Bool Exit → Type 0
  GoesOneEvent old told new now result =
      (held : Option (List ℕ)) (feed : Option Reading) (before : Slot → Told) → HasAnswered held feed before old told
      → GoesOnTicks held feed before new now result

  -- all events are answered
  abbrev pub GoesToFeedEnd : TickRun T → (Slot → Told) → TickRun T → (Slot → Told) → Result Unit Exit → Type 0
  GoesToFeedEnd old told new now result =
      (held : Option (List ℕ)) (feed : Option Reading) (before : Slot → Told) → HasAnswered held feed before old told
      → AnswersAllTicks held feed before new now result

  -- a run whose events are all answered
  abbrev pub MayEndTicks : TickRun T → (Slot → Told) → Type 0
  MayEndTicks run told =
      (held : Option (List ℕ)) × (feed : Option Reading) × (before : Slot → Told) × IsThroughTicks held feed before run told

  -- the run ends behind the last event
  abbrev pub EndsTickRun : TickRun T → (Slot → Told) → (Slot → Told) → Exit → Type 0
  EndsTickRun run told now exit =
      (held : Option (List ℕ)) (feed : Option Reading) (before : Slot → Told) → IsThroughTicks held feed before run told
      → HasEndedTicks rules held feed before now exit
