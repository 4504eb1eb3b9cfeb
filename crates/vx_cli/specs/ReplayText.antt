-- The line of a tick's answer, and the answers to all ticks of a feed. This project's own format.
use Rattle.std.specs.Prelude.{◌≡◌, ℕ, ◌+◌, Bool, true, false, List, [], ◌∷◌, map, length, count_by, All, codes}
use Rattle.vx_clock.specs.Clock.{clock_text}
use Rattle.vx_feed.specs.declared.events.Event.{Event}
use Rattle.vx_feed.specs.declared.events.Event.TheVariants as event
use Rattle.vx_feed.specs.Written.{count_text}
use Rattle.vx_cert.specs.Written.{certificate_text}
use Rattle.vx_term.specs.declared.answer.TermRefusal.{TermRefusal}
use Rattle.vx_term.specs.declared.answer.TermRefusal.TheVariants as refusal
use Rattle.vx_replay.specs.declared.answer.TickAnswer.{TickAnswer}
use Rattle.vx_replay.specs.declared.answer.TickAnswer.TheVariants.{Published, UndecidedCents, UndecidedForward, Refused}
use Rattle.vx_replay.specs.declared.answer.Reason.{Reason}
use Rattle.vx_replay.specs.declared.answer.Reason.TheVariants.{NoTerm, Term, NegativeVariance}
use Rattle.vx_replay.specs.declared.answer.Which.{Which}
use Rattle.vx_replay.specs.declared.answer.Which.TheVariants.{Near, Next, Both}
use Rattle.vx_replay.specs.Ticks.{IsTickAnswer}
use Rattle.vx_drivers.specs.Sending.{Text}
use Rattle.vx_cli.specs.OutputLines.{line_of, strike_text, cents_text, index_end_text, forward_end_text}

abbrev pub which_word : Which → Text
which_word Near = codes "near"
which_word Next = codes "next"
which_word Both = codes "both"

abbrev pub refusal_word : TermRefusal → Text
refusal_word refusal.NoRate = codes "no-rate"
refusal_word refusal.NoPair = codes "no-pair"
refusal_word refusal.NoStrikeBelow = codes "no-strike-below"
refusal_word refusal.NoStrikeAbove = codes "no-strike-above"
refusal_word refusal.NoMoney = codes "no-money"
refusal_word refusal.NoPut = codes "no-put"
refusal_word refusal.NoCall = codes "no-call"
refusal_word (refusal.StripTooLarge upper) = codes "strip-too-large"

abbrev pub reason_word : Reason → Text
reason_word NoTerm = codes "no-term"
reason_word (Term refusal) = refusal_word refusal
reason_word NegativeVariance = codes "negative-variance"

-- `FIG,hh:mm,days,figure,lo,hi`, `UND,hh:mm,days,cents,lo,hi`, `UND,hh:mm,days,forward,which,strike,lo,hi` or
-- `REF,hh:mm,days,reason,which`
abbrev pub tick_text : ℕ → ℕ → TickAnswer → Text
tick_text days time (Published cents lo hi certificate) =
    line_of (codes "FIG" ∷ clock_text time ∷ count_text days ∷ cents_text cents ∷ index_end_text lo ∷ index_end_text hi ∷ [])
tick_text days time (UndecidedCents lo hi) =
    line_of (codes "UND" ∷ clock_text time ∷ count_text days ∷ codes "cents" ∷ index_end_text lo ∷ index_end_text hi ∷ [])
tick_text days time (UndecidedForward which strike lo hi) =
    line_of (codes "UND" ∷ clock_text time ∷ count_text days ∷ codes "forward" ∷ which_word which ∷ strike_text strike
    ∷ forward_end_text lo ∷ forward_end_text hi ∷ [])
tick_text days time (Refused reason which) =
    line_of (codes "REF" ∷ clock_text time ∷ count_text days ∷ reason_word reason ∷ which_word which ∷ [])

-- a tick of a feed, by its line and its minute
pub record Tick : Type 0 where
  pub line : ℕ
  pub time : ℕ

-- the ticks among events, of which the first stands at this line
abbrev pub ticks_from : ℕ → List Event → List Tick
ticks_from number [] = []
ticks_from number (event.Tick minute ∷ events) = record { line = number; time = minute } ∷ ticks_from (number + 1) events
ticks_from number (e ∷ events) = ticks_from (number + 1) events

abbrev pub ticks_of : List Event → List Tick
ticks_of events = ticks_from 1 events

-- a tick with its answer
pub record Answered : Type 0 where
  pub tick : Tick
  pub answer : TickAnswer

-- the answers are those of all ticks of the events, in order, for so many days within a window
pub record AnswerTicks (days window : ℕ) (events : List Event) (answers : List Answered) : Type 0 where
  pub ticks_are : map (λ a. a.tick) answers ≡ ticks_of events
  pub each : All (λ a. IsTickAnswer days window events a.tick.line a.tick.time a.answer) answers

-- the line of an answer's certificate; nothing where it has none
abbrev pub certified_text : TickAnswer → Text
certified_text (Published cents lo hi certificate) = certificate_text certificate
certified_text _ = []

-- the answers by their kinds
abbrev pub is_published : TickAnswer → Bool
is_published (Published cents lo hi certificate) = true
is_published _ = false

abbrev pub is_refused : TickAnswer → Bool
is_refused (Refused reason which) = true
is_refused _ = false

abbrev pub is_undecided : TickAnswer → Bool
is_undecided (UndecidedCents lo hi) = true
is_undecided (UndecidedForward which strike lo hi) = true
is_undecided _ = false

-- how many answers are of a kind
abbrev pub count_answers : (TickAnswer → Bool) → List Answered → ℕ
count_answers is_kind answers = count_by (λ a. is_kind a.answer) answers

-- the answers' counts, with commas between: all, then the published, the undecided and the refused ones
abbrev pub tally_of : List Answered → List Text
tally_of answers =
    count_text (length answers) ∷ count_text (count_answers is_published answers)
    ∷ count_text (count_answers is_undecided answers) ∷ count_text (count_answers is_refused answers) ∷ []
