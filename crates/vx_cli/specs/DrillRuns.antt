-- What `drill` counts while it reads a feed.
use Rattle.std.specs.Prelude.{◌≡◌, ℕ, ◌+◌, ◌≤◌, Bool, cond, List, [], ◌∷◌, length, codes}
use Rattle.std.specs.Prelude.{Option, Some, None, Result, Ok, Err}
use Rattle.vx_clock.specs.declared.limits.TheConstants.{INDEX_DAYS, INDEX_WINDOW}
use Rattle.vx_feed.specs.declared.events.Event.{Event}
use Rattle.vx_feed.specs.Feed.{bad_line, lawful_prefix}
use Rattle.vx_feed.specs.Written.{count_text}
use Rattle.vx_reading.specs.declared.stop.FeedStop.{FeedStop}
use Rattle.vx_reading.specs.declared.stop.FeedStop.TheVariants.{BadLine, Device, NoMemory}
use Rattle.vx_reading.specs.Stops.{bad_cause}
use Rattle.vx_replay.specs.declared.answer.TickAnswer.{TickAnswer}
use Rattle.vx_replay.specs.declared.replay.Replay.{Replay}
use Rattle.vx_replay.specs.StandsFor.{ReplayStandsFor}
use Rattle.vx_cli.specs.declared.drill.AnswerCounts.{AnswerCounts}
use Rattle.vx_cli.specs.declared.drill.CountedReplay.{CountedReplay}
use Rattle.vx_drivers.specs.Sending.{Text}
use Rattle.vx_cli.specs.OutputLines.{line_of}
use Rattle.vx_cli.specs.ReplayText.{Answered, AnswerTicks, count_answers, is_published, is_refused, is_undecided}

-- the counts before the first line
abbrev pub no_counts : AnswerCounts
no_counts = record { lines = 0; published = 0; undecided = 0; refused = 0 }

-- one where an event is given an answer of a kind
abbrev pub one_of : (TickAnswer → Bool) → Option TickAnswer → ℕ
one_of is_kind None = 0
one_of is_kind (Some answer) = cond (is_kind answer) 1 0

-- how many answers there are, of all kinds
abbrev pub answers_of_counts : AnswerCounts → ℕ
answers_of_counts counts = counts.published + counts.undecided + counts.refused

-- no line has more than one answer
abbrev pub AnswersAreFew : AnswerCounts → Type 0
AnswersAreFew counts = answers_of_counts counts ≤ counts.lines

-- the counts are those of the events: of their lines, and by kinds of the tick function's answers to their ticks
pub record HasCounted (events : List Event) (counts : AnswerCounts) : Type 0 where
  pub lines : counts.lines ≡ length events
  pub answers : List Answered
  pub are_answers : AnswerTicks INDEX_DAYS INDEX_WINDOW events answers
  pub published : counts.published ≡ count_answers is_published answers
  pub undecided : counts.undecided ≡ count_answers is_undecided answers
  pub refused : counts.refused ≡ count_answers is_refused answers

-- and the replay stands for these events
pub record HasCountedAlong (replay : Replay) (counts : AnswerCounts) (events : List Event) : Type 0 where
  pub stands : ReplayStandsFor replay events
  pub counted : HasCounted events counts

-- the same of what counts the answers to a feed's ticks
abbrev pub CountsStandFor : CountedReplay → List Event → Type 0
CountsStandFor counted events = HasCountedAlong counted.replay counted.counts events

-- the counts of a feed's text where no line is bad, or else its bad line; a text in memory has no fault of a device,
-- and want of memory says nothing
abbrev pub CountsText : List ℕ → Result AnswerCounts FeedStop → Type 0
CountsText text (Ok counts) = (bad_line text ≡ None) × HasCounted (lawful_prefix text) counts
CountsText text (Err (BadLine line why)) = bad_line text ≡ Some (record { line = line; cause = bad_cause why })
CountsText text (Err Device) = ⊥
CountsText text (Err NoMemory) = Unit {0}

-- `published,undecided,refused`
abbrev pub kinds_line : AnswerCounts → Text
kinds_line counts = line_of (count_text counts.published ∷ count_text counts.undecided ∷ count_text counts.refused ∷ [])

-- `DRILL,lines,ticks,published,undecided,refused`
abbrev pub drill_line : AnswerCounts → Text
drill_line counts =
    line_of (codes "DRILL" ∷ count_text counts.lines ∷ count_text (answers_of_counts counts)
    ∷ count_text counts.published ∷ count_text counts.undecided ∷ count_text counts.refused ∷ [])
