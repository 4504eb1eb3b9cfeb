-- What is kept of the answer to the last event. This project's own.
use Rattle.std.specs.Prelude.{ℕ, List, length, Option, option_map}
use Rattle.vx_feed.specs.declared.events.Event.{Event}
use Rattle.vx_replay.specs.declared.replay.Replay.{Replay}
use Rattle.vx_replay.specs.StandsFor.{ReplayStandsFor}
use Rattle.vx_cli.specs.declared.replay.TickAnswers.{TickAnswers}
use Rattle.vx_cli.specs.declared.replay.TimedAnswer.{TimedAnswer}
use Rattle.vx_cli.specs.ReplayRuns.{GivesAnswer}
use Rattle.vx_cli.specs.ReplayText.{Answered}

-- the answer of the tick at a line
abbrev pub answered_at : ℕ → TimedAnswer → Answered
answered_at line last = record { tick = record { line = line; time = last.time }; answer = last.answer }

-- this is what the last of some events is answered
abbrev pub GivesTimed : List Event → Option TimedAnswer → Type 0
GivesTimed events last = GivesAnswer events (option_map (answered_at (length events)) last)

-- the replay stands for the events, and this is what the last of them is answered
pub record HasAnsweredLast (replay : Replay) (last : Option TimedAnswer) (events : List Event) : Type 0 where
  pub stands : ReplayStandsFor replay events
  pub gives : GivesTimed events last

-- the same of what answers a feed's ticks
abbrev pub AnswersStandFor : TickAnswers → List Event → Type 0
AnswersStandFor answers events = HasAnsweredLast answers.replay answers.last events
