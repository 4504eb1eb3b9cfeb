-- What `replay` makes of the events of a feed. This project's own.
use Rattle.std.specs.Prelude.{◌≡◌, ℕ, List, length, Option, Some, None, IfSome}
use Rattle.vx_clock.specs.declared.limits.TheConstants.{INDEX_DAYS, INDEX_WINDOW}
use Rattle.vx_feed.specs.declared.events.Event.{Event}
use Rattle.vx_feed.specs.Feed.{reading_of}
use Rattle.vx_claims.specs.Seen.{IsTickAt}
use Rattle.vx_drivers.specs.declared.ticks.Tally.{Tally}
use Rattle.vx_drivers.specs.declared.exit.Exit.{Exit}
use Rattle.vx_drivers.specs.TickRun.{TickRules, RunsTicks}
use Rattle.vx_replay.specs.declared.answer.TickAnswer.{TickAnswer}
use Rattle.vx_replay.specs.declared.answer.TickAnswer.TheVariants.{Published, UndecidedCents, UndecidedForward, Refused}
use Rattle.vx_replay.specs.Ticks.{IsIndexAnswer}
use Rattle.vx_replay.specs.Lawful.{IsLawfulAnswer}
use Rattle.vx_drivers.specs.Sending.{Text}
use Rattle.vx_cli.specs.ReadBack.{CertificateIsRead}
use Rattle.vx_cli.specs.ReplayText.{Answered, certified_text, tick_text}

-- the last of these events is a tick, and this is its answer: the tick function's, and a lawful one
pub record IsAnsweredLast (events : List Event) (a : Answered) : Type 0 where
  pub last : a.tick.line ≡ length events
  pub is_answer : IsIndexAnswer events a.tick.line a.tick.time a.answer
  pub is_lawful : IsLawfulAnswer INDEX_DAYS INDEX_WINDOW events a.tick.line a.tick.time a.answer

-- what the last of some events is given: an answer just where it is a tick
abbrev pub GivesAnswer : List Event → Option Answered → Type 0
GivesAnswer events (Some a) = IsAnsweredLast events a
GivesAnswer events None = (time : ℕ) → ¬ IsTickAt events (length events) time

-- and the answer's certificate, where it has one, is read back from the line that is written
abbrev pub GivesWritten : List Event → Option Answered → Type 0
GivesWritten events said = GivesAnswer events said × IfSome said (λ a. CertificateIsRead a.answer)

-- one answer by its kind
abbrev pub tally_of_answer : TickAnswer → Tally
tally_of_answer (Published cents lo hi certificate) = record { published = 1; undecided = 0; refused = 0 }
tally_of_answer (UndecidedCents lo hi) = record { published = 0; undecided = 1; refused = 0 }
tally_of_answer (UndecidedForward which strike lo hi) = record { published = 0; undecided = 1; refused = 0 }
tally_of_answer (Refused reason which) = record { published = 0; undecided = 0; refused = 1 }

-- what `replay` makes of a feed's events
abbrev pub replay_rules : TickRules Answered
replay_rules = record {
  IsGiven = GivesWritten;
  certificate = λ a. certified_text a.answer;
  line = λ a. tick_text INDEX_DAYS a.tick.time a.answer;
  tally = λ a. tally_of_answer a.answer;
}

-- the run of `replay` over a feed, as texts: how it ends, and what it writes to the output and to the file of certificates
abbrev pub Replays : List ℕ → Exit → Text → Text → Type 0
Replays feed exit out certs = RunsTicks replay_rules (reading_of feed) exit out certs
