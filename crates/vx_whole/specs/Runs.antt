-- That every run is there: whatever the bytes of the files, a command has an exit and the texts that it writes. That it has
-- at most one of them is said where the commands are.
use Rattle.std.specs.Prelude.{ℕ, List, Option}
use Rattle.vx_feed.specs.Feed.{reading_of}
use Rattle.vx_drivers.specs.declared.exit.Exit.{Exit}
use Rattle.vx_drivers.specs.PositionRun.{PositionRules, RunsPositions, positions_of}
use Rattle.vx_drivers.specs.TickRun.{TickRules, RunsTicks}
use Rattle.vx_cli.specs.CheckRuns.{Checks}
use Rattle.vx_drivers.specs.Sending.{Text}
use Rattle.vx_cli.specs.ReplayRuns.{GivesAnswer, replay_rules}
use Rattle.vx_cli.specs.ReplayText.{Answered}
use Rattle.vx_cli.specs.SettleRuns.{AnsweredOpening, IsAnsweredOpening, settle_rules}
use Rattle.vx_cli.specs.SettleText.{Settled}

-- over any feed and any file of certificates there is a run of `check`
abbrev pub CheckIsThere : Type 0
CheckIsThere = (feed certs : List ℕ) → (exit : Exit) × (text : Text) × Checks feed certs exit text

-- what `replay` makes of a feed's events, less the promise that each certificate is read back from its line: that is known
-- of each one that was written
abbrev pub answers_alone : TickRules Answered
answers_alone = record {
  IsGiven = GivesAnswer;
  certificate = replay_rules.certificate;
  line = replay_rules.line;
  tally = replay_rules.tally;
}

-- over any feed there is such a run
abbrev pub ReplayIsThere : Type 0
ReplayIsThere = (feed : List ℕ) →
    (exit : Exit) × (out : Text) × (certs : Text) × RunsTicks answers_alone (reading_of feed) exit out certs

-- what `settle` makes of a feed's events and of lines of positions, less the same promise
abbrev pub amounts_alone : PositionRules AnsweredOpening (Option Settled)
amounts_alone = record {
  IsOpening = IsAnsweredOpening;
  certificate = settle_rules.certificate;
  line = settle_rules.line;
  ComesTo = settle_rules.ComesTo;
  item_line = settle_rules.item_line;
  last_lines = settle_rules.last_lines;
}

-- over any feed and any file of positions there is such a run
abbrev pub SettleIsThere : Type 0
SettleIsThere = (feed positions : List ℕ) → (exit : Exit) × (out : Text) × (certs : Text)
    × RunsPositions amounts_alone (reading_of feed) (positions_of positions) exit out certs
