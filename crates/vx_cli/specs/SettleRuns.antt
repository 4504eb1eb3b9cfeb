-- What `settle` makes of a feed and of lines of positions. This project's own.
use Rattle.std.specs.Prelude.{◌≡◌, ℕ, ℤ, List, Option, Some, None, Result, Ok, Err}
use Rattle.vx_feed.specs.declared.events.Event.{Event}
use Rattle.vx_feed.specs.Feed.{reading_of}
use Rattle.vx_feed.specs.Opening.{opening_time}
use Rattle.vx_settle.specs.declared.position.Position.{Position}
use Rattle.vx_settle.specs.declared.fault.PositionFault.{PositionFault}
use Rattle.vx_settle.specs.Form.{position_of_line}
use Rattle.vx_settle.specs.Amount.{IsAmount}
use Rattle.vx_soq.specs.declared.answer.OpeningAnswer.{OpeningAnswer}
use Rattle.vx_soq.specs.Openings.{IsOpeningAnswer}
use Rattle.vx_soq.specs.Lawful.{IsLawfulOpening}
use Rattle.vx_drivers.specs.declared.exit.Exit.{Exit}
use Rattle.vx_drivers.specs.PositionRun.{PositionRules, RunsPositions, positions_of}
use Rattle.vx_drivers.specs.Sending.{Text}
use Rattle.vx_cli.specs.ReadBack.{OpeningCertificateIsRead}
use Rattle.vx_cli.specs.SettleText.{Settled, figure_of, last_text, opening_certificate_text, opening_clock, opening_text, settled_line}

-- an opening, by its minute where one was taken, with its answer
pub record AnsweredOpening : Type 0 where
  pub time : Option ℕ
  pub answer : OpeningAnswer

-- this is the opening of the events, and its answer: that of the opening figure, and a lawful one
pub record IsAnsweredOpening (events : List Event) (a : AnsweredOpening) : Type 0 where
  pub time_is : a.time ≡ opening_time events
  pub is_answer : IsOpeningAnswer events a.answer
  pub is_lawful : IsLawfulOpening events a.answer

-- and the answer's certificate, where it has one, is read back from the line that is written
abbrev pub IsWrittenOpening : List Event → AnsweredOpening → Type 0
IsWrittenOpening events a = IsAnsweredOpening events a × OpeningCertificateIsRead a.answer

-- what a position settles to at a figure: its amount, or nothing without a figure
abbrev pub SettlesTo : Option ℕ → Position → Option Settled → Type 0
SettlesTo None p item = item ≡ None
SettlesTo (Some figure) p item =
    (amount : ℤ) × IsAmount figure p amount × (item ≡ Some (record { position = p; amount = amount }))

-- a line of positions is read with or without a figure
abbrev pub LineComesTo : Option ℕ → List ℕ → Result (Option Settled) PositionFault → Type 0
LineComesTo figure line (Ok item) = (p : Position) × (position_of_line line ≡ Ok p) × SettlesTo figure p item
LineComesTo figure line (Err fault) = position_of_line line ≡ Err fault

-- what `settle` makes of a feed's events and of lines of positions
abbrev pub settle_rules : PositionRules AnsweredOpening (Option Settled)
settle_rules = record {
  IsOpening = IsWrittenOpening;
  certificate = λ a. opening_certificate_text a.answer;
  line = λ a. opening_text (opening_clock a.time) a.answer;
  ComesTo = λ a line. LineComesTo (figure_of a.answer) line;
  item_line = settled_line;
  last_lines = λ a. last_text (figure_of a.answer);
}

-- the run of `settle` over a feed and a file of positions, as texts: how it ends, and what it writes to the output and
-- to the file of certificates
abbrev pub Settles : List ℕ → List ℕ → Exit → Text → Text → Type 0
Settles feed positions exit out certs =
    RunsPositions settle_rules (reading_of feed) (positions_of positions) exit out certs
