-- A run of `settle` is there.
use Rattle.std.proofs.Common.{◌≡◌, refl, ℕ, List, Option, Some, None, Result, Ok, Err}
use Rattle.vx_feed.specs.declared.events.Event.{Event}
use Rattle.vx_feed.specs.Feed.{reading_of}
use Rattle.vx_feed.specs.Opening.{opening_time}
use Rattle.vx_feed.specs.Order.{AreLawful}
use Rattle.vx_settle.specs.declared.fault.PositionFault.{PositionFault}
use Rattle.vx_settle.specs.declared.position.Position.{Position}
use Rattle.vx_settle.specs.Form.{position_of_line}
use Rattle.vx_settle.proofs.Amounts.{amount_is_there}
use Rattle.vx_soq.proofs.LawfulOpenings.{opening_answer_is_lawful}
use Rattle.vx_drivers.specs.PositionRun.{positions_of}
use Rattle.vx_drivers.proofs.PositionRunIsThere.{run_is_there as position_run_is_there}
use Rattle.vx_cli.specs.SettleRuns.{AnsweredOpening, IsAnsweredOpening, LineComesTo}
use Rattle.vx_cli.specs.SettleText.{Settled, figure_of}
use Rattle.vx_feed.proofs.ReadingLemmas.{prefix_is_lawful}
use Rattle.vx_existence.proofs.Openings.{opening_has_answer}
use Rattle.vx_whole.specs.Runs.{SettleIsThere, amounts_alone}

opening_is_there : (events : List Event) → AreLawful events → (a : AnsweredOpening) × IsAnsweredOpening events a
opening_is_there events lawful =
    let found = opening_has_answer events in (
      record { time = opening_time events; answer = found.0 },
      record {
        time_is = refl;
        is_answer = found.1;
        is_lawful = opening_answer_is_lawful events found.0 lawful found.1;
      },
    )

abbrev Comes : Option ℕ → List ℕ → Type 0
Comes figure line = (said : Result (Option Settled) PositionFault) × LineComesTo figure line said

position_comes : (figure : Option ℕ) (line : List ℕ) (p : Position) → position_of_line line ≡ Ok p → Comes figure line
position_comes None line p is = (Ok None, (p, is, refl))
position_comes (Some figure) line p is =
    let amount = amount_is_there figure p in
    (Ok (Some (record { position = p; amount = amount.0 })), (p, is, (amount.0, amount.1, refl)))

line_comes : (figure : Option ℕ) (line : List ℕ) (said : Result Position PositionFault) → position_of_line line ≡ said → Comes figure line
line_comes figure line (Ok p) is = position_comes figure line p is
line_comes figure line (Err fault) is = (Err fault, is)

-- a run of `settle` is there
pub settle_is_there : SettleIsThere
settle_is_there feed positions =
    position_run_is_there amounts_alone (reading_of feed) (positions_of positions) (record {
      opens = opening_is_there (reading_of feed).events (prefix_is_lawful feed);
      comes = λ a line is_opening. line_comes (figure_of a.answer) line (position_of_line line) refl;
    })
