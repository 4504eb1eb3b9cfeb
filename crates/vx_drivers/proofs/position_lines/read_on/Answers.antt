use Rattle.std.proofs.Common.{◌∙◌, sym, ap, subst}
use Rattle.vx_desk.specs.declared.device.Slot.TheVariants.{Side}
use Rattle.vx_desk.specs.Calls.{IsStep}
use Rattle.vx_drivers.specs.declared.exit.Exit.{Exit}
use Rattle.vx_drivers.specs.Exits.{exit_calls, is_cut}
use Rattle.vx_drivers.specs.PositionExits.{IsPositionExit}
use Rattle.vx_drivers.specs.PositionLines.{StopsReading}
use Rattle.vx_drivers.proofs.PositionLinesLemmas.{read_cuts, read_exits, read_named, stops_reading}
use Rattle.vx_drivers.proofs.position_lines.read_on.Goals as goal

pub returns-in-Err-clause-read : goal.returns-in-Err-clause-read
returns-in-Err-clause-read g c = λ lines held given.
    let told = g.D.Desk.told c.args.desk.now in
    let now = g.D.Desk.told c.read_on.new.desk in
    subst (λ (exit : Exit). StopsReading lines held (now Side) exit) (sym c.exit_of_read.ensures)
    (stops_reading c.args.positions.now c.read_on.new.self told now c.in-Err.stop c.requires.lines c.in-Err.ensures.same
    c.in-Err.ensures.comes_on c.in-Err.ensures.ahead c.in-Err.ensures.fault c.in-Err.ensures.given lines held given)

pub returns-in-Err-clause-cut : goal.returns-in-Err-clause-cut
returns-in-Err-clause-cut g c = ap is_cut c.exit_of_read.ensures ∙ read_cuts c.in-Err.stop

pub returns-in-Err-clause-exits : goal.returns-in-Err-clause-exits
returns-in-Err-clause-exits g c = subst IsPositionExit (sym c.exit_of_read.ensures) (read_exits c.in-Err.stop)

pub returns-in-Err-clause-step : goal.returns-in-Err-clause-step
returns-in-Err-clause-step g c =
    subst (λ failed. IsStep failed (g.D.Desk.told c.args.desk.now) (g.D.Desk.told c.read_on.new.desk))
    (sym (ap exit_calls c.exit_of_read.ensures ∙ read_named c.args.positions.now.lines.slot c.in-Err.stop c.requires.lines.slot)) c.in-Err.ensures.step
