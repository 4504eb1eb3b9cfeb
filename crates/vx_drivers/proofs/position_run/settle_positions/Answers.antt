use Rattle.std.proofs.Common.{sym, ap, refl, None}
use Rattle.vx_desk.specs.Told.{Told}
use Rattle.vx_reading.specs.FeedReading.{feed_told}
use Rattle.vx_desk.proofs.CallLemmas.{step_after}
use Rattle.vx_drivers.specs.declared.exit.Exit.TheVariants.{NoMemory}
use Rattle.vx_drivers.specs.Exits.{exit_calls}
use Rattle.vx_drivers.specs.Held.{held_in}
use Rattle.vx_drivers.specs.PositionSteps.{positions_told}
use Rattle.vx_drivers.proofs.ExitLemmas.{memory_not_side}
use Rattle.vx_drivers.proofs.PositionLinesLemmas.{fresh_lines}
use Rattle.vx_drivers.proofs.PositionRunLemmas.{nothing_sent, starts_open}
use Rattle.vx_drivers.proofs.position_run.settle_positions.Goals as goal

pub returns-in-Err-clause-ends : goal.returns-in-Err-clause-ends
returns-in-Err-clause-ends g c =
    let told = g.D.Desk.told c.args.desk.now in
    nothing_sent g.B.Sheet.SettlesPositions.rules (held_in told) (feed_told told) (positions_told told) told told NoMemory refl refl refl memory_not_side

pub returns-in-Err-open_run-clause-ends : goal.returns-in-Err-open_run-clause-ends
returns-in-Err-open_run-clause-ends g c = c.in-Err-open_run.ensures.opens (positions_told (g.D.Desk.told c.args.desk.now))
    (ap (λ (t : Told). t.left) (sym c.in-Err-open_run.ensures.side))

pub settle_all-requires-clause-lines : goal.settle_all-requires-clause-lines
settle_all-requires-clause-lines g c = fresh_lines c.in-Ok.positions c.in-Ok.ensures

pub settle_all-requires-clause-may : goal.settle_all-requires-clause-may
settle_all-requires-clause-may g c =
    let told = g.D.Desk.told c.args.desk.now in (
      held_in told,
      feed_told told,
      positions_told told,
      told,
      starts_open g.B.Sheet.SettlesPositions.rules g.B.Sheet.SettlesPositions.StandsAt told
          (g.D.Desk.told c.open_run.new.desk) c.in-Ok-open_run.run' c.in-Ok.positions
          c.in-Ok-open_run.ensures.opens c.in-Ok-open_run.ensures.side c.in-Ok.ensures,
    )

pub returns-clause-ends : goal.returns-clause-ends
returns-clause-ends g c =
    let told = g.D.Desk.told c.args.desk.now in
    c.in-Err-settle_all.ensures.all (held_in told) (feed_told told) (positions_told told) told
    (starts_open g.B.Sheet.SettlesPositions.rules g.B.Sheet.SettlesPositions.StandsAt told
    (g.D.Desk.told c.open_run.new.desk) c.in-Ok-open_run.run' c.in-Ok.positions
    c.in-Ok-open_run.ensures.opens c.in-Ok-open_run.ensures.side c.in-Ok.ensures)

pub finish-requires-clause-may : goal.finish-requires-clause-may
finish-requires-clause-may g c =
    let told = g.D.Desk.told c.args.desk.now in (
      held_in told,
      feed_told told,
      positions_told told,
      told,
      c.in-Ok-settle_all.ensures.all (held_in told) (feed_told told) (positions_told told) told
          (starts_open g.B.Sheet.SettlesPositions.rules g.B.Sheet.SettlesPositions.StandsAt told
          (g.D.Desk.told c.open_run.new.desk) c.in-Ok-open_run.run' c.in-Ok.positions
          c.in-Ok-open_run.ensures.opens c.in-Ok-open_run.ensures.side c.in-Ok.ensures),
    )

pub returns-in-Ok-settle_all-clause-ends : goal.returns-in-Ok-settle_all-clause-ends
returns-in-Ok-settle_all-clause-ends g c =
    let told = g.D.Desk.told c.args.desk.now in
    c.finish.ensures.ends (held_in told) (feed_told told) (positions_told told) told
    (c.in-Ok-settle_all.ensures.all (held_in told) (feed_told told) (positions_told told) told
    (starts_open g.B.Sheet.SettlesPositions.rules g.B.Sheet.SettlesPositions.StandsAt told
    (g.D.Desk.told c.open_run.new.desk) c.in-Ok-open_run.run' c.in-Ok.positions
    c.in-Ok-open_run.ensures.opens c.in-Ok-open_run.ensures.side c.in-Ok.ensures))

pub returns-clause-step : goal.returns-clause-step
returns-clause-step g c =
    step_after (exit_calls c.in-Err-settle_all.exit) (g.D.Desk.told c.args.desk.now) (g.D.Desk.told c.open_run.new.desk)
    (g.D.Desk.told c.settle_all.new.desk) c.in-Ok-open_run.ensures.step c.in-Err-settle_all.ensures.step

pub returns-in-Ok-settle_all-clause-step : goal.returns-in-Ok-settle_all-clause-step
returns-in-Ok-settle_all-clause-step g c =
    step_after (exit_calls c.finish.result) (g.D.Desk.told c.args.desk.now) (g.D.Desk.told c.settle_all.new.desk) (g.D.Desk.told c.finish.new.desk)
    (step_after None (g.D.Desk.told c.args.desk.now) (g.D.Desk.told c.open_run.new.desk)
    (g.D.Desk.told c.settle_all.new.desk) c.in-Ok-open_run.ensures.step c.in-Ok-settle_all.ensures.step)
    c.finish.ensures.step
