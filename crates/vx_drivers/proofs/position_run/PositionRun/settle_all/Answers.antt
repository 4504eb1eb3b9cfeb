use Rattle.std.proofs.Common.{subst, Bool, Ok}
use Rattle.vx_desk.proofs.CallLemmas.{step_after}
use Rattle.vx_drivers.specs.Exits.{exit_calls}
use Rattle.vx_drivers.specs.PositionSteps.{GoesOnPositions, allowed_positions}
use Rattle.vx_drivers.proofs.position_run.PositionRun.settle_all.Goals as goal

pub returns-in-Ok-false-clause-all : goal.returns-in-Ok-false-clause-all
returns-in-Ok-false-clause-all g c = λ held feed positions before way.
    subst (λ (b : Bool). GoesOnPositions g.S.SettlesPositions.rules g.S.SettlesPositions.StandsAt held feed positions before c.settle_next.new.self c.settle_next.new.positions
    (g.D.Desk.told c.settle_next.new.desk) (allowed_positions c.settle_next.new.self.count c.settle_next.new.positions (g.D.Desk.told c.settle_next.new.desk)) (Ok b))
    c.in-Ok-false.field-0-test (c.in-Ok-false.ensures.goes held feed positions before (c.lines.invariant.way held feed positions before way))

pub returns-in-Err-clause-step : goal.returns-in-Err-clause-step
returns-in-Err-clause-step g c =
    let step = step_after (exit_calls c.in-Err.exit) (g.D.Desk.told c.args.desk.now) (g.D.Desk.told c.lines.desk)
    (g.D.Desk.told c.settle_next.new.desk) c.lines.invariant.step c.in-Err.ensures.step in
    record { failures = step.failures; slots = step.slots }
