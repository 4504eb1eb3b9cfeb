use Rattle.std.proofs.Common.{subst, Bool, Ok}
use Rattle.vx_desk.proofs.CallLemmas.{step_after}
use Rattle.vx_drivers.specs.Exits.{exit_calls}
use Rattle.vx_drivers.specs.TickSteps.{GoesOnTicks}
use Rattle.vx_drivers.proofs.tick_run.TickRun.answer_all.Goals as goal

pub returns-in-Ok-false-clause-all : goal.returns-in-Ok-false-clause-all
returns-in-Ok-false-clause-all g c = λ held feed before way.
    subst (λ (b : Bool). GoesOnTicks g.T.AnswersTicks.rules g.T.TakesEvents.StandsFor held feed before c.answer_next.new.self
    (g.D.Desk.told c.answer_next.new.desk) (Ok b)) c.in-Ok-false.field-0-test
    (c.in-Ok-false.ensures.goes held feed before (c.events.invariant.way held feed before way))

pub returns-in-Err-clause-step : goal.returns-in-Err-clause-step
returns-in-Err-clause-step g c =
    let step = step_after (exit_calls c.in-Err.exit) (g.D.Desk.told c.args.desk.now) (g.D.Desk.told c.events.desk)
    (g.D.Desk.told c.answer_next.new.desk) c.events.invariant.step c.in-Err.ensures.step in
    record { failures = step.failures; slots = step.slots }
