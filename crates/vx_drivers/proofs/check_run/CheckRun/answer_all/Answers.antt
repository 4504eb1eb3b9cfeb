use Rattle.std.proofs.Common.{subst, Bool, Ok}
use Rattle.vx_desk.proofs.CallLemmas.{step_after}
use Rattle.vx_drivers.specs.CertificateSteps.{GoesOn, allowed, answered_lines}
use Rattle.vx_drivers.specs.Exits.{exit_calls}
use Rattle.vx_drivers.proofs.check_run.CheckRun.answer_all.Goals as goal

pub returns-in-Ok-false-clause-all : goal.returns-in-Ok-false-clause-all
returns-in-Ok-false-clause-all g c = λ held feed certs before way.
    subst (λ (b : Bool). GoesOn g.C.AnswersCertificates.rules g.B.TakesEvents.StandsFor held feed certs before c.answer_next.new.self c.answer_next.new.certs (g.D.Desk.told c.answer_next.new.desk) (allowed (answered_lines c.answer_next.new.self) c.answer_next.new.certs (g.D.Desk.told c.answer_next.new.desk)) (Ok b)) c.in-Ok-false.field-0-test
    (c.in-Ok-false.ensures.goes held feed certs before (c.lines.invariant.way held feed certs before way))

pub returns-in-Err-clause-step : goal.returns-in-Err-clause-step
returns-in-Err-clause-step g c =
    let step = step_after (exit_calls c.in-Err.exit) (g.D.Desk.told c.args.desk.now) (g.D.Desk.told c.lines.desk) (g.D.Desk.told c.answer_next.new.desk) c.lines.invariant.step c.in-Err.ensures.step in
    record { failures = step.failures; slots = step.slots }
