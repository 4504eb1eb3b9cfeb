use Rattle.vx_desk.proofs.CallLemmas.{step_after}
use Rattle.vx_desk.specs.declared.device.Slot.TheVariants.{Out}
use Rattle.vx_drivers.specs.CertificateSteps.{certs_told}
use Rattle.vx_drivers.specs.Exits.{exit_calls}
use Rattle.vx_drivers.specs.Held.{held_in}
use Rattle.vx_reading.specs.FeedReading.{feed_told}
use Rattle.vx_drivers.proofs.RunLemmas.{never_started, starts_new}
use Rattle.vx_drivers.proofs.check_run.answer_certificates.Goals as goal

pub returns-in-Err-clause-ends : goal.returns-in-Err-clause-ends
returns-in-Err-clause-ends g c = never_started g.C.AnswersCertificates.rules (g.D.Desk.told c.args.desk.now)

pub returns-in-Err-new-clause-ends : goal.returns-in-Err-new-clause-ends
returns-in-Err-new-clause-ends g c = never_started g.C.AnswersCertificates.rules (g.D.Desk.told c.args.desk.now)

pub answer_all-requires-clause-way : goal.answer_all-requires-clause-way
answer_all-requires-clause-way g c = (
  held_in (g.D.Desk.told c.args.desk.now),
  feed_told (g.D.Desk.told c.args.desk.now),
  certs_told (g.D.Desk.told c.args.desk.now),
  g.D.Desk.told c.args.desk.now Out,
  starts_new g.C.AnswersCertificates.rules g.C.Book.TakesEvents.StandsFor c.in-Ok-new.run' c.in-Ok.certs (g.D.Desk.told c.args.desk.now) c.in-Ok-new.ensures c.in-Ok.ensures,
)

pub returns-clause-ends : goal.returns-clause-ends
returns-clause-ends g c =
    c.in-Err-answer_all.ensures.all (held_in (g.D.Desk.told c.args.desk.now)) (feed_told (g.D.Desk.told c.args.desk.now)) (certs_told (g.D.Desk.told c.args.desk.now)) (g.D.Desk.told c.args.desk.now Out)
    (starts_new g.C.AnswersCertificates.rules g.C.Book.TakesEvents.StandsFor c.in-Ok-new.run' c.in-Ok.certs (g.D.Desk.told c.args.desk.now) c.in-Ok-new.ensures c.in-Ok.ensures)

pub finish-requires-clause-way : goal.finish-requires-clause-way
finish-requires-clause-way g c = (
  held_in (g.D.Desk.told c.args.desk.now),
  feed_told (g.D.Desk.told c.args.desk.now),
  certs_told (g.D.Desk.told c.args.desk.now),
  g.D.Desk.told c.args.desk.now Out,
  c.in-Ok-answer_all.ensures.all (held_in (g.D.Desk.told c.args.desk.now)) (feed_told (g.D.Desk.told c.args.desk.now)) (certs_told (g.D.Desk.told c.args.desk.now)) (g.D.Desk.told c.args.desk.now Out)
      (starts_new g.C.AnswersCertificates.rules g.C.Book.TakesEvents.StandsFor c.in-Ok-new.run' c.in-Ok.certs (g.D.Desk.told c.args.desk.now) c.in-Ok-new.ensures c.in-Ok.ensures),
)

pub returns-in-Ok-answer_all-clause-ends : goal.returns-in-Ok-answer_all-clause-ends
returns-in-Ok-answer_all-clause-ends g c =
    c.finish.ensures.ends (held_in (g.D.Desk.told c.args.desk.now)) (feed_told (g.D.Desk.told c.args.desk.now)) (certs_told (g.D.Desk.told c.args.desk.now)) (g.D.Desk.told c.args.desk.now Out)
    (c.in-Ok-answer_all.ensures.all (held_in (g.D.Desk.told c.args.desk.now)) (feed_told (g.D.Desk.told c.args.desk.now)) (certs_told (g.D.Desk.told c.args.desk.now)) (g.D.Desk.told c.args.desk.now Out)
    (starts_new g.C.AnswersCertificates.rules g.C.Book.TakesEvents.StandsFor c.in-Ok-new.run' c.in-Ok.certs (g.D.Desk.told c.args.desk.now) c.in-Ok-new.ensures c.in-Ok.ensures))

pub returns-in-Ok-answer_all-clause-step : goal.returns-in-Ok-answer_all-clause-step
returns-in-Ok-answer_all-clause-step g c =
    step_after (exit_calls c.finish.result) (g.D.Desk.told c.args.desk.now) (g.D.Desk.told c.answer_all.new.desk) (g.D.Desk.told c.finish.new.desk) c.in-Ok-answer_all.ensures.step c.finish.ensures.step
