use Rattle.vx_desk.specs.declared.device.Slot.TheVariants.{Feed}
use Rattle.vx_reading.specs.FeedReading.{feed_told}
use Rattle.vx_desk.proofs.CallLemmas.{step_after}
use Rattle.vx_drivers.specs.Exits.{exit_calls}
use Rattle.vx_drivers.proofs.TickRunLemmas.{never_started, starts}
use Rattle.vx_drivers.proofs.tick_run.answer_ticks.Goals as goal

pub returns-in-Err-clause-ends : goal.returns-in-Err-clause-ends
returns-in-Err-clause-ends g c =
    never_started g.T.AnswersTicks.rules (feed_told (g.D.Desk.told c.args.desk.now)) (g.D.Desk.told c.args.desk.now)

pub answer_all-requires-clause-may : goal.answer_all-requires-clause-may
answer_all-requires-clause-may g c = (
  (g.D.Desk.told c.args.desk.now Feed).left,
  feed_told (g.D.Desk.told c.args.desk.now),
  (g.D.Desk.told c.args.desk.now),
  starts g.T.AnswersTicks.rules g.T.TakesEvents.StandsFor c.in-Ok.run'
      (g.D.Desk.told c.args.desk.now) c.in-Ok.ensures,
)

pub returns-clause-ends : goal.returns-clause-ends
returns-clause-ends g c = c.in-Err-answer_all.ensures.all (g.D.Desk.told c.args.desk.now Feed).left (feed_told (g.D.Desk.told c.args.desk.now))
    (g.D.Desk.told c.args.desk.now)
    (starts g.T.AnswersTicks.rules g.T.TakesEvents.StandsFor c.in-Ok.run' (g.D.Desk.told c.args.desk.now)
    c.in-Ok.ensures)

pub finish-requires-clause-may : goal.finish-requires-clause-may
finish-requires-clause-may g c = (
  (g.D.Desk.told c.args.desk.now Feed).left,
  feed_told (g.D.Desk.told c.args.desk.now),
  (g.D.Desk.told c.args.desk.now),
  c.in-Ok-answer_all.ensures.all (g.D.Desk.told c.args.desk.now Feed).left
      (feed_told (g.D.Desk.told c.args.desk.now)) (g.D.Desk.told c.args.desk.now)
      (starts g.T.AnswersTicks.rules g.T.TakesEvents.StandsFor c.in-Ok.run' (g.D.Desk.told c.args.desk.now)
      c.in-Ok.ensures),
)

pub returns-in-Ok-answer_all-clause-ends : goal.returns-in-Ok-answer_all-clause-ends
returns-in-Ok-answer_all-clause-ends g c = c.finish.ensures.ends (g.D.Desk.told c.args.desk.now Feed).left (feed_told (g.D.Desk.told c.args.desk.now))
    (g.D.Desk.told c.args.desk.now)
    (c.in-Ok-answer_all.ensures.all (g.D.Desk.told c.args.desk.now Feed).left (feed_told (g.D.Desk.told c.args.desk.now)) (g.D.Desk.told c.args.desk.now)
    (starts g.T.AnswersTicks.rules g.T.TakesEvents.StandsFor c.in-Ok.run' (g.D.Desk.told c.args.desk.now)
    c.in-Ok.ensures))

pub returns-in-Ok-answer_all-clause-step : goal.returns-in-Ok-answer_all-clause-step
returns-in-Ok-answer_all-clause-step g c =
    step_after (exit_calls c.finish.result) (g.D.Desk.told c.args.desk.now) (g.D.Desk.told c.answer_all.new.desk)
    (g.D.Desk.told c.finish.new.desk) c.in-Ok-answer_all.ensures.step c.finish.ensures.step
