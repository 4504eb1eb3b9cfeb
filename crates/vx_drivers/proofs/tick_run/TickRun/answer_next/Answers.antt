use Rattle.std.proofs.Common.{◌∙◌, sym, subst, ap, refl, [], ◌∷◌, ◌++◌, ◌≤◌, None, Some}
use Rattle.vx_desk.specs.declared.device.Slot.TheVariants.{Out, Certs}
use Rattle.vx_feed.specs.declared.limits.TheConstants.{LINES_MAX}
use Rattle.vx_reading.specs.declared.feed.FeedReader.{FeedReader}
use Rattle.vx_desk.proofs.CallLemmas.{step_after}
use Rattle.vx_reading.proofs.FeedLemmas.{found_is}
use Rattle.vx_drivers.specs.Exits.{exit_calls}
use Rattle.vx_drivers.specs.TickExits.{IsTickExit}
use Rattle.vx_drivers.specs.TickSteps.{HasEndedTicks}
use Rattle.vx_drivers.proofs.ExitLemmas.{certs_not_feed, out_not_feed}
use Rattle.vx_drivers.proofs.TickLemmas.{few_read, one_read, stop_exit}
use Rattle.vx_drivers.proofs.TickRunLemmas.{answered_on, event_ends, feed_ended, is_at_event, stop_ends}
use Rattle.vx_drivers.proofs.tick_run.TickRun.answer_next.Goals as goal

pub returns-in-Ok-None-clause-goes : goal.returns-in-Ok-None-clause-goes
returns-in-Ok-None-clause-goes g c = λ held feed before way.
    let end = found_is g.T.TakesEvents.StandsFor held feed way.stand.events c.read_next.new.self
    (g.D.Desk.told c.read_next.new.desk) c.in-Ok-None.field-0 None c.in-Ok-None.field-0-is
    (c.in-Ok-None.ensures.reads held feed way.stand.events way.between.at) in
    feed_ended g.T.AnswersTicks.rules g.T.TakesEvents.StandsFor held feed before c.args.self.now
    (record c.args.self.now { feed = c.read_next.new.self }) (g.D.Desk.told c.args.desk.now)
    (g.D.Desk.told c.read_next.new.desk)
    way end.0 end.1 refl refl refl (c.in-Ok-None.ensures.others Out out_not_feed)
    (c.in-Ok-None.ensures.others Certs certs_not_feed)

pub returns-in-Err-clause-goes : goal.returns-in-Err-clause-goes
returns-in-Err-clause-goes g c = λ held feed before way.
    subst (λ e. HasEndedTicks g.T.AnswersTicks.rules held feed before (g.D.Desk.told c.read_next.new.desk) e)
    (sym c.from.ensures)
    (stop_ends g.T.AnswersTicks.rules g.T.TakesEvents.StandsFor held feed before c.args.self.now c.read_next.new.self
    (g.D.Desk.told c.args.desk.now) (g.D.Desk.told c.read_next.new.desk) c.in-Err.stop
    way (c.in-Err.ensures.others Out out_not_feed) (c.in-Err.ensures.others Certs certs_not_feed)
    (c.in-Err.ensures.stays_read held way.stand.events way.between.at.read)
    (c.in-Err.ensures.reads held feed way.stand.events way.between.at))

pub returns-in-Err-clause-exits : goal.returns-in-Err-clause-exits
returns-in-Err-clause-exits g c =
    let held = c.requires.may.0 in
    let feed = c.requires.may.1 in
    let way = c.requires.may.3 in
    subst IsTickExit (sym c.from.ensures)
    (stop_exit g.T.TakesEvents.StandsFor held feed way.stand.events c.read_next.new.self (g.D.Desk.told c.read_next.new.desk)
    c.in-Err.stop (c.in-Err.ensures.reads held feed way.stand.events way.between.at))

pub answer_last-requires-clause-may : goal.answer_last-requires-clause-may
answer_last-requires-clause-may g c =
    let held = c.requires.may.0 in
    let feed = c.requires.may.1 in
    let before = c.requires.may.2 in
    let way = c.requires.may.3 in
    let at = found_is g.T.TakesEvents.StandsFor held feed way.stand.events c.read_next.new.self
    (g.D.Desk.told c.read_next.new.desk) c.in-Ok-Some.field-0 (Some c.in-Ok-Some._event) c.in-Ok-Some.field-0-is
    (c.in-Ok-Some.ensures.reads held feed way.stand.events way.between.at) in (
      held,
      feed,
      way.stand,
      c.in-Ok-Some._event,
      is_at_event g.T.AnswersTicks.rules g.T.TakesEvents.StandsFor held feed before
          c.args.self.now (record c.args.self.now { feed = c.read_next.new.self }) (g.D.Desk.told c.args.desk.now)
          (g.D.Desk.told c.read_next.new.desk) c.in-Ok-Some._event way at refl refl refl,
    )

pub returns-in-Ok-clause-goes : goal.returns-in-Ok-clause-goes
returns-in-Ok-clause-goes g c = λ held feed before way.
    let at = found_is g.T.TakesEvents.StandsFor held feed way.stand.events c.read_next.new.self
    (g.D.Desk.told c.read_next.new.desk) c.in-Ok-Some.field-0 (Some c.in-Ok-Some._event) c.in-Ok-Some.field-0-is
    (c.in-Ok-Some.ensures.reads held feed way.stand.events way.between.at) in
    let at_event = is_at_event g.T.AnswersTicks.rules g.T.TakesEvents.StandsFor held feed before c.args.self.now
    (record c.args.self.now { feed = c.read_next.new.self }) (g.D.Desk.told c.args.desk.now)
    (g.D.Desk.told c.read_next.new.desk) c.in-Ok-Some._event way at refl refl refl in
    answered_on g.T.AnswersTicks.rules g.T.TakesEvents.StandsFor held feed before c.args.self.now c.answer_last.new.self
    (g.D.Desk.told c.args.desk.now) (g.D.Desk.told c.read_next.new.desk) (g.D.Desk.told c.answer_last.new.desk)
    c.in-Ok-Some._event
    way (c.in-Ok-Some.ensures.others Out out_not_feed) (c.in-Ok-Some.ensures.others Certs certs_not_feed)
    (c.in-Ok.ensures.gives held feed way.stand c.in-Ok-Some._event at_event)

pub returns-in-Err-answer_last-clause-goes : goal.returns-in-Err-answer_last-clause-goes
returns-in-Err-answer_last-clause-goes g c = λ held feed before way.
    let at = found_is g.T.TakesEvents.StandsFor held feed way.stand.events c.read_next.new.self
    (g.D.Desk.told c.read_next.new.desk) c.in-Ok-Some.field-0 (Some c.in-Ok-Some._event) c.in-Ok-Some.field-0-is
    (c.in-Ok-Some.ensures.reads held feed way.stand.events way.between.at) in
    let at_event = is_at_event g.T.AnswersTicks.rules g.T.TakesEvents.StandsFor held feed before c.args.self.now
    (record c.args.self.now { feed = c.read_next.new.self }) (g.D.Desk.told c.args.desk.now)
    (g.D.Desk.told c.read_next.new.desk) c.in-Ok-Some._event way at refl refl refl in
    event_ends g.T.AnswersTicks.rules g.T.TakesEvents.StandsFor held feed before c.args.self.now c.read_next.new.self
    (g.D.Desk.told c.args.desk.now) (g.D.Desk.told c.read_next.new.desk) (g.D.Desk.told c.answer_last.new.desk)
    c.in-Ok-Some._event c.in-Err-answer_last.exit
    way (c.in-Ok-Some.ensures.others Out out_not_feed) (c.in-Ok-Some.ensures.others Certs certs_not_feed)
    (c.in-Ok-Some.ensures.stays_read held way.stand.events way.between.at.read) at
    c.in-Err-answer_last.ensures.unread
    (c.in-Err-answer_last.ensures.gives held feed way.stand c.in-Ok-Some._event at_event)

pub returns-in-Ok-clause-read : goal.returns-in-Ok-clause-read
returns-in-Ok-clause-read g c =
    let held = c.requires.may.0 in
    let feed = c.requires.may.1 in
    let way = c.requires.may.3 in
    let at = found_is g.T.TakesEvents.StandsFor held feed way.stand.events c.read_next.new.self
    (g.D.Desk.told c.read_next.new.desk) c.in-Ok-Some.field-0 (Some c.in-Ok-Some._event) c.in-Ok-Some.field-0-is
    (c.in-Ok-Some.ensures.reads held feed way.stand.events way.between.at) in
    λ more. ap (λ (f : FeedReader _). f.count) c.in-Ok.ensures.feed
    ∙ one_read g.T.TakesEvents.StandsFor held feed way.stand.events c.in-Ok-Some._event c.args.self.now.feed
    c.read_next.new.self (g.D.Desk.told c.args.desk.now) (g.D.Desk.told c.read_next.new.desk) way.between.at at

pub returns-in-Ok-clause-few : goal.returns-in-Ok-clause-few
returns-in-Ok-clause-few g c =
    let held = c.requires.may.0 in
    let feed = c.requires.may.1 in
    let way = c.requires.may.3 in
    let at = found_is g.T.TakesEvents.StandsFor held feed way.stand.events c.read_next.new.self
    (g.D.Desk.told c.read_next.new.desk) c.in-Ok-Some.field-0 (Some c.in-Ok-Some._event) c.in-Ok-Some.field-0-is
    (c.in-Ok-Some.ensures.reads held feed way.stand.events way.between.at) in
    subst (λ (f : FeedReader _). f.count ≤ LINES_MAX) (sym c.in-Ok.ensures.feed)
    (few_read g.T.TakesEvents.StandsFor held feed (way.stand.events ++ c.in-Ok-Some._event ∷ []) c.read_next.new.self
    (g.D.Desk.told c.read_next.new.desk) at)

pub returns-in-Ok-None-clause-few : goal.returns-in-Ok-None-clause-few
returns-in-Ok-None-clause-few g c =
    let held = c.requires.may.0 in
    let feed = c.requires.may.1 in
    let way = c.requires.may.3 in
    let end = found_is g.T.TakesEvents.StandsFor held feed way.stand.events c.read_next.new.self
    (g.D.Desk.told c.read_next.new.desk) c.in-Ok-None.field-0 None c.in-Ok-None.field-0-is
    (c.in-Ok-None.ensures.reads held feed way.stand.events way.between.at) in
    few_read g.T.TakesEvents.StandsFor held feed way.stand.events c.read_next.new.self (g.D.Desk.told c.read_next.new.desk) end.0

pub returns-in-Err-answer_last-clause-step : goal.returns-in-Err-answer_last-clause-step
returns-in-Err-answer_last-clause-step g c =
    step_after (exit_calls c.in-Err-answer_last.exit) (g.D.Desk.told c.args.desk.now) (g.D.Desk.told c.read_next.new.desk)
    (g.D.Desk.told c.answer_last.new.desk)
    (record { failures = c.in-Ok-Some.ensures.step.failures; slots = c.in-Ok-Some.ensures.step.slots })
    c.in-Err-answer_last.ensures.step
