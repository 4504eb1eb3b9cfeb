use Rattle.std.proofs.Common.{◌∙◌, refl}
use Rattle.vx_desk.specs.declared.device.Slot.TheVariants.{Certs, Feed}
use Rattle.vx_reading.proofs.FeedLemmas.{events_read}
use Rattle.vx_drivers.specs.declared.exit.Exit.TheVariants.{NoMemory}
use Rattle.vx_drivers.proofs.ExitLemmas.{certs_not_out, feed_not_out, memory_not_read}
use Rattle.vx_drivers.proofs.TickLemmas.{counts_are}
use Rattle.vx_drivers.proofs.TickRunLemmas.{cut_short, last_cut, last_sent}
use Rattle.vx_drivers.proofs.tick_run.TickRun.finish.Goals as goal

pub returns-in-Err-clause-ends : goal.returns-in-Err-clause-ends
returns-in-Err-clause-ends g c = λ held feed before through.
    cut_short g.T.AnswersTicks.rules g.T.TakesEvents.StandsFor held feed before c.args.self.now (g.D.Desk.told c.args.desk.now)
    (g.D.Desk.told c.args.desk.now) NoMemory through.way refl refl refl
    (events_read held through.way.stand.events c.args.self.now.feed (g.D.Desk.told c.args.desk.now) through.way.between.at.read)
    memory_not_read

pub returns-in-Ok-send_line-clause-ends : goal.returns-in-Ok-send_line-clause-ends
returns-in-Ok-send_line-clause-ends g c = λ held feed before through.
    last_sent g.T.AnswersTicks.rules g.T.TakesEvents.StandsFor held feed before c.args.self.now (g.D.Desk.told c.args.desk.now)
    (g.D.Desk.told c.send_line.new.desk) c.as_slice.result.now
    through (c.in-Ok-send_line.ensures.others Certs certs_not_out)
    (c.as_slice.ensures.value ∙ c.in-Ok.ensures
    ∙ counts_are g.T.AnswersTicks.rules through.way.stand c.args.self.now through.way.between.counted)
    c.in-Ok-send_line.ensures.sends

pub returns-in-Err-send_line-clause-ends : goal.returns-in-Err-send_line-clause-ends
returns-in-Err-send_line-clause-ends g c = λ held feed before through.
    last_cut g.T.AnswersTicks.rules g.T.TakesEvents.StandsFor held feed before c.args.self.now (g.D.Desk.told c.args.desk.now)
    (g.D.Desk.told c.send_line.new.desk) c.as_slice.result.now c.in-Err-send_line.exit
    through (c.in-Err-send_line.ensures.others Certs certs_not_out) (c.in-Err-send_line.ensures.others Feed feed_not_out)
    (c.as_slice.ensures.value ∙ c.in-Ok.ensures
    ∙ counts_are g.T.AnswersTicks.rules through.way.stand c.args.self.now through.way.between.counted)
    c.in-Err-send_line.ensures.sends
