use Rattle.std.proofs.Common.{◌∙◌, sym, subst}
use Rattle.vx_desk.specs.declared.device.Slot.TheVariants.{Feed, Side, Out}
use Rattle.vx_drivers.specs.declared.exit.Exit.TheVariants.{NoMemory}
use Rattle.vx_drivers.specs.CertificateExits.{IsCertificateExit}
use Rattle.vx_drivers.specs.CertificateSteps.{HasEnded}
use Rattle.vx_drivers.proofs.CertificateLemmas.{out_of_memory}
use Rattle.vx_drivers.proofs.ExitLemmas.{feed_not_out, out_not_feed, side_not_feed, side_not_out}
use Rattle.vx_drivers.proofs.RunLemmas.{cut_at_end, end_exit, end_is, feed_ends, last_cut, last_sent}
use Rattle.vx_drivers.proofs.check_run.CheckRun.finish.Goals as goal

pub returns-in-Err-clause-ends : goal.returns-in-Err-clause-ends
returns-in-Err-clause-ends g c = λ held feed certs before through.
    subst (λ e. HasEnded g.C.AnswersCertificates.rules held feed certs before (g.D.Desk.told c.read_to_end.new.desk) e) (sym c.from.ensures)
    (feed_ends g.C.AnswersCertificates.rules g.B.TakesEvents.StandsFor held feed certs before c.args.self.now c.read_to_end.new.self (g.D.Desk.told c.args.desk.now) (g.D.Desk.told c.read_to_end.new.desk) c.in-Err.stop
    through (c.in-Err.ensures.others Out out_not_feed) (c.in-Err.ensures.others Side side_not_feed)
    (c.in-Err.ensures.stays_read held.feed through.2.between.events through.2.between.at.read)
    (c.in-Err.ensures.reads held.feed feed through.2.between.events through.2.between.at))

pub returns-in-Err-clause-exits : goal.returns-in-Err-clause-exits
returns-in-Err-clause-exits g c =
    subst IsCertificateExit (sym c.from.ensures)
    (end_exit g.C.AnswersCertificates.rules g.B.TakesEvents.StandsFor c.args.self.now c.read_to_end.new.self (g.D.Desk.told c.args.desk.now) (g.D.Desk.told c.read_to_end.new.desk) c.in-Err.stop
    c.requires.way c.in-Err.ensures.reads)

pub returns-in-Err-write_end-clause-ends : goal.returns-in-Err-write_end-clause-ends
returns-in-Err-write_end-clause-ends g c = λ held feed certs before through.
    cut_at_end g.C.AnswersCertificates.rules g.B.TakesEvents.StandsFor held feed certs before c.args.self.now (g.D.Desk.told c.args.desk.now) (g.D.Desk.told c.read_to_end.new.desk) NoMemory
    through (c.in-Ok.ensures.others Out out_not_feed) (c.in-Ok.ensures.others Side side_not_feed)
    (c.in-Ok.ensures.stays_read held.feed through.2.between.events through.2.between.at.read) out_of_memory

pub returns-in-Ok-send_line-clause-ends : goal.returns-in-Ok-send_line-clause-ends
returns-in-Ok-send_line-clause-ends g c = λ held feed certs before through.
    subst (λ e. HasEnded g.C.AnswersCertificates.rules held feed certs before (g.D.Desk.told c.send_line.new.desk) e) (sym c.said_exit.ensures.exit)
    (last_sent g.C.AnswersCertificates.rules g.B.TakesEvents.StandsFor held feed certs before c.args.self.now c.read_to_end.new.self (g.D.Desk.told c.args.desk.now) (g.D.Desk.told c.read_to_end.new.desk) (g.D.Desk.told c.send_line.new.desk) c.as_slice.result.now
    through (c.in-Ok.ensures.others Out out_not_feed) (c.in-Ok.ensures.reads held.feed feed through.2.between.events through.2.between.at)
    (c.as_slice.ensures.value ∙ c.in-Ok-write_end.ensures ∙ end_is through.2.stand.answers c.args.self.now.yes c.args.self.now.no through.2.between.yes through.2.between.no) c.in-Ok-send_line.ensures.sends)

pub returns-in-Err-send_line-clause-ends : goal.returns-in-Err-send_line-clause-ends
returns-in-Err-send_line-clause-ends g c = λ held feed certs before through.
    last_cut g.C.AnswersCertificates.rules g.B.TakesEvents.StandsFor held feed certs before c.args.self.now c.read_to_end.new.self (g.D.Desk.told c.args.desk.now) (g.D.Desk.told c.read_to_end.new.desk) (g.D.Desk.told c.send_line.new.desk) c.as_slice.result.now c.in-Err-send_line.exit
    through (c.in-Ok.ensures.others Out out_not_feed)
    (c.in-Err-send_line.ensures.others Side side_not_out ∙ c.in-Ok.ensures.others Side side_not_feed) (c.in-Err-send_line.ensures.others Feed feed_not_out)
    (c.in-Ok.ensures.stays_read held.feed through.2.between.events through.2.between.at.read)
    (c.in-Ok.ensures.reads held.feed feed through.2.between.events through.2.between.at)
    (c.as_slice.ensures.value ∙ c.in-Ok-write_end.ensures ∙ end_is through.2.stand.answers c.args.self.now.yes c.args.self.now.no through.2.between.yes through.2.between.no) c.in-Err-send_line.ensures.sends
