use Rattle.std.proofs.Common.{◌≡◌, ◌∙◌, subst, refl, ◌+◌, ◌-◌, arith}
use Rattle.vx_lines.specs.TextLines.{at_end, no_eol, too_long}
use Rattle.vx_desk.specs.declared.device.Slot.TheVariants.{Feed, Out}
use Rattle.vx_desk.specs.Coming.{coming}
use Rattle.vx_drivers.specs.declared.exit.LineCause.TheVariants.{TooLong, NoEol, TooMany}
use Rattle.vx_drivers.specs.declared.limits.TheConstants.{CERT_LINES_MAX}
use Rattle.vx_drivers.specs.CertificateSteps.{EndsAtLine, SendsAnswer, allowed, answered_lines}
use Rattle.vx_desk.proofs.CallLemmas.{step_after}
use Rattle.vx_reading.proofs.FeedLemmas.{at_kept}
use Rattle.vx_drivers.specs.Exits.{exit_calls}
use Rattle.vx_drivers.proofs.FailureLemmas.{side_line_read}
use Rattle.vx_drivers.proofs.ExitLemmas.{feed_not_side, out_not_side}
use Rattle.vx_drivers.proofs.RunLemmas.{allowed_ended, allowed_none, allowed_step, answered_on, between_kept, cert_bad_at, cut_at_lines, line_ended, takes_bytes, takes_cut, takes_is, takes_long, takes_no_bytes, takes_none, way_kept}
use Rattle.vx_drivers.proofs.check_run.CheckRun.answer_next.Goals as goal

pub returns-in-Ok-None-clause-goes : goal.returns-in-Ok-None-clause-goes
returns-in-Ok-None-clause-goes g c = λ held feed certs before way.
    let rest = allowed (answered_lines c.args.self.now) c.args.certs.now (g.D.Desk.told c.args.desk.now) in (
      c.next.new.self,
      rest,
      way_kept g.C.AnswersCertificates.rules g.B.TakesEvents.StandsFor held feed certs before c.args.self.now c.args.certs.now c.next.new.self (g.D.Desk.told c.args.desk.now) (g.D.Desk.told c.next.new.desk) rest way
          (c.in-Ok-None.ensures.others Feed (feed_not_side c.args.certs.now.slot c.requires.reader.slot_is)) (c.in-Ok-None.ensures.others Out (out_not_side c.args.certs.now.slot c.requires.reader.slot_is))
          (takes_no_bytes c.args.certs.now c.next.new.self (g.D.Desk.told c.args.desk.now) (g.D.Desk.told c.next.new.desk) c.args.certs.now.slot c.in-Ok-None.field-0 c.requires.reader.slot_is c.in-Ok-None.ensures.answers c.in-Ok-None.field-0-is),
      allowed_ended (CERT_LINES_MAX - answered_lines c.args.self.now) at_end (coming c.args.certs.now (g.D.Desk.told c.args.desk.now))
          (takes_none _ (coming c.next.new.self (g.D.Desk.told c.next.new.desk)) c.next.new.self c.in-Ok-None.field-0 (c.in-Ok-None.ensures.takes c.requires.reader.open_yet) c.in-Ok-None.field-0-is),
    )

pub returns-in-Err-LineTooLong-clause-goes : goal.returns-in-Err-LineTooLong-clause-goes
returns-in-Err-LineTooLong-clause-goes g c = λ held feed certs before way.
    cert_bad_at g.C.AnswersCertificates.rules g.B.TakesEvents.StandsFor held feed certs before c.args.self.now c.args.certs.now (g.D.Desk.told c.args.desk.now) (g.D.Desk.told c.next.new.desk) (allowed (answered_lines c.args.self.now) c.args.certs.now (g.D.Desk.told c.args.desk.now)) c.bad_line.result TooLong
    way (c.in-Err-LineTooLong.ensures.others Out (out_not_side c.args.certs.now.slot c.requires.reader.slot_is)) c.bad_line.ensures
    (allowed_ended (CERT_LINES_MAX - answered_lines c.args.self.now) too_long (coming c.args.certs.now (g.D.Desk.told c.args.desk.now))
    (takes_long _ (coming c.next.new.self (g.D.Desk.told c.next.new.desk)) c.next.new.self c.in-Err-LineTooLong.field-0 (c.in-Err-LineTooLong.ensures.takes c.requires.reader.open_yet) c.in-Err-LineTooLong.field-0-is))

pub returns-in-Err-NoEol-clause-goes : goal.returns-in-Err-NoEol-clause-goes
returns-in-Err-NoEol-clause-goes g c = λ held feed certs before way.
    cert_bad_at g.C.AnswersCertificates.rules g.B.TakesEvents.StandsFor held feed certs before c.args.self.now c.args.certs.now (g.D.Desk.told c.args.desk.now) (g.D.Desk.told c.next.new.desk) (allowed (answered_lines c.args.self.now) c.args.certs.now (g.D.Desk.told c.args.desk.now)) c.bad_line-in-Err-NoEol.result NoEol
    way (c.in-Err-NoEol.ensures.others Out (out_not_side c.args.certs.now.slot c.requires.reader.slot_is)) c.bad_line-in-Err-NoEol.ensures
    (allowed_ended (CERT_LINES_MAX - answered_lines c.args.self.now) no_eol (coming c.args.certs.now (g.D.Desk.told c.args.desk.now))
    (takes_cut _ (coming c.next.new.self (g.D.Desk.told c.next.new.desk)) c.next.new.self c.in-Err-NoEol.field-0 (c.in-Err-NoEol.ensures.takes c.requires.reader.open_yet) c.in-Err-NoEol.field-0-is))

pub returns-in-Err-Device-clause-goes : goal.returns-in-Err-Device-clause-goes
returns-in-Err-Device-clause-goes g c = λ held feed certs before way.
    cut_at_lines g.C.AnswersCertificates.rules g.B.TakesEvents.StandsFor held feed certs before c.args.self.now c.args.certs.now c.next.new.self (g.D.Desk.told c.args.desk.now) (g.D.Desk.told c.next.new.desk)
    (allowed (answered_lines c.args.self.now) c.args.certs.now (g.D.Desk.told c.args.desk.now)) c.in-Err-Device.field-0 way c.requires.reader.slot_is
    (c.in-Err-Device.ensures.others Feed (feed_not_side c.args.certs.now.slot c.requires.reader.slot_is)) (c.in-Err-Device.ensures.others Out (out_not_side c.args.certs.now.slot c.requires.reader.slot_is))
    (c.in-Err-Device.ensures.limit ∙ c.requires.reader.limit_is) c.in-Err-Device.ensures.answers c.in-Err-Device.field-0-is c.in-Err-Device.ensures.fault

pub returns-then-self-eq-CERT_LINES_MAX-clause-goes : goal.returns-then-self-eq-CERT_LINES_MAX-clause-goes
returns-then-self-eq-CERT_LINES_MAX-clause-goes g c = λ held feed certs before way.
    let all : c.args.self.now.yes + c.args.self.now.no ≡ CERT_LINES_MAX = c.if-self-eq-CERT_LINES_MAX.true in
    cert_bad_at g.C.AnswersCertificates.rules g.B.TakesEvents.StandsFor held feed certs before c.args.self.now c.args.certs.now (g.D.Desk.told c.args.desk.now) (g.D.Desk.told c.next.new.desk) (allowed (answered_lines c.args.self.now) c.args.certs.now (g.D.Desk.told c.args.desk.now)) c.bad_line-then-self-eq-CERT_LINES_MAX.result TooMany
    way (c.in-Ok-Some.ensures.others Out (out_not_side c.args.certs.now.slot c.requires.reader.slot_is)) c.bad_line-then-self-eq-CERT_LINES_MAX.ensures
    (allowed_none (CERT_LINES_MAX - answered_lines c.args.self.now) c.next.new.self.last_bytes (coming c.args.certs.now (g.D.Desk.told c.args.desk.now)) (coming c.next.new.self (g.D.Desk.told c.next.new.desk))
    (takes_is _ _ c.next.new.self c.in-Ok-Some.field-0 c.in-Ok-Some.line (c.in-Ok-Some.ensures.takes c.requires.reader.open_yet) c.in-Ok-Some.field-0-is) (omega (arith, all)))

pub returns-in-Ok-clause-goes : goal.returns-in-Ok-clause-goes
returns-in-Ok-clause-goes g c = λ held feed certs before way.
    let rest = allowed (answered_lines c.args.self.now) c.args.certs.now (g.D.Desk.told c.args.desk.now) in
    let between = between_kept g.C.AnswersCertificates.rules g.B.TakesEvents.StandsFor held feed certs before way.stand c.args.self.now (g.D.Desk.told c.args.desk.now) (g.D.Desk.told c.next.new.desk) way.between
    (c.in-Ok-Some.ensures.others Feed (feed_not_side c.args.certs.now.slot c.requires.reader.slot_is)) in
    answered_on g.C.AnswersCertificates.rules g.B.TakesEvents.StandsFor held feed certs before c.args.self.now c.answer_line.new.self c.args.certs.now c.next.new.self
    (g.D.Desk.told c.args.desk.now) (g.D.Desk.told c.next.new.desk) (g.D.Desk.told c.answer_line.new.desk)
    rest (allowed (answered_lines c.answer_line.new.self) c.next.new.self (g.D.Desk.told c.answer_line.new.desk)) c.next.new.self.last_bytes way
    (c.in-Ok-Some.ensures.others Out (out_not_side c.args.certs.now.slot c.requires.reader.slot_is)) c.in-Ok.ensures.side
    (takes_bytes c.args.certs.now c.next.new.self (g.D.Desk.told c.args.desk.now) (g.D.Desk.told c.next.new.desk) c.args.certs.now.slot c.in-Ok-Some.field-0 c.in-Ok-Some.line c.requires.reader.slot_is c.in-Ok-Some.ensures.answers c.in-Ok-Some.field-0-is)
    (allowed_step (answered_lines c.args.self.now) (answered_lines c.answer_line.new.self) c.next.new.self.last_bytes c.args.certs.now c.next.new.self (g.D.Desk.told c.args.desk.now) (g.D.Desk.told c.next.new.desk) (g.D.Desk.told c.answer_line.new.desk)
    (takes_is _ _ c.next.new.self c.in-Ok-Some.field-0 c.in-Ok-Some.line (c.in-Ok-Some.ensures.takes c.requires.reader.open_yet) c.in-Ok-Some.field-0-is)
    (c.in-Ok-Some.ensures.slot ∙ c.requires.reader.slot_is) c.in-Ok.ensures.side c.in-Ok.ensures.lines (omega (arith, c.requires.few, c.if-self-eq-CERT_LINES_MAX.false)))
    (subst (λ t. SendsAnswer g.C.AnswersCertificates.rules g.B.TakesEvents.StandsFor held.feed feed way.stand t c.answer_line.new.self (g.D.Desk.told c.next.new.desk) (g.D.Desk.told c.answer_line.new.desk)) c.bytes.ensures
    (c.in-Ok.ensures.answers held.feed feed way.stand between))

pub returns-in-Ok-clause-few : goal.returns-in-Ok-clause-few
returns-in-Ok-clause-few g c = omega (arith, c.in-Ok.ensures.lines, c.requires.few, c.if-self-eq-CERT_LINES_MAX.false)

pub returns-in-Err-clause-goes : goal.returns-in-Err-clause-goes
returns-in-Err-clause-goes g c = λ held feed certs before way.
    let rest = allowed (answered_lines c.args.self.now) c.args.certs.now (g.D.Desk.told c.args.desk.now) in
    let between = between_kept g.C.AnswersCertificates.rules g.B.TakesEvents.StandsFor held feed certs before way.stand c.args.self.now (g.D.Desk.told c.args.desk.now) (g.D.Desk.told c.next.new.desk) way.between
    (c.in-Ok-Some.ensures.others Feed (feed_not_side c.args.certs.now.slot c.requires.reader.slot_is)) in
    line_ended g.C.AnswersCertificates.rules g.B.TakesEvents.StandsFor held feed certs before c.args.self.now c.args.certs.now c.next.new.self
    (g.D.Desk.told c.args.desk.now) (g.D.Desk.told c.next.new.desk) (g.D.Desk.told c.answer_line.new.desk)
    rest (allowed (answered_lines c.args.self.now + 1) c.next.new.self (g.D.Desk.told c.next.new.desk)) c.next.new.self.last_bytes c.in-Err.exit way
    (c.in-Ok-Some.ensures.others Out (out_not_side c.args.certs.now.slot c.requires.reader.slot_is)) c.in-Err.ensures.side
    (takes_bytes c.args.certs.now c.next.new.self (g.D.Desk.told c.args.desk.now) (g.D.Desk.told c.next.new.desk) c.args.certs.now.slot c.in-Ok-Some.field-0 c.in-Ok-Some.line c.requires.reader.slot_is c.in-Ok-Some.ensures.answers c.in-Ok-Some.field-0-is)
    (c.in-Err.ensures.stays_read held.feed way.between.events
    (at_kept g.B.TakesEvents.StandsFor held.feed feed way.between.events c.args.self.now.feed (g.D.Desk.told c.args.desk.now) (g.D.Desk.told c.next.new.desk) way.between.at
    (c.in-Ok-Some.ensures.others Feed (feed_not_side c.args.certs.now.slot c.requires.reader.slot_is))).read)
    (allowed_step (answered_lines c.args.self.now) (answered_lines c.args.self.now + 1) c.next.new.self.last_bytes c.args.certs.now c.next.new.self (g.D.Desk.told c.args.desk.now) (g.D.Desk.told c.next.new.desk) (g.D.Desk.told c.next.new.desk)
    (takes_is _ _ c.next.new.self c.in-Ok-Some.field-0 c.in-Ok-Some.line (c.in-Ok-Some.ensures.takes c.requires.reader.open_yet) c.in-Ok-Some.field-0-is)
    (c.in-Ok-Some.ensures.slot ∙ c.requires.reader.slot_is) refl refl (omega (arith, c.requires.few, c.if-self-eq-CERT_LINES_MAX.false)))
    (subst (λ t. EndsAtLine g.C.AnswersCertificates.rules held.feed feed way.stand t (g.D.Desk.told c.next.new.desk) (g.D.Desk.told c.answer_line.new.desk) c.in-Err.exit) c.bytes.ensures
    (c.in-Err.ensures.answers held.feed feed way.stand between))

pub returns-in-Err-clause-step : goal.returns-in-Err-clause-step
returns-in-Err-clause-step g c =
    step_after (exit_calls c.in-Err.exit) (g.D.Desk.told c.args.desk.now) (g.D.Desk.told c.next.new.desk) (g.D.Desk.told c.answer_line.new.desk)
    (side_line_read c.args.certs.now.slot (g.D.Desk.told c.args.desk.now) (g.D.Desk.told c.next.new.desk) c.requires.reader.slot_is c.in-Ok-Some.ensures.counts c.in-Ok-Some.ensures.rest c.in-Ok-Some.ensures.others)
    c.in-Err.ensures.step
