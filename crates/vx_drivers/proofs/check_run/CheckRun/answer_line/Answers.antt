use Rattle.std.proofs.Common.{◌≡◌, ◌∙◌, sym, subst, ap, ◌+◌, arith, length, inl}
use Rattle.vx_desk.specs.declared.device.Slot.TheVariants.{Feed, Side, Out}
use Rattle.vx_reading.specs.FeedReading.{IsAt}
use Rattle.vx_reading.specs.WhatWasRead.{EventsRead}
use Rattle.vx_desk.proofs.CallLemmas.{step_after}
use Rattle.vx_reading.proofs.FeedLemmas.{at_kept}
use Rattle.vx_drivers.specs.Answers.{answer_of, answer_text, count_no, count_yes}
use Rattle.vx_drivers.specs.CertificateSteps.{next_text}
use Rattle.vx_drivers.specs.Exits.{calls_in}
use Rattle.vx_drivers.specs.Sending.{SendsOr}
use Rattle.vx_drivers.proofs.CertificateLemmas.{answer_sent, counts_add_up, no_more, out_of_memory, yes_more}
use Rattle.vx_drivers.proofs.ExitLemmas.{feed_not_out, out_not_feed, side_not_feed, side_not_out}
use Rattle.vx_drivers.proofs.check_run.CheckRun.answer_line.Goals as goal

pub returns-in-Err-clause-answers : goal.returns-in-Err-clause-answers
returns-in-Err-clause-answers g c = λ held feed stand between. inl (c.in-Err.ensures.comes held feed stand between, c.in-Err.ensures.others Out out_not_feed)

pub returns-in-Err-write-clause-answers : goal.returns-in-Err-write-clause-answers
returns-in-Err-write-clause-answers g c = λ held feed stand between. inl (inl out_of_memory, c.in-Ok.ensures.others Out out_not_feed)

pub returns-clause-answers : goal.returns-clause-answers
returns-clause-answers g c = λ held feed stand between.
    let come = c.in-Ok.ensures.comes held feed stand between in
    let answer = answer_of c.in-Ok.yes c.answer.new.self.words.items in
    let both = counts_add_up stand.answers in
    let yes_is : c.answer.new.self.yes ≡ count_yes stand.answers = (c.in-Ok.ensures.kept).0 ∙ between.yes in
    let no_is : c.answer.new.self.no ≡ count_no stand.answers = (c.in-Ok.ensures.kept).1 ∙ between.no in
    let feed_is : c.write.new.self.feed ≡ c.answer.new.self.feed = (c.in-Ok-write.ensures.kept).0 in
    let reached_is : c.write.new.self.reached ≡ c.answer.new.self.reached = (c.in-Ok-write.ensures.kept).1 in
    let number : c.answer.new.self.yes + c.answer.new.self.no + 1 ≡ length stand.answers + 1 = omega (arith, both, yes_is, no_is) in
    let text : c.write.new.self.line.items ≡ next_text stand answer = c.in-Ok-write.ensures.line ∙ ap (λ n. answer_text n answer) number in
    answer_sent g.C.AnswersCertificates.rules g.B.TakesEvents.StandsFor held feed stand c.args.line.now answer come.reached c.write.new.self (g.D.Desk.told c.args.desk.now) (g.D.Desk.told c.answer.new.desk) (g.D.Desk.told c.send_line.new.desk) c.send_line.result
    come.answers
    (record {
      events = come.events;
      at = at_kept g.B.TakesEvents.StandsFor held feed come.events c.write.new.self.feed (g.D.Desk.told c.answer.new.desk) (g.D.Desk.told c.send_line.new.desk)
          (subst (λ r. IsAt g.B.TakesEvents.StandsFor held feed come.events r (g.D.Desk.told c.answer.new.desk)) (sym feed_is) come.at)
          (c.send_line.ensures.others Feed feed_not_out);
      read_to = come.read_to;
      reached = reached_is ∙ come.reached_is;
      not_past = come.not_past;
      yes = let more = yes_more stand.answers answer in omega (arith, c.in-Ok-write.ensures.yes, yes_is, more);
      no = let more = no_more stand.answers answer in omega (arith, c.in-Ok-write.ensures.no, no_is, more);
    })
    (c.in-Ok.ensures.others Out out_not_feed)
    (subst (λ t. SendsOr Out t (g.D.Desk.told c.answer.new.desk Out) (g.D.Desk.told c.send_line.new.desk Out) c.send_line.result) (c.as_slice.ensures.value ∙ text) c.send_line.ensures.sends)

pub returns-clause-step : goal.returns-clause-step
returns-clause-step g c = step_after (calls_in c.send_line.result) (g.D.Desk.told c.args.desk.now) (g.D.Desk.told c.answer.new.desk) (g.D.Desk.told c.send_line.new.desk) c.in-Ok.ensures.step c.send_line.ensures.step

pub returns-clause-side : goal.returns-clause-side
returns-clause-side g c = c.send_line.ensures.others Side side_not_out ∙ c.in-Ok.ensures.others Side side_not_feed

pub returns-in-Err-clause-stays_read : goal.returns-in-Err-clause-stays_read
returns-in-Err-clause-stays_read g c = c.in-Err.ensures.stays_read

pub returns-in-Err-write-clause-stays_read : goal.returns-in-Err-write-clause-stays_read
returns-in-Err-write-clause-stays_read g c = c.in-Ok.ensures.stays_read

pub returns-clause-stays_read : goal.returns-clause-stays_read
returns-clause-stays_read g c = λ held events read.
    subst (EventsRead events held) (sym (c.send_line.ensures.others Feed feed_not_out)) (c.in-Ok.ensures.stays_read held events read)
