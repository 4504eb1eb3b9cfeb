use Rattle.std.proofs.Common.{◌∙◌, sym, subst, ap, ℕ, ◌≤◌, List, ◌++◌, IfSome, arith, length, inl, Err}
use Rattle.std.specs.Prelude.{codes}
use Rattle.vx_reading.specs.FeedReading.{IsReadTo, ReadsTo}
use Rattle.vx_reading.proofs.FeedLemmas.{events_read}
use Rattle.vx_drivers.specs.declared.exit.Exit.{Exit}
use Rattle.vx_drivers.specs.Answers.{answer_of}
use Rattle.vx_drivers.specs.CertificateExits.{IsCertificateExit}
use Rattle.vx_drivers.specs.CertificateSteps.{ComesOf, EndsBefore, read_as}
use Rattle.vx_drivers.specs.Exits.{exit_calls}
use Rattle.vx_desk.specs.Calls.{IsStep}
use Rattle.vx_drivers.proofs.ExitLemmas.{stop_named}
use Rattle.vx_drivers.proofs.CertificateLemmas.{feed_stops, judged, not_read, out_of_memory, out_of_order, stop_exit}
use Rattle.vx_drivers.proofs.check_run.CheckRun.answer.Goals.{in-Ok, in-Err-push_text}
use Rattle.vx_drivers.proofs.check_run.CheckRun.answer.Goals as goal

pub returns-in-Ok-None-clause-comes : goal.returns-in-Ok-None-clause-comes
returns-in-Ok-None-clause-comes g c = λ held feed stand between.
    let reads = subst (λ found. g.C.AnswersCertificates.rules.ReadsAs c.args.line.now (read_as found c.read.new.word.items)) c.in-Ok-None.field-0-is c.in-Ok-None.ensures in
    record {
      reached = stand.reached;
      answers = not_read g.C.AnswersCertificates.rules feed stand c.args.line.now c.read.new.word.items reads;
      events = between.events;
      at = between.at;
      read_to = between.read_to;
      reached_is = between.reached;
      not_past = between.not_past;
    }

pub returns-in-Err-clause-comes : goal.returns-in-Err-clause-comes
returns-in-Err-clause-comes g c = λ held feed stand between. inl out_of_memory

pub returns-clause-comes : goal.returns-clause-comes
returns-clause-comes g c = λ held feed stand between. inl out_of_memory

pub returns-then-named-self-clause-comes : goal.returns-then-named-self-clause-comes
returns-then-named-self-clause-comes g c = λ held feed stand between.
    let rules = g.C.AnswersCertificates.rules in
    let named = c.line_named-named.ensures in
    let reads = subst (λ found. rules.ReadsAs c.args.line.now (read_as found c.read.new.word.items)) c.in-Ok-Some.field-0-is c.in-Ok-Some.ensures in
    elim c.match-push_text.branch [
      | in-Ok w ↦
          (subst (λ r. ComesOf rules g.B.TakesEvents.StandsFor held feed stand c.args.line.now c.push_text.new.line.items (record c.args.self.now { words = c.push_text.new.line }) (g.D.Desk.told c.args.desk.now) r) (sym w.result-is) (record {
            reached = stand.reached;
            answers = out_of_order rules feed stand c.args.line.now c.in-Ok-Some.certificate c.push_text.new.line.items reads (omega (arith, between.reached, named, c.if-named-self.true))
                (w.in-Ok.ensures ∙ ap (λ (items : List ℕ). items ++ codes "order") c.clear-2.ensures.items);
            events = between.events;
            at = between.at;
            read_to = between.read_to;
            reached_is = between.reached;
            not_past = between.not_past;
          }))
      | in-Err-push_text w ↦
          (subst (λ r. ComesOf rules g.B.TakesEvents.StandsFor held feed stand c.args.line.now c.push_text.new.line.items (record c.args.self.now { words = c.push_text.new.line }) (g.D.Desk.told c.args.desk.now) r) (sym w.result-is) (inl out_of_memory))
    ]

pub returns-in-Err-read_to-clause-comes : goal.returns-in-Err-read_to-clause-comes
returns-in-Err-read_to-clause-comes g c = λ held feed stand between.
    let rules = g.C.AnswersCertificates.rules in
    let named = c.line_named-named.ensures in
    let past : length between.events ≤ stand.reached = between.not_past in
    let reads = subst (λ found. rules.ReadsAs c.args.line.now (read_as found c.read.new.word.items)) c.in-Ok-Some.field-0-is c.in-Ok-Some.ensures in
    let to = c.in-Err-read_to.ensures.reads held feed between.events between.at (omega (arith, between.reached, past, c.if-named-self.false)) in
    subst (λ (e : Exit). EndsBefore rules feed stand c.args.line.now e) (sym c.from.ensures)
    (feed_stops rules g.B.TakesEvents.StandsFor held feed stand c.args.line.now c.in-Ok-Some.certificate c.read_to.new.self (g.D.Desk.told c.read_to.new.desk) c.in-Err-read_to.stop
    reads (omega (arith, between.reached, named, c.if-named-self.false)) (subst (λ n. ReadsTo g.B.TakesEvents.StandsFor held feed n c.read_to.new.self (g.D.Desk.told c.read_to.new.desk) (Err c.in-Err-read_to.stop)) named to))

pub returns-in-Ok-judge-clause-comes : goal.returns-in-Ok-judge-clause-comes
returns-in-Ok-judge-clause-comes g c = λ held feed stand between.
    let rules = g.C.AnswersCertificates.rules in
    let named = c.line_named-named.ensures in
    let past : length between.events ≤ stand.reached = between.not_past in
    let reads = subst (λ found. rules.ReadsAs c.args.line.now (read_as found c.read.new.word.items)) c.in-Ok-Some.field-0-is c.in-Ok-Some.ensures in
    let read = c.in-Ok-read_to.ensures.reads held feed between.events between.at (omega (arith, between.reached, past, c.if-named-self.false)) in
    let within : length read.0 ≤ c.line_named-named.result = read.2 in
    let few : length read.0 ≤ rules.named c.in-Ok-Some.certificate = omega (arith, within, named) in
    let stands = c.taker.ensures held feed read.0 (g.D.Desk.told c.read_to.new.desk) read.1 in
    record {
      reached = rules.named c.in-Ok-Some.certificate;
      answers = judged rules feed stand c.args.line.now c.in-Ok-Some.certificate (answer_of c.in-Ok-judge.yes c.judge.new.words.items) read.0
          reads (omega (arith, between.reached, named, c.if-named-self.false)) (subst (λ n. IfSome feed (IsReadTo n read.0)) named read.3) (c.in-Ok-judge.ensures read.0 stands read.1.taken_up.lawful few);
      events = read.0;
      at = read.1;
      read_to = subst (λ n. IfSome feed (IsReadTo n read.0)) named read.3;
      reached_is = named;
      not_past = few;
    }

pub returns-in-Err-read_to-clause-exits : goal.returns-in-Err-read_to-clause-exits
returns-in-Err-read_to-clause-exits g c =
    let some = c.requires.between in
    let past : length some.3.events ≤ some.2.reached = some.3.not_past in
    subst (λ (e : Exit). IsCertificateExit e) (sym c.from.ensures)
    (stop_exit g.B.TakesEvents.StandsFor some.0 some.1 c.line_named-named.result c.read_to.new.self (g.D.Desk.told c.read_to.new.desk) c.in-Err-read_to.stop
    (c.in-Err-read_to.ensures.reads some.0 some.1 some.3.events some.3.at (omega (arith, some.3.reached, past, c.if-named-self.false))))

pub returns-in-Err-read_to-clause-step : goal.returns-in-Err-read_to-clause-step
returns-in-Err-read_to-clause-step g c =
    subst (λ f. IsStep f (g.D.Desk.told c.args.desk.now) (g.D.Desk.told c.read_to.new.desk)) (sym (ap exit_calls c.from.ensures ∙ stop_named c.in-Err-read_to.stop)) c.in-Err-read_to.ensures.step

pub returns-in-Ok-None-clause-stays_read : goal.returns-in-Ok-None-clause-stays_read
returns-in-Ok-None-clause-stays_read g c = λ held events read. events_read held events c.args.self.now.feed (g.D.Desk.told c.args.desk.now) read

pub returns-in-Err-clause-stays_read : goal.returns-in-Err-clause-stays_read
returns-in-Err-clause-stays_read g c = λ held events read. events_read held events c.args.self.now.feed (g.D.Desk.told c.args.desk.now) read

pub returns-then-named-self-clause-stays_read : goal.returns-then-named-self-clause-stays_read
returns-then-named-self-clause-stays_read g c = λ held events read. events_read held events c.args.self.now.feed (g.D.Desk.told c.args.desk.now) read

pub returns-in-Err-read_to-clause-stays_read : goal.returns-in-Err-read_to-clause-stays_read
returns-in-Err-read_to-clause-stays_read g c = c.in-Err-read_to.ensures.stays_read

pub returns-in-Ok-judge-clause-stays_read : goal.returns-in-Ok-judge-clause-stays_read
returns-in-Ok-judge-clause-stays_read g c = c.in-Ok-read_to.ensures.stays_read

pub returns-clause-stays_read : goal.returns-clause-stays_read
returns-clause-stays_read g c = c.in-Ok-read_to.ensures.stays_read
