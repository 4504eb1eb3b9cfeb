use Rattle.std.proofs.Common.{rules, ◌≡◌, ◌+◌, ◌≤◌, [], ◌∷◌, ◌++◌, length, Some, None, arith}
use Rattle.std.proofs.lemmas.List.{length_push}
use Rattle.vx_feed.specs.declared.limits.TheConstants.{LINES_MAX}
use Rattle.vx_reading.specs.Stops.{feed_stop_calls}
use Rattle.vx_desk.proofs.CallLemmas.{step_after}
use Rattle.vx_reading.proofs.RunLemmas.{takes_one_more, still_read}
use Rattle.vx_reading.proofs.FeedLemmas.{found_is, reads_rest}
use Rattle.vx_reading.proofs.feed.FeedReader.read_to_end.Goals.{else-loop-test, then-loop-test+in-Ok-Some+else-counter-end}
use Rattle.vx_reading.proofs.feed.FeedReader.read_to_end.Goals as goal

pub returns-in-Err-clause-reads : goal.returns-in-Err-clause-reads
returns-in-Err-clause-reads g c = λ held whole events start.
    let now = c.loop.invariant.at held whole events start in
    reads_rest g.T.TakesEvents.StandsFor held whole now.0 c.read_next.new.self (g.D.Desk.told c.read_next.new.desk) c.in-Err.stop (c.in-Err.ensures.reads held whole now.0 now.1)

pub returns-in-Err-clause-step : goal.returns-in-Err-clause-step
returns-in-Err-clause-step g c =
    let step = step_after (feed_stop_calls c.in-Err.stop) (g.D.Desk.told c.args.desk.now) (g.D.Desk.told c.loop.desk) (g.D.Desk.told c.read_next.new.desk) c.loop.invariant.step c.in-Err.ensures.step in
    record { failures = step.failures; slots = step.slots }

pub returns-in-Ok-None-clause-reads : goal.returns-in-Ok-None-clause-reads
returns-in-Ok-None-clause-reads g c = λ held whole events start.
    let now = c.loop.invariant.at held whole events start in
    let end = found_is g.T.TakesEvents.StandsFor held whole now.0 c.read_next.new.self (g.D.Desk.told c.read_next.new.desk) c.in-Ok-None.field-0 None
    c.in-Ok-None.field-0-is (c.in-Ok-None.ensures.reads held whole now.0 now.1) in
    (now.0, end.0, end.1)

pub loop-preserved : goal.loop-preserved
loop-preserved g c =
    let told = g.D.Desk.told in
    takes_one_more g.T.TakesEvents.StandsFor c.args.self.now (told c.args.desk.now) c.loop.self (told c.loop.desk) c.read_next.new.self (told c.read_next.new.desk) c.loop.counter c.in-Ok-Some._event c.in-Ok-Some.field-0
    c.loop.invariant c.in-Ok-Some.field-0-is c.in-Ok-Some.ensures.reads (record { failures = c.in-Ok-Some.ensures.step.failures; slots = c.in-Ok-Some.ensures.step.slots }) c.in-Ok-Some.ensures.others
    c.in-Ok-Some.ensures.comes_on c.in-Ok-Some.ensures.same

pub unreachable-requires : goal.unreachable-requires
unreachable-requires g c =
    let some = c.loop.invariant.reading in
    let count : c.loop.self.count ≡ length some.2 = some.3.taken_up.count in
    let few : length some.2 ≤ LINES_MAX = some.3.taken_up.few in
    elim c.loop-test.branch [
      | else-loop-test w ↦ omega (arith, count, few, c.loop.invariant.count, c.from-end.ensures, w.loop-test.false)
      | then-loop-test+in-Ok-Some+else-counter-end w ↦
          (let further = found_is g.T.TakesEvents.StandsFor some.0 some.1 some.2 w.read_next.new.self (g.D.Desk.told w.read_next.new.desk)
          w.in-Ok-Some.field-0 (Some w.in-Ok-Some._event) w.in-Ok-Some.field-0-is (w.in-Ok-Some.ensures.reads some.0 some.1 some.2 some.3) in
          let size : length (some.2 ++ w.in-Ok-Some._event ∷ []) ≡ length some.2 + 1 = length_push some.2 w.in-Ok-Some._event in
          let few_now : length (some.2 ++ w.in-Ok-Some._event ∷ []) ≤ LINES_MAX = further.taken_up.few in
          let count_now : w.read_next.new.self.count ≡ length (some.2 ++ w.in-Ok-Some._event ∷ []) = further.taken_up.count in
          let before : c.loop.self.count ≡ length some.2 = count in
          search rules)
    ]

pub returns-in-Ok-None-clause-stays_read : goal.returns-in-Ok-None-clause-stays_read
returns-in-Ok-None-clause-stays_read g c =
    let told = g.D.Desk.told in
    still_read g.T.TakesEvents.StandsFor c.args.self.now (told c.args.desk.now) c.loop.self (told c.loop.desk) c.read_next.new.self (told c.read_next.new.desk) c.loop.counter
    c.loop.invariant c.in-Ok-None.ensures.comes_on c.in-Ok-None.ensures.same

pub returns-in-Err-clause-stays_read : goal.returns-in-Err-clause-stays_read
returns-in-Err-clause-stays_read g c =
    let told = g.D.Desk.told in
    still_read g.T.TakesEvents.StandsFor c.args.self.now (told c.args.desk.now) c.loop.self (told c.loop.desk) c.read_next.new.self (told c.read_next.new.desk) c.loop.counter
    c.loop.invariant c.in-Err.ensures.comes_on c.in-Err.ensures.same
