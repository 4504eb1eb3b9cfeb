use Rattle.std.proofs.Common.{◌≡◌, ◌≤◌, length, None, arith}
use Rattle.vx_reading.specs.Stops.{feed_stop_calls}
use Rattle.vx_desk.proofs.CallLemmas.{step_after}
use Rattle.vx_reading.proofs.RunLemmas.{takes_one_more, still_read}
use Rattle.vx_reading.proofs.FeedLemmas.{stays_read, found_is, reads_on, read_all, read_so_many}
use Rattle.vx_reading.proofs.feed.FeedReader.read_to.Goals as goal

pub returns-in-Err-clause-reads : goal.returns-in-Err-clause-reads
returns-in-Err-clause-reads g c = λ held whole events start within.
    let now = c.loop.invariant.at held whole events start in
    let count : c.loop.self.count ≡ length now.0 = now.1.taken_up.count in
    reads_on g.T.TakesEvents.StandsFor held whole c.args.number now.0 c.read_next.new.self (g.D.Desk.told c.read_next.new.desk) c.in-Err.stop
    (omega (arith, count, c.loop.invariant.count, c.loop-test.true)) (c.in-Err.ensures.reads held whole now.0 now.1)

pub returns-in-Err-clause-step : goal.returns-in-Err-clause-step
returns-in-Err-clause-step g c =
    let step = step_after (feed_stop_calls c.in-Err.stop) (g.D.Desk.told c.args.desk.now) (g.D.Desk.told c.loop.desk) (g.D.Desk.told c.read_next.new.desk) c.loop.invariant.step c.in-Err.ensures.step in
    record { failures = step.failures; slots = step.slots }

pub returns-in-Ok-None-clause-reads : goal.returns-in-Ok-None-clause-reads
returns-in-Ok-None-clause-reads g c = λ held whole events start within.
    let now = c.loop.invariant.at held whole events start in
    let count : c.loop.self.count ≡ length now.0 = now.1.taken_up.count in
    let end = found_is g.T.TakesEvents.StandsFor held whole now.0 c.read_next.new.self (g.D.Desk.told c.read_next.new.desk) c.in-Ok-None.field-0 None
    c.in-Ok-None.field-0-is (c.in-Ok-None.ensures.reads held whole now.0 now.1) in
    let few : length now.0 ≤ c.args.number = omega (arith, count, c.loop.invariant.count, c.loop-test.true) in
    (now.0, end.0, few, read_all whole c.args.number now.0 end.1 few)

pub loop-preserved : goal.loop-preserved
loop-preserved g c =
    let told = g.D.Desk.told in
    takes_one_more g.T.TakesEvents.StandsFor c.args.self.now (told c.args.desk.now) c.loop.self (told c.loop.desk) c.read_next.new.self (told c.read_next.new.desk) c.loop.counter c.in-Ok-Some._event c.in-Ok-Some.field-0
    c.loop.invariant c.in-Ok-Some.field-0-is c.in-Ok-Some.ensures.reads (record { failures = c.in-Ok-Some.ensures.step.failures; slots = c.in-Ok-Some.ensures.step.slots }) c.in-Ok-Some.ensures.others
    c.in-Ok-Some.ensures.comes_on c.in-Ok-Some.ensures.same

pub returns-clause-reads : goal.returns-clause-reads
returns-clause-reads g c = λ held whole events start within.
    let now = c.loop.invariant.at held whole events start in
    let first : c.args.self.now.count ≡ length events = start.taken_up.count in
    let few : length events ≤ c.args.number = within in
    let count : c.loop.self.count ≡ length now.0 = now.1.taken_up.count in
    let ahead : c.args.self.now.count ≤ c.args.number = omega (arith, first, few) in
    let size : length now.0 ≡ c.args.number = omega (arith, count, c.loop.invariant.count, c.loop-test.false, c.loop.auto.counter-end ahead) in
    (now.0, now.1, omega (arith, size), read_so_many g.T.TakesEvents.StandsFor held whole c.args.number now.0 c.loop.self (g.D.Desk.told c.loop.desk) now.1 size)

pub returns-in-Ok-None-clause-stays_read : goal.returns-in-Ok-None-clause-stays_read
returns-in-Ok-None-clause-stays_read g c =
    let told = g.D.Desk.told in
    still_read g.T.TakesEvents.StandsFor c.args.self.now (told c.args.desk.now) c.loop.self (told c.loop.desk) c.read_next.new.self (told c.read_next.new.desk) c.loop.counter
    c.loop.invariant c.in-Ok-None.ensures.comes_on c.in-Ok-None.ensures.same

pub returns-in-Err-clause-stays_read : goal.returns-in-Err-clause-stays_read
returns-in-Err-clause-stays_read g c =
    let told = g.D.Desk.told in
    still_read g.T.TakesEvents.StandsFor c.args.self.now (told c.args.desk.now) c.loop.self (told c.loop.desk) c.read_next.new.self (told c.read_next.new.desk) c.loop.counter
    c.loop.invariant c.in-Err.ensures.comes_on c.in-Err.ensures.same

pub returns-clause-stays_read : goal.returns-clause-stays_read
returns-clause-stays_read g c =
    stays_read c.args.self.now c.loop.self.ahead (g.D.Desk.told c.args.desk.now) (g.D.Desk.told c.loop.desk) c.loop.invariant.same c.loop.invariant.comes_on
