use Rattle.std.proofs.lemmas.Result.{err_from_is_err_and}
use Rattle.vx_reading.proofs.FeedLemmas.{stays_read}
use Rattle.vx_reading.proofs.NextLemmas.{fault_read, read_on_at}
use Rattle.vx_reading.proofs.feed.FeedReader.read_next.Goals as goal

pub returns-in_err-read_on-clause-reads : goal.returns-in_err-read_on-clause-reads
returns-in_err-read_on-clause-reads g c = λ held whole events at.
    let told = g.D.Desk.told in
    let p = err_from_is_err_and c.from_residual.result c.from_residual.ensures.1 in
    rw (p.1, p.2)
    (fault_read g.T.TakesEvents.StandsFor held whole events c.args.self.now c.read_on.new.self (told c.args.desk.now) (told c.read_on.new.desk) c.in_err-read_on.field-0.0 at
    c.in_err-read_on.ensures.ahead c.in_err-read_on.ensures.same c.in_err-read_on.ensures.coming (c.in_err-read_on.ensures.given at.read.lines held at.read.given) c.in_err-read_on.ensures.fault)

pub take_line-requires-clause-reading : goal.take_line-requires-clause-reading
take_line-requires-clause-reading g c =
    let told = g.D.Desk.told in
    let some = c.requires.reading in
    let ensures = c.in_ok-read_on.ensures in (
      told c.read_on.new.desk,
      (
        some.0,
        some.1,
        some.2,
        read_on_at g.T.TakesEvents.StandsFor some.0 some.1 some.2 c.args.self.now c.read_on.new.self (told c.args.desk.now) (told c.read_on.new.desk) some.3
            ensures.ahead ensures.same ensures.coming (ensures.given some.3.read.lines some.0 some.3.read.given),
      ),
    )

pub take_rest-requires-clause-reading : goal.take_rest-requires-clause-reading
take_rest-requires-clause-reading g c =
    let told = g.D.Desk.told in
    let some = c.requires.reading in
    let ensures = c.in_ok-read_on.ensures in (
      told c.read_on.new.desk,
      (
        some.0,
        some.1,
        some.2,
        read_on_at g.T.TakesEvents.StandsFor some.0 some.1 some.2 c.args.self.now c.read_on.new.self (told c.args.desk.now) (told c.read_on.new.desk) some.3
            ensures.ahead ensures.same ensures.coming (ensures.given some.3.read.lines some.0 some.3.read.given),
      ),
    )

pub returns-then-has_line-clause-reads : goal.returns-then-has_line-clause-reads
returns-then-has_line-clause-reads g c = λ held whole events at.
    let told = g.D.Desk.told in
    let ensures = c.in_ok-read_on.ensures in
    c.take_line.ensures.takes (told c.read_on.new.desk) held whole events
    (read_on_at g.T.TakesEvents.StandsFor held whole events c.args.self.now c.read_on.new.self (told c.args.desk.now) (told c.read_on.new.desk) at
    ensures.ahead ensures.same ensures.coming (ensures.given at.read.lines held at.read.given))

pub returns-else-has_line-clause-reads : goal.returns-else-has_line-clause-reads
returns-else-has_line-clause-reads g c = λ held whole events at.
    let told = g.D.Desk.told in
    let ensures = c.in_ok-read_on.ensures in
    c.take_rest.ensures.takes (told c.read_on.new.desk) held whole events
    (read_on_at g.T.TakesEvents.StandsFor held whole events c.args.self.now c.read_on.new.self (told c.args.desk.now) (told c.read_on.new.desk) at
    ensures.ahead ensures.same ensures.coming (ensures.given at.read.lines held at.read.given))

pub returns-in_err-read_on-clause-stays_read : goal.returns-in_err-read_on-clause-stays_read
returns-in_err-read_on-clause-stays_read g c =
    stays_read c.args.self.now c.read_on.new.self (g.D.Desk.told c.args.desk.now) (g.D.Desk.told c.read_on.new.desk) c.read_on.ensures.same c.read_on.ensures.comes_on

pub returns-then-has_line-clause-stays_read : goal.returns-then-has_line-clause-stays_read
returns-then-has_line-clause-stays_read g c =
    stays_read c.args.self.now c.read_on.new.self (g.D.Desk.told c.args.desk.now) (g.D.Desk.told c.read_on.new.desk) c.read_on.ensures.same c.read_on.ensures.comes_on

pub returns-else-has_line-clause-stays_read : goal.returns-else-has_line-clause-stays_read
returns-else-has_line-clause-stays_read g c =
    stays_read c.args.self.now c.read_on.new.self (g.D.Desk.told c.args.desk.now) (g.D.Desk.told c.read_on.new.desk) c.read_on.ensures.same c.read_on.ensures.comes_on
