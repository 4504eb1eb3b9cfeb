use Rattle.std.proofs.Common.{None}
use Rattle.vx_desk.proofs.CallLemmas.{failures_after}
use Rattle.vx_drivers.specs.Exits.{exit_calls}
use Rattle.vx_cli.proofs.CheckLemmas.{certs_not_opened, feed_not_opened, files_checked}
use Rattle.vx_cli.proofs.check.check_files.Goals as goal

pub returns-in-Err-clause-sends : goal.returns-in-Err-clause-sends
returns-in-Err-clause-sends g c =
    (feed_not_opened c.args.feed.now c.args.certs.now (g.D.Desk.holds c.args.desk.now) (g.D.Desk.told c.args.desk.now) c.requires.closed
    (g.D.Desk.told c.open_slot.new.desk) c.in-Err.exit c.in-Err.ensures.opens.0 c.in-Err.ensures.opens.1 c.in-Err.ensures.others).0

pub returns-in-Err-open_slot-clause-sends : goal.returns-in-Err-open_slot-clause-sends
returns-in-Err-open_slot-clause-sends g c =
    (certs_not_opened c.args.feed.now c.args.certs.now (g.D.Desk.holds c.args.desk.now) (g.D.Desk.told c.args.desk.now) c.requires.closed
    (g.D.Desk.told c.open_slot.new.desk) c.in-Ok.ensures.opens c.in-Ok.ensures.others
    (g.D.Desk.told c.open_slot-2.new.desk) c.in-Err-open_slot.exit c.in-Err-open_slot.ensures.opens.0 c.in-Err-open_slot.ensures.opens.1
    c.in-Err-open_slot.ensures.others).0

pub returns-clause-sends : goal.returns-clause-sends
returns-clause-sends g c =
    files_checked c.args.feed.now c.args.certs.now (g.D.Desk.holds c.args.desk.now) (g.D.Desk.told c.args.desk.now) c.requires.closed
    (g.D.Desk.told c.open_slot.new.desk) c.in-Ok.ensures.opens c.in-Ok.ensures.others
    (g.D.Desk.holds c.open_slot.new.desk) c.in-Ok.ensures.names (g.D.Desk.told c.open_slot-2.new.desk) c.in-Ok-open_slot.ensures.opens c.in-Ok-open_slot.ensures.others
    (g.D.Desk.told c.check_open.new.desk) c.check_open.result c.check_open.ensures.ends c.check_open.ensures.step.slots

pub returns-clause-failures : goal.returns-clause-failures
returns-clause-failures g c =
    let before = g.D.Desk.told c.args.desk.now in
    let one = g.D.Desk.told c.open_slot.new.desk in
    let two = g.D.Desk.told c.open_slot-2.new.desk in
    let opened = failures_after before one two None c.in-Ok.ensures.failures c.in-Ok-open_slot.ensures.failures in
    failures_after before two (g.D.Desk.told c.check_open.new.desk) (exit_calls c.check_open.result) opened c.check_open.ensures.step.failures
