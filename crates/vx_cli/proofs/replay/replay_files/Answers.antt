use Rattle.std.proofs.Common.{◌∙◌, ap, [], None}
use Rattle.std.specs.Option.{option_map}
use Rattle.vx_desk.specs.declared.device.Slot.TheVariants.{Feed, Out, Certs}
use Rattle.vx_desk.specs.Told.{Told}
use Rattle.vx_desk.proofs.CallLemmas.{failures_after}
use Rattle.vx_drivers.specs.Exits.{exit_calls, is_cut}
use Rattle.vx_drivers.proofs.ExitLemmas.{certs_not_feed, certs_not_out, feed_not_certs, out_not_certs, out_not_feed}
use Rattle.vx_cli.proofs.ReplayLemmas.{files_replayed, nothing_sent}
use Rattle.vx_cli.proofs.replay.replay_files.Goals as goal

pub returns-in-Err-clause-sends : goal.returns-in-Err-clause-sends
returns-in-Err-clause-sends g c =
    let before = g.D.Desk.told c.args.desk.now in
    let others = c.in-Err.ensures.others in
    nothing_sent (g.D.Desk.holds c.args.desk.now c.args.feed.now) before (g.D.Desk.told c.open_slot.new.desk) c.in-Err.exit
    (ap is_cut c.in-Err.ensures.opens.0) (others Out out_not_feed)
    (ap (λ (t : Told). t.is_open) (others Certs certs_not_feed) ∙ c.requires.closed Certs certs_not_out)
    (ap (λ (t : Told). t.sent) (others Certs certs_not_feed))

pub returns-in-Err-open_slot-clause-sends : goal.returns-in-Err-open_slot-clause-sends
returns-in-Err-open_slot-clause-sends g c =
    let before = g.D.Desk.told c.args.desk.now in
    let first = c.in-Ok.ensures.others in
    let failed = c.in-Err-open_slot.ensures in
    nothing_sent (g.D.Desk.holds c.args.desk.now c.args.feed.now) before (g.D.Desk.told c.open_slot-2.new.desk)
    c.in-Err-open_slot.exit (ap is_cut failed.opens.0) (failed.others Out out_not_certs ∙ first Out out_not_feed)
    (failed.opens.1.is_open ∙ ap (λ (t : Told). t.is_open) (first Certs certs_not_feed) ∙ c.requires.closed Certs certs_not_out)
    (failed.opens.1.sent ∙ ap (λ (t : Told). t.sent) (first Certs certs_not_feed))

pub returns-clause-sends : goal.returns-clause-sends
returns-clause-sends g c =
    let before = g.D.Desk.told c.args.desk.now in
    let two = g.D.Desk.told c.open_slot-2.new.desk in
    let feed = c.in-Ok.ensures in
    let certs = c.in-Ok-open_slot.ensures in
    let written = certs.opens.to_write tt in
    files_replayed (g.D.Desk.holds c.args.desk.now c.args.feed.now) before two (g.D.Desk.told c.replay_open.new.desk) c.replay_open.result
    (ap (λ (t : Told). t.left) (certs.others Feed feed_not_certs) ∙ (feed.opens.to_read tt).0)
    (certs.others Out out_not_certs ∙ feed.others Out out_not_feed)
    (written.0 ∙ ap (λ (t : Told). option_map (λ bytes. []) t.sent) (feed.others Certs certs_not_feed))
    (c.replay_open.ensures.step.slots.is_open Certs ∙ certs.opens.open_now) c.replay_open.ensures.ends

pub returns-clause-failures : goal.returns-clause-failures
returns-clause-failures g c =
    let before = g.D.Desk.told c.args.desk.now in
    let one = g.D.Desk.told c.open_slot.new.desk in
    let two = g.D.Desk.told c.open_slot-2.new.desk in
    let opened = failures_after before one two None c.in-Ok.ensures.failures c.in-Ok-open_slot.ensures.failures in
    failures_after before two (g.D.Desk.told c.replay_open.new.desk) (exit_calls c.replay_open.result) opened c.replay_open.ensures.step.failures
