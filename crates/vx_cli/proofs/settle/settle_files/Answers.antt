use Rattle.std.proofs.Common.{◌≡◌, ◌∙◌, sym, ap, subst, refl, [], None}
use Rattle.std.specs.Prelude.{IsTrue}
use Rattle.std.specs.Option.{option_map}
use Rattle.vx_desk.specs.declared.device.Slot.TheVariants.{Feed, Side, Out, Certs}
use Rattle.vx_desk.specs.Told.{Told}
use Rattle.vx_desk.proofs.CallLemmas.{failures_after}
use Rattle.vx_drivers.specs.Exits.{exit_calls, is_cut}
use Rattle.vx_drivers.proofs.ExitLemmas.{certs_not_feed, certs_not_out, certs_not_side, feed_not_certs, feed_not_side, out_not_certs, out_not_feed, out_not_side, side_not_certs}
use Rattle.vx_cli.proofs.SettleLemmas.{files_settled, nothing_settled}
use Rattle.vx_cli.proofs.settle.settle_files.Goals as goal

pub returns-in-Err-clause-sends : goal.returns-in-Err-clause-sends
returns-in-Err-clause-sends g c =
    let before = g.D.Desk.told c.args.desk.now in
    let others = c.in-Err.ensures.others in
    nothing_settled (record { feed = g.D.Desk.holds c.args.desk.now c.args.feed.now; side = g.D.Desk.holds c.args.desk.now c.args.positions.now })
    before (g.D.Desk.told c.open_slot.new.desk) c.in-Err.exit
    (ap is_cut c.in-Err.ensures.opens.0) (others Out out_not_feed)
    (ap (λ (t : Told). t.is_open) (others Certs certs_not_feed) ∙ c.requires.closed Certs certs_not_out)
    (ap (λ (t : Told). t.sent) (others Certs certs_not_feed))

pub returns-in-Err-open_slot-clause-sends : goal.returns-in-Err-open_slot-clause-sends
returns-in-Err-open_slot-clause-sends g c =
    let before = g.D.Desk.told c.args.desk.now in
    let first = c.in-Ok.ensures.others in
    let failed = c.in-Err-open_slot.ensures in
    let certs = failed.others Certs (certs_not_side Side refl) ∙ first Certs certs_not_feed in
    nothing_settled (record { feed = g.D.Desk.holds c.args.desk.now c.args.feed.now; side = g.D.Desk.holds c.args.desk.now c.args.positions.now })
    before (g.D.Desk.told c.open_slot-2.new.desk) c.in-Err-open_slot.exit
    (ap is_cut failed.opens.0) (failed.others Out (out_not_side Side refl) ∙ first Out out_not_feed)
    (ap (λ (t : Told). t.is_open) certs ∙ c.requires.closed Certs certs_not_out) (ap (λ (t : Told). t.sent) certs)

pub returns-in-Err-open_slot-2-clause-sends : goal.returns-in-Err-open_slot-2-clause-sends
returns-in-Err-open_slot-2-clause-sends g c =
    let before = g.D.Desk.told c.args.desk.now in
    let first = c.in-Ok.ensures.others in
    let second = c.in-Ok-open_slot.ensures.others in
    let failed = c.in-Err-open_slot-2.ensures in
    let certs = second Certs (certs_not_side Side refl) ∙ first Certs certs_not_feed in
    nothing_settled (record { feed = g.D.Desk.holds c.args.desk.now c.args.feed.now; side = g.D.Desk.holds c.args.desk.now c.args.positions.now })
    before (g.D.Desk.told c.open_slot-3.new.desk) c.in-Err-open_slot-2.exit
    (ap is_cut failed.opens.0) (failed.others Out out_not_certs ∙ second Out (out_not_side Side refl) ∙ first Out out_not_feed)
    (failed.opens.1.is_open ∙ ap (λ (t : Told). t.is_open) certs ∙ c.requires.closed Certs certs_not_out)
    (failed.opens.1.sent ∙ ap (λ (t : Told). t.sent) certs)

pub returns-clause-failures : goal.returns-clause-failures
returns-clause-failures g c =
    let before = g.D.Desk.told c.args.desk.now in
    let one = g.D.Desk.told c.open_slot.new.desk in
    let two = g.D.Desk.told c.open_slot-2.new.desk in
    let three = g.D.Desk.told c.open_slot-3.new.desk in
    let opened = failures_after before one two None c.in-Ok.ensures.failures c.in-Ok-open_slot.ensures.failures in
    let all = failures_after before two three None opened c.in-Ok-open_slot-2.ensures.failures in
    failures_after before three (g.D.Desk.told c.settle_open.new.desk) (exit_calls c.settle_open.result) all c.settle_open.ensures.step.failures

pub returns-clause-sends : goal.returns-clause-sends
returns-clause-sends g c =
    let before = g.D.Desk.told c.args.desk.now in
    let three = g.D.Desk.told c.open_slot-3.new.desk in
    let first = c.in-Ok.ensures in
    let second = c.in-Ok-open_slot.ensures in
    let third = c.in-Ok-open_slot-2.ensures in
    let positions_held : g.D.Desk.holds c.open_slot.new.desk c.args.positions.now ≡ g.D.Desk.holds c.args.desk.now c.args.positions.now =
    ap (λ holds. holds c.args.positions.now) first.names in
    let certs_same = second.others Certs (certs_not_side Side refl) ∙ first.others Certs certs_not_feed in
    files_settled (g.D.Desk.holds c.args.desk.now c.args.feed.now) (g.D.Desk.holds c.args.desk.now c.args.positions.now)
    before three (g.D.Desk.told c.settle_open.new.desk) c.settle_open.result
    (ap (λ (t : Told). t.left) (third.others Feed feed_not_certs ∙ second.others Feed (feed_not_side Side refl)) ∙ (first.opens.to_read tt).0)
    (ap (λ (t : Told). t.left) (third.others Side side_not_certs) ∙ (second.opens.to_read tt).0 ∙ positions_held)
    (third.others Out out_not_certs ∙ second.others Out (out_not_side Side refl) ∙ first.others Out out_not_feed)
    ((third.opens.to_write tt).0 ∙ ap (λ (t : Told). option_map (λ bytes. []) t.sent) certs_same)
    (subst IsTrue (sym (c.settle_open.ensures.step.slots.is_open Certs)) third.opens.open_now)
    c.settle_open.ensures.ends
