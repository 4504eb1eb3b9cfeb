use Rattle.std.proofs.Common.{◌∙◌, sym, refl}
use Rattle.vx_desk.specs.declared.device.Slot.TheVariants.{Feed, Side, Out, Certs}
use Rattle.vx_desk.proofs.CallLemmas.{step_after}
use Rattle.vx_drivers.specs.Exits.{calls_in}
use Rattle.vx_drivers.specs.PositionSteps.{allowed_positions}
use Rattle.vx_drivers.proofs.ExitLemmas.{certs_not_out, certs_not_side, feed_not_out, feed_not_side, out_not_side, side_not_out}
use Rattle.vx_drivers.proofs.PositionRunLemmas.{read_on_sent, unsent_cut}
use Rattle.vx_drivers.proofs.position_run.PositionRun.read_more.Goals as goal

pub returns-then-has_line-clause-reads : goal.returns-then-has_line-clause-reads
returns-then-has_line-clause-reads g c = λ held feed positions before way. (way, λ none. absurd (let no : ⊥ = let some = sym c.has_line.ensures ∙ c.if-has_line.true in cc in no))

pub returns-in-Err-clause-reads : goal.returns-in-Err-clause-reads
returns-in-Err-clause-reads g c = λ held feed positions before way.
    let told = g.D.Desk.told c.args.desk.now in
    unsent_cut g.S.SettlesPositions.rules g.S.SettlesPositions.StandsAt held feed positions before c.args.self.now c.args.positions.now
    told (g.D.Desk.told c.send_unsent.new.desk) (allowed_positions c.args.self.now.count c.args.positions.now told) c.in-Err.exit way
    (c.in-Err.ensures.others Feed feed_not_out) (c.in-Err.ensures.others Side side_not_out) (c.in-Err.ensures.others Certs certs_not_out)
    c.in-Err.ensures.sends

pub returns-clause-reads : goal.returns-clause-reads
returns-clause-reads g c = λ held feed positions before way.
    read_on_sent g.S.SettlesPositions.rules g.S.SettlesPositions.StandsAt held feed positions before c.args.self.now c.send_unsent.new.self
    c.args.positions.now c.read_on.new.positions (g.D.Desk.told c.args.desk.now) (g.D.Desk.told c.send_unsent.new.desk) (g.D.Desk.told c.read_on.new.desk)
    c.read_on.result way
    (c.in-Ok.ensures.others Feed feed_not_out) (c.in-Ok.ensures.others Side side_not_out) (c.in-Ok.ensures.others Certs certs_not_out)
    c.in-Ok.ensures.sends c.in-Ok.ensures.kept.0 c.in-Ok.ensures.kept.1 c.in-Ok.ensures.none
    (c.read_on.ensures.others Feed (feed_not_side Side refl)) (c.read_on.ensures.others Out (out_not_side Side refl))
    (c.read_on.ensures.others Certs (certs_not_side Side refl))
    c.read_on.ensures.lines c.read_on.ensures.coming c.read_on.ensures.read c.read_on.ensures.cut

pub returns-clause-step : goal.returns-clause-step
returns-clause-step g c =
    step_after (calls_in c.read_on.result) (g.D.Desk.told c.args.desk.now) (g.D.Desk.told c.send_unsent.new.desk) (g.D.Desk.told c.read_on.new.desk)
    c.in-Ok.ensures.step c.read_on.ensures.step
