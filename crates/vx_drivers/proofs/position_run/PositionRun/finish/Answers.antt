use Rattle.std.proofs.Common.{◌∙◌, refl}
use Rattle.vx_desk.specs.declared.device.Slot.TheVariants.{Feed, Side, Certs}
use Rattle.vx_drivers.specs.declared.exit.Exit.TheVariants.{NoMemory}
use Rattle.vx_drivers.proofs.ExitLemmas.{certs_not_out, feed_not_out, side_not_out}
use Rattle.vx_drivers.proofs.PositionRunLemmas.{last_cut, last_sent, last_wanting}
use Rattle.vx_drivers.proofs.position_run.PositionRun.finish.Goals as goal

pub end-requires-clause-items : goal.end-requires-clause-items
end-requires-clause-items g c =
    let way = c.requires.may.4.2 in
    (way.answer, way.items, way.sheet, way.count)

pub returns-in-Err-clause-ends : goal.returns-in-Err-clause-ends
returns-in-Err-clause-ends g c = λ held feed positions before through.
    last_wanting g.S.SettlesPositions.rules g.S.SettlesPositions.StandsAt held feed positions before c.args.self.now (g.D.Desk.told c.args.desk.now)
    NoMemory through refl

pub returns-in-Ok-send_line-clause-ends : goal.returns-in-Ok-send_line-clause-ends
returns-in-Ok-send_line-clause-ends g c = λ held feed positions before through.
    last_sent g.S.SettlesPositions.rules g.S.SettlesPositions.StandsAt held feed positions before c.args.self.now (g.D.Desk.told c.args.desk.now)
    (g.D.Desk.told c.send_line.new.desk) c.as_slice.result.now
    through (c.in-Ok-send_line.ensures.others Certs certs_not_out)
    (c.as_slice.ensures.value ∙ c.in-Ok.ensures through.2.answer through.2.items through.2.sheet through.2.count) c.in-Ok-send_line.ensures.sends

pub returns-in-Err-send_line-clause-ends : goal.returns-in-Err-send_line-clause-ends
returns-in-Err-send_line-clause-ends g c = λ held feed positions before through.
    last_cut g.S.SettlesPositions.rules g.S.SettlesPositions.StandsAt held feed positions before c.args.self.now (g.D.Desk.told c.args.desk.now)
    (g.D.Desk.told c.send_line.new.desk) c.as_slice.result.now c.in-Err-send_line.exit
    through (c.in-Err-send_line.ensures.others Feed feed_not_out) (c.in-Err-send_line.ensures.others Side side_not_out)
    (c.in-Err-send_line.ensures.others Certs certs_not_out)
    (c.as_slice.ensures.value ∙ c.in-Ok.ensures through.2.answer through.2.items through.2.sheet through.2.count) c.in-Err-send_line.ensures.sends
