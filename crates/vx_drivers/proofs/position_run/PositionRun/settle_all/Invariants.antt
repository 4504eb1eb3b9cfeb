use Rattle.std.proofs.Common.{◌-◌, ◌≤◌, Option, None, IsTrue}
use Rattle.vx_desk.specs.declared.device.Slot.{Slot}
use Rattle.vx_desk.specs.declared.device.Slot.TheVariants.{Side, Out}
use Rattle.vx_desk.specs.Told.{Told}
use Rattle.vx_feed.specs.Feed.{Reading}
use Rattle.vx_lines.specs.TextLines.{TextLines}
use Rattle.vx_desk.specs.Calls.{IsStep}
use Rattle.vx_drivers.specs.declared.limits.TheConstants.{POSITION_LINES_MAX}
use Rattle.vx_drivers.specs.Held.{Held}
use Rattle.vx_drivers.specs.PositionLines.{IsPositionLines}
use Rattle.vx_drivers.specs.PositionSteps.{IsSettling, MaySettle, allowed_positions}
use Rattle.vx_drivers.proofs.position_run.PositionRun.settle_all.Given as goal

abbrev pub invariant-lines : goal.invariant-lines
invariant-lines g l = record {
  way : (held : Held) (feed : Option Reading) (positions : Option TextLines) (before : Slot → Told)
      → IsSettling g.S.SettlesPositions.rules g.S.SettlesPositions.StandsAt held feed positions before l.initial.self l.initial.positions
      (g.D.Desk.told l.initial.desk)
      (allowed_positions l.initial.self.count l.initial.positions (g.D.Desk.told l.initial.desk))
      → IsSettling g.S.SettlesPositions.rules g.S.SettlesPositions.StandsAt held feed positions before l.self l.positions (g.D.Desk.told l.desk)
      (allowed_positions l.self.count l.positions (g.D.Desk.told l.desk));
  may : MaySettle g.S.SettlesPositions.rules g.S.SettlesPositions.StandsAt l.self l.positions (g.D.Desk.told l.desk);
  lines : IsPositionLines l.positions;
  few : l.self.count ≤ POSITION_LINES_MAX;
  side : IsTrue (g.D.Desk.told l.desk Side).is_open;
  out : IsTrue (g.D.Desk.told l.desk Out).is_open;
  step : IsStep None (g.D.Desk.told l.initial.desk) (g.D.Desk.told l.desk);
}

abbrev pub decreases-lines : goal.decreases-lines
decreases-lines g l = POSITION_LINES_MAX - l.self.count
