use Rattle.std.proofs.Common.{◌-◌, ◌≤◌, Option, None, IsTrue}
use Rattle.vx_desk.specs.declared.device.Slot.TheVariants.{Feed, Side, Out}
use Rattle.vx_desk.specs.Coming.{IsReader}
use Rattle.vx_desk.specs.Told.{Told}
use Rattle.vx_feed.specs.Feed.{Reading}
use Rattle.vx_lines.specs.TextLines.{TextLines}
use Rattle.vx_desk.specs.Calls.{IsStep}
use Rattle.vx_drivers.specs.declared.limits.TheConstants.{CERT_LINES_MAX, CERT_LINE_LEN_MAX}
use Rattle.vx_drivers.specs.Held.{Held}
use Rattle.vx_drivers.specs.CertificateSteps.{IsUnderWay, MayGoOn, allowed, answered_lines}
use Rattle.vx_drivers.proofs.check_run.CheckRun.answer_all.Given as goal

abbrev pub invariant-lines : goal.invariant-lines
invariant-lines g l = record {
  way : (held : Held) (feed : Option Reading) (certs : Option TextLines) (before : Told)
      → IsUnderWay g.C.AnswersCertificates.rules g.B.TakesEvents.StandsFor held feed certs before l.initial.self l.initial.certs
      (g.D.Desk.told l.initial.desk) (allowed (answered_lines l.initial.self) l.initial.certs (g.D.Desk.told l.initial.desk))
      → IsUnderWay g.C.AnswersCertificates.rules g.B.TakesEvents.StandsFor held feed certs before l.self l.certs
      (g.D.Desk.told l.desk) (allowed (answered_lines l.self) l.certs (g.D.Desk.told l.desk));
  some : MayGoOn g.C.AnswersCertificates.rules g.B.TakesEvents.StandsFor l.self l.certs (g.D.Desk.told l.desk);
  reader : IsReader Side CERT_LINE_LEN_MAX l.certs;
  few : answered_lines l.self ≤ CERT_LINES_MAX;
  feed : IsTrue (g.D.Desk.told l.desk Feed).is_open;
  side : IsTrue (g.D.Desk.told l.desk Side).is_open;
  out : IsTrue (g.D.Desk.told l.desk Out).is_open;
  step : IsStep None (g.D.Desk.told l.initial.desk) (g.D.Desk.told l.desk);
}

abbrev pub decreases-lines : goal.decreases-lines
decreases-lines g l = CERT_LINES_MAX - answered_lines l.self
