use Rattle.std.proofs.Common.{◌≡◌, ◌-◌, ℕ, List, Option, None, IsTrue}
use Rattle.vx_desk.specs.declared.device.Slot.{Slot}
use Rattle.vx_desk.specs.declared.device.Slot.TheVariants.{Feed, Side, Out, Certs}
use Rattle.vx_desk.specs.Told.{Told}
use Rattle.vx_feed.specs.Feed.{Reading}
use Rattle.vx_feed.specs.declared.limits.TheConstants.{LINES_MAX}
use Rattle.vx_desk.specs.Calls.{IsStep}
use Rattle.vx_drivers.specs.TickSteps.{HasAnswered, MayGoOnTicks, events_read}
use Rattle.vx_drivers.proofs.tick_run.TickRun.answer_all.Given as goal

abbrev pub invariant-events : goal.invariant-events
invariant-events g l = record {
  way : (held : Option (List ℕ)) (feed : Option Reading) (before : Slot → Told)
      → HasAnswered g.T.AnswersTicks.rules g.T.TakesEvents.StandsFor held feed before l.initial.self (g.D.Desk.told l.initial.desk)
      → HasAnswered g.T.AnswersTicks.rules g.T.TakesEvents.StandsFor held feed before l.self (g.D.Desk.told l.desk);
  may : MayGoOnTicks g.T.AnswersTicks.rules g.T.TakesEvents.StandsFor l.self (g.D.Desk.told l.desk);
  feed : IsTrue (g.D.Desk.told l.desk Feed).is_open;
  certs : IsTrue (g.D.Desk.told l.desk Certs).is_open;
  out : IsTrue (g.D.Desk.told l.desk Out).is_open;
  step : IsStep None (g.D.Desk.told l.initial.desk) (g.D.Desk.told l.desk);
  side : g.D.Desk.told l.desk Side ≡ g.D.Desk.told l.initial.desk Side;
}

abbrev pub decreases-events : goal.decreases-events
decreases-events g l = LINES_MAX - events_read l.self
