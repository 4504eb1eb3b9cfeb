-- The head and the ticks so far were sent.
use Rattle.std.proofs.Common.{None}
use Rattle.vx_desk.specs.Calls.{IsStep}
use Rattle.vx_desk.specs.Told.{ChangesOnly}
use Rattle.vx_desk.specs.declared.device.Slot.TheVariants.{Out}
use Rattle.vx_drivers.specs.Sending.{Sent}
use Rattle.vx_make.specs.Pieces.{HasMade, made_text}
use Rattle.vx_cli.proofs.make.send_pieces.Given as goal

abbrev pub invariant-loop : goal.invariant-loop
invariant-loop g l = record {
  made : HasMade l.number l.ticks l.counter l.feed;
  sent : Sent (made_text l.number l.counter) (g.D.Desk.told l.fn.desk Out) (g.D.Desk.told l.desk Out);
  others : ChangesOnly Out (g.D.Desk.told l.fn.desk) (g.D.Desk.told l.desk);
  step : IsStep None (g.D.Desk.told l.fn.desk) (g.D.Desk.told l.desk);
}
