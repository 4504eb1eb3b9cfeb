use Rattle.std.proofs.Common.{length, ◌-◌, ◌≡◌}
use Rattle.vx_desk.specs.Told.{ChangesOnly}
use Rattle.vx_desk.proofs.SendingLemmas.{SentSoFar}
use Rattle.vx_desk.proofs.sending.send.Given as goal

abbrev pub invariant-loop-sent : goal.invariant-loop-sent
invariant-loop-sent g l = record {
  part : SentSoFar l.bytes l.sent (g.D.Desk.told l.initial.desk l.slot) (g.D.Desk.told l.desk l.slot);
  others : ChangesOnly l.slot (g.D.Desk.told l.initial.desk) (g.D.Desk.told l.desk);
  names : g.D.Desk.holds l.desk ≡ g.D.Desk.holds l.initial.desk;
}

abbrev pub decreases-loop-sent : goal.decreases-loop-sent
decreases-loop-sent g l = length l.bytes - l.sent
