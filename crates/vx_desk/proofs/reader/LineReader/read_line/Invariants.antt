use Rattle.std.proofs.Common.{◌≡◌, ◌+◌, ◌-◌, ◌≤◌, length, take, true}
use Rattle.vx_desk.specs.Told.{ChangesOnly}
use Rattle.vx_desk.specs.Lines.{HasNoLf, holds_line}
use Rattle.vx_desk.proofs.NextLemmas.{ReadsOn}
use Rattle.vx_desk.proofs.reader.LineReader.read_line.Given as goal

abbrev pub invariant-fill : goal.invariant-fill
invariant-fill g l = record {
  on : ReadsOn l.fn.self l.self (g.D.Desk.told l.fn.desk l.fn.self.slot) (g.D.Desk.told l.desk l.fn.self.slot);
  within : l.searched ≤ length l.self.waiting;
  no_lf : HasNoLf (take l.searched l.self.waiting);
  others : ChangesOnly l.fn.self.slot (g.D.Desk.told l.fn.desk) (g.D.Desk.told l.desk);
  held : holds_line l.fn.self ≡ true → (l.desk ≡ l.fn.desk) × (l.self ≡ l.fn.self);
  names : g.D.Desk.holds l.desk ≡ g.D.Desk.holds l.fn.desk;
}

abbrev pub decreases-fill : goal.decreases-fill
decreases-fill g l = l.self.limit + 1 - length l.self.waiting
