use Rattle.std.proofs.Common.{◌≡◌, IsTrue}
use Rattle.vx_desk.specs.declared.device.Slot.TheVariants.{Feed}
use Rattle.line_count.proofs.count_lines.Given as goal

-- the reader reads the feed's slot, which is open
abbrev pub invariant-loop : goal.invariant-loop
invariant-loop g l = (l.reader.slot ≡ Feed) × IsTrue (g.D.Desk.told l.desk Feed).is_open
