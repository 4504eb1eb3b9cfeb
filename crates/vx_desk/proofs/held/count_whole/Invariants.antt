use Rattle.std.proofs.Common.{◌-◌, ◌≤◌, length, take}
use Rattle.vx_desk.specs.Held.{IsLinesText}
use Rattle.vx_desk.proofs.held.count_whole.Given as goal

abbrev pub invariant-lines : goal.invariant-lines
invariant-lines l = record {
  within : l.taken ≤ length l.bytes;
  lines : IsLinesText l.limit (take l.taken l.bytes);
}

abbrev pub decreases-lines : goal.decreases-lines
decreases-lines l = length l.bytes - l.taken
