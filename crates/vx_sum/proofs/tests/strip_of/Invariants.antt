use Rattle.std.proofs.Common.{◌≡◌, take}
use Rattle.vx_sum.proofs.tests.strip_of.Given as goal

abbrev pub invariant-loop-row : goal.invariant-loop-row
invariant-loop-row l = l.strip.rows ≡ take l.row-index l.rows
