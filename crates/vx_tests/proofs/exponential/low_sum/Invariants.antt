use Rattle.std.proofs.Common.{◌≡◌, ◌*◌, ◌-◌, ◌^◌, ◌≤◌, take}
use Rattle.std.specs.List.{sum}
use Rattle.vx_tests.proofs.exponential.low_sum.Given as goal

abbrev pub invariant-loop-place : goal.invariant-loop-place
invariant-loop-place l = record {
  value : l.sum ≡ sum (take l.place l.terms);
  bound : l.sum ≤ l.place * (2 ^ 64 - 1);
}
