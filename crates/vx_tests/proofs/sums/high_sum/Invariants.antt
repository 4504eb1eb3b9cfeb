use Rattle.std.proofs.Common.{◌≡◌, ◌*◌, ◌-◌, ◌^◌, ◌≤◌, take}
use Rattle.std.specs.List.{sum_by}
use Rattle.vx_cert.specs.declared.rows.CertRow.{CertRow}
use Rattle.vx_tests.proofs.sums.high_sum.Given as goal

abbrev pub invariant-loop-row : goal.invariant-loop-row
invariant-loop-row l = record {
  value : l.sum ≡ sum_by (λ (row : CertRow). row.hi) (take l.row-index l.rows);
  bound : l.sum ≤ l.row-index * (2 ^ 64 - 1);
}
