use Rattle.std.proofs.Common.{ℕ, ◌<◌, slice_index_or}
use Rattle.vx_cert.specs.declared.rows.CertRow.{CertRow}
use Rattle.vx_claims.specs.TermTests.{EnclosesContribution}
use Rattle.vx_tests.proofs.sums.enclose_contributions.Given as goal

abbrev pub invariant-loop-row : goal.invariant-loop-row
invariant-loop-row l = (k : ℕ) → k < l.row-index → (d : CertRow) → EnclosesContribution l.scale (slice_index_or l.rows k d)
