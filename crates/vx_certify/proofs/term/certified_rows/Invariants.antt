-- The rows that are stated so far, with those of what is left, are all.
use Rattle.std.proofs.Common.{◌≡◌, ◌++◌}
use Rattle.std.specs.Iterator.Adapters.{zip_first, zip_second}
use Rattle.std.specs.Slice.Iter.{iter_rest}
use Rattle.vx_certify.specs.Certified.{certified_rows}
use Rattle.vx_certify.proofs.term.certified_rows.Given as goal

-- the rows so far, and those of what is left, are all
abbrev pub invariant-loop-row : goal.invariant-loop-row
invariant-loop-row l =
    l.stated ++ certified_rows (iter_rest (zip_first l.row-iterator)) (iter_rest (zip_second l.row-iterator)) ≡ certified_rows l.rows l.parts
