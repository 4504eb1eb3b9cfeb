use Rattle.std.proofs.Common.{rules}
use Rattle.std.specs.Prelude.{nat_le}
use Rattle.std.proofs.lemmas.List.Sorted.{IsPartitionPoint-from_clause}
use Rattle.vx_book.proofs.Rows.{place_is_for, rising_is_partitioned}
use Rattle.vx_book.proofs.table.place_for.Goals as goal

pub returns : goal.returns
returns c =
    place_is_for c.args.strike c.partition_point.result c.args.rows.now c.partition_point.ensures.bound
    (IsPartitionPoint-from_clause (λ row. nat_le row.strike c.args.strike) c.args.rows.now c.partition_point.result c.partition_point.ensures.partitioned
    (rising_is_partitioned c.args.strike c.args.rows.now c.requires) (λ a r f h. search rules))
