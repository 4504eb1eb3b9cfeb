use Rattle.std.proofs.Common.{ℤ, rules, to_z-of_z}
use Rattle.std.specs.Prelude.{int_le}
use Rattle.std.proofs.lemmas.List.Sorted.{IsPartitionPoint-from_clause}
use Rattle.vx_interval.proofs.Ranges.{cast}
use Rattle.vx_forward.specs.Level.{in_units}
use Rattle.vx_forward.proofs.Places.{is_partitioned, split_from_tests, split_given}
use Rattle.vx_forward.proofs.level.first_above.Goals as goal

pub returns-clause-split : goal.returns-clause-split
returns-clause-split c =
    let end : ℤ = cast c.args.end in
    split_given c.args.rows.now c.args.end end c.partition_point.result (to_z-of_z c.ranges.end)
    (split_from_tests c.args.rows.now end c.partition_point.result
    (IsPartitionPoint-from_clause (λ row. int_le (in_units row.strike) end) c.args.rows.now c.partition_point.result c.partition_point.ensures.partitioned (is_partitioned c.args.rows.now end c.requires.rising) (λ a r f h. search rules)))
