use Rattle.std.proofs.Common.{to_z-of_z}
use Rattle.vx_tests.proofs.exponential.encloses_reciprocal.Goals as goal

pub returns-then-are_sums_in_range : goal.returns-then-are_sums_in_range
returns-then-are_sums_in_range c =
    let low = to_z-of_z c.ranges.low in
    let high = to_z-of_z c.ranges.high in
    let sums = rw (low, high) at c.are_sums_in_range.ensures in
    let ends = rw (low, high) at c.is_reciprocal.ensures in
    let range = sums.0 c.if-are_sums_in_range.true in (
      λ t. let both = ends.0 t in record { low_range = range.0; high_range = range.1; below = both.0; above = both.1 },
      λ h. ends.1 (h.below, h.above),
    )
