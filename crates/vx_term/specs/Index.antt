-- The ends of the square of the index over 100 in bounded arithmetic, in units of 2^-P. This project's own; the formula is that of
-- `index_square` and `single_square`.
use Rattle.std.specs.Prelude.{ℕ, ◌-◌, ◌*◌, pos, ◌-ℤ◌}
use Rattle.vx_interval.specs.Ends.{Ends, add_ends, scale_ends, over_ends}
use Rattle.vx_formula.specs.declared.limits.TheConstants.{YEAR_MINUTES, THIRTY_DAYS}

-- two variances with their minutes n1 and n2, weighted to a time ahead of `target` minutes and taken for a year
abbrev pub interpolated_ends : ℕ → Ends → ℕ → Ends → ℕ → Ends
interpolated_ends target w1 n1 w2 n2 =
    over_ends (scale_ends (add_ends (scale_ends w1 (pos n2 -ℤ pos target)) (scale_ends w2 (pos target -ℤ pos n1))) (pos YEAR_MINUTES))
    (pos (target * (n2 - n1)))

-- one variance at exactly 30 days, taken for a year
abbrev pub single_ends : Ends → Ends
single_ends w = over_ends (scale_ends w (pos YEAR_MINUTES)) (pos THIRTY_DAYS)
