-- The ends of a term's variance in bounded arithmetic, in units of 2^-P: the operations of the formula, one by one. This project's
-- own; the formula is that of `variance_at`.
use Rattle.std.specs.Prelude.{ℕ, pos}
use Rattle.vx_interval.specs.Ends.{Ends, exact_ends, sub_ends, scale_ends, mul_ends, square_ends, over_ends}

-- how far a forward lies above a level, over the level: F/K0 - 1
abbrev pub excess_ends : ℕ → ℕ → Ends → Ends
excess_ends P level f = over_ends (sub_ends f (exact_ends P (pos level))) (pos level)

-- 2 * e * S(K0) - (F/K0 - 1)^2, of the exponential e, the strip's sum and that excess
abbrev pub variance_ends : ℕ → Ends → Ends → Ends → Ends
variance_ends P e total excess = sub_ends (scale_ends (mul_ends P e total) (pos 2)) (square_ends P excess)
