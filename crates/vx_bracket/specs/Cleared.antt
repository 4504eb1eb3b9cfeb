-- Taylor's sums of the exponential at `x = p/q`, with the denominators cleared: whole numbers alone.
-- Their quotients are the sums of `Bracket`; textbook.
use Rattle.std.specs.Prelude.{ℕ, zero, suc, ◌+◌, ◌*◌, ◌^◌}

-- q^n * n!, the common denominator of the first n + 1 terms
unfoldable pub series_bottom : ℕ → ℕ → ℕ
series_bottom q zero = 1
series_bottom q (suc n) = series_bottom q n * (q * suc n)

-- the sum of the first n + 1 terms over that denominator
unfoldable pub series_top : ℕ → ℕ → ℕ → ℕ
series_top p q zero = 1
series_top p q (suc n) = series_top p q n * (q * suc n) + p ^ suc n

-- the sum with twice the next term, over the next denominator
unfoldable pub upper_top : ℕ → ℕ → ℕ → ℕ
upper_top p q n = series_top p q n * (q * suc n) + 2 * p ^ suc n
