-- Quotients of whole numbers by a positive one, as functions. Textbook.
use Rattle.std.specs.Prelude.{ℤ, neg_ℤ}
use Rattle.std.specs.Int.{int_div_euclid}

-- the greatest whole number at most a / b
unfoldable pub floor_of : ℤ → ℤ → ℤ
floor_of a b = int_div_euclid a b

-- the least whole number at least a / b
unfoldable pub ceiling_of : ℤ → ℤ → ℤ
ceiling_of a b = neg_ℤ (int_div_euclid (neg_ℤ a) b)
