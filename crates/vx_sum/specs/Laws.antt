-- The law of sums.
use Rattle.std.specs.Prelude.{◌≡◌, ℕ, List}
use Rattle.vx_formula.specs.Strip.{StripEntry}
use Rattle.vx_sum.specs.declared.sum.StripSum.{StripSum}
use Rattle.vx_sum.specs.Sums.{IsSumOf}

-- entries have at most one sum
abbrev pub SumIsOne : Type 0
SumIsOne = (P : ℕ) (entries : List StripEntry) (a b : StripSum P) → IsSumOf P entries a → IsSumOf P entries b → a ≡ b
