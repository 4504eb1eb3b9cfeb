-- The sums of a strip, before they are a sum at the scale that the calculator asks for. This project's own.
use Rattle.std.specs.Prelude.{◌≡◌, ℕ, List, map}
use Rattle.vx_formula.specs.Strip.{StripEntry, upper_total}
use Rattle.vx_sum.specs.declared.totals.Totals.{Totals}
use Rattle.vx_sum.specs.Sums.{lower_total, row_ends, IsAccepted}

-- the totals hold exactly the ends of these entries and their sums, which are accepted
pub record AreTotalsOf (P : ℕ) (entries : List StripEntry) (totals : Totals) : Type 0 where
  pub rows : totals.rows ≡ map (row_ends P) entries
  pub lower : totals.lower ≡ lower_total P entries
  pub upper : totals.upper ≡ upper_total P entries
  pub accepted : IsAccepted P entries
