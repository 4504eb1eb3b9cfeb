-- A strip has at most one sum.
use Rattle.std.proofs.Common.{◌≡◌, ◌∙◌, sym}
use Rattle.vx_sum.specs.Laws.{SumIsOne}

pub sum_is_one : SumIsOne
sum_is_one P entries a b h k =
    let rows : a.rows ≡ b.rows = h.rows ∙ sym k.rows in
    let totals : a.total ≡ b.total = h.total ∙ sym k.total in
    λ i. record { rows = rows i; total = totals i }
