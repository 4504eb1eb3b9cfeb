-- The law is a lemma.
use Rattle.vx_num.proofs.Fractions.{≤ᶠ_total}
use Rattle.vx_num.proofs.laws.order_is_total.Goals as goal

pub returns : goal.returns
returns c = ≤ᶠ_total
