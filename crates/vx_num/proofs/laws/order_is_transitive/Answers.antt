-- The law is a lemma.
use Rattle.vx_num.proofs.Fractions.{≤ᶠ_trans}
use Rattle.vx_num.proofs.laws.order_is_transitive.Goals as goal

pub returns : goal.returns
returns c = ≤ᶠ_trans
