-- The law is a lemma.
use Rattle.vx_num.proofs.Fractions.{≤ᶠ_refl}
use Rattle.vx_num.proofs.laws.order_is_reflexive.Goals as goal

pub returns : goal.returns
returns c = ≤ᶠ_refl
