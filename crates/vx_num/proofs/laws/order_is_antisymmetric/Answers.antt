-- The law is a lemma.
use Rattle.vx_num.proofs.Fractions.{order_both_ways}
use Rattle.vx_num.proofs.laws.order_is_antisymmetric.Goals as goal

pub returns : goal.returns
returns c = order_both_ways
