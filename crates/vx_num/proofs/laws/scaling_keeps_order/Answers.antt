-- The laws are lemmas.
use Rattle.vx_num.proofs.Fractions.{factor_both_ways, divisor_both_ways}
use Rattle.vx_num.proofs.laws.scaling_keeps_order.Goals as goal

pub returns : goal.returns
returns c = record { factor = factor_both_ways; divisor = divisor_both_ways }
