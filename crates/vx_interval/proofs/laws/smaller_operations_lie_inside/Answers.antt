-- The laws are lemmas.
use Rattle.vx_interval.proofs.Insides.{sums, differences, multiples, quotients, rescaled, products, squares}
use Rattle.vx_interval.proofs.laws.smaller_operations_lie_inside.Goals as goal

pub returns : goal.returns
returns c = record { sum = sums; difference = differences; multiple = multiples; quotient = quotients; rescaled = rescaled; product = products; square = squares }
