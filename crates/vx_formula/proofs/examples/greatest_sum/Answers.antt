use Rattle.vx_formula.proofs.ExampleProofs.{sum_of_two, sum_above_two}
use Rattle.vx_formula.proofs.examples.greatest_sum.Goals as goal

pub returns : goal.returns
returns c = record { two = sum_of_two; above = sum_above_two }
