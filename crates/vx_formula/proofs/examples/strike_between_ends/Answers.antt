use Rattle.vx_formula.proofs.ExampleProofs.{strike_is_between, others_are_not}
use Rattle.vx_formula.proofs.examples.strike_between_ends.Goals as goal

pub returns : goal.returns
returns c = record { between = strike_is_between; others = others_are_not }
