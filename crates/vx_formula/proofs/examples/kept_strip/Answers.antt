use Rattle.vx_formula.proofs.ExampleProofs.{all_are_touched, none_is_touched, neighbours_are_touched}
use Rattle.vx_formula.proofs.examples.kept_strip.Goals as goal

pub returns : goal.returns
returns c = record { all = all_are_touched; none = none_is_touched; neighbours = neighbours_are_touched }
