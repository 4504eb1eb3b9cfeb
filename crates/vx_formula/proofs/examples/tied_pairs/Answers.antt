use Rattle.vx_formula.proofs.ExampleProofs.{tie_takes_lowest_strike, tied_forward, tied_level, tied_has_no_put}
use Rattle.vx_formula.proofs.examples.tied_pairs.Goals as goal

pub returns : goal.returns
returns c = record { pair = tie_takes_lowest_strike; forward = tied_forward; level = tied_level; no_put = tied_has_no_put }
