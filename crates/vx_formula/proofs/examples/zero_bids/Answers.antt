use Rattle.vx_formula.proofs.ExampleProofs.{stops_at_two_zero_bids, passes_single_zero_bids}
use Rattle.vx_formula.proofs.examples.zero_bids.Goals as goal

pub returns : goal.returns
returns c = record { stops_at_two = stops_at_two_zero_bids; passes_single = passes_single_zero_bids }
