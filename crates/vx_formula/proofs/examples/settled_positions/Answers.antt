use Rattle.vx_formula.proofs.ExampleProofs.{bought_gain, sold_lose, sold_minis_gain}
use Rattle.vx_formula.proofs.examples.settled_positions.Goals as goal

pub returns : goal.returns
returns c = record { bought = bought_gain; sold = sold_lose; minis = sold_minis_gain }
