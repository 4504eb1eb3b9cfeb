use Rattle.vx_formula.proofs.ExampleProofs.{twice_the_level_counts, more_does_not_count}
use Rattle.vx_formula.proofs.examples.next_strike.Goals as goal

pub returns : goal.returns
returns c = record { twice = twice_the_level_counts; more = more_does_not_count }
