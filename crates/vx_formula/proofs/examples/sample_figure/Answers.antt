use Rattle.vx_formula.proofs.ExampleProofs.{sample_strip, sample_rounds, sample_is_between}
use Rattle.vx_formula.proofs.examples.sample_figure.Goals as goal

pub returns : goal.returns
returns c = record { strip = sample_strip; rounds = sample_rounds; between = sample_is_between }
