use Rattle.vx_formula.proofs.RangeLemmas.{exponent_is_small as proof}
use Rattle.vx_formula.proofs.laws.exponent_is_small.Goals as goal

pub returns : goal.returns
returns c = proof
