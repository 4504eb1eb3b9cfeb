use Rattle.vx_formula.proofs.RangeLemmas.{upper_end_is_ceiling as proof}
use Rattle.vx_formula.proofs.laws.upper_end_is_ceiling.Goals as goal

pub returns : goal.returns
returns c = proof
