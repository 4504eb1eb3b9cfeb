use Rattle.vx_formula.proofs.PairLemmas.{closest_pair_is_one as proof}
use Rattle.vx_formula.proofs.laws.closest_pair_is_one.Goals as goal

pub returns : goal.returns
returns c = proof
