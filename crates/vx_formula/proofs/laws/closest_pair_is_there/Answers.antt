use Rattle.vx_formula.proofs.PairLemmas.{closest_pair_is_there as proof}
use Rattle.vx_formula.proofs.laws.closest_pair_is_there.Goals as goal

pub returns : goal.returns
returns c = proof
