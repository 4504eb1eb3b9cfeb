use Rattle.vx_formula.proofs.LevelLemmas.{level_is_not_below_all as proof}
use Rattle.vx_formula.proofs.laws.level_is_not_below_all.Goals as goal

pub returns : goal.returns
returns c = proof
