use Rattle.vx_formula.proofs.LevelLemmas.{level_is_one as proof}
use Rattle.vx_formula.proofs.laws.level_is_one.Goals as goal

pub returns : goal.returns
returns c = proof
