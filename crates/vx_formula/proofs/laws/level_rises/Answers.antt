use Rattle.vx_formula.proofs.LevelLemmas.{level_rises as proof}
use Rattle.vx_formula.proofs.laws.level_rises.Goals as goal

pub returns : goal.returns
returns c = proof
