use Rattle.vx_formula.proofs.SelectionLemmas.{level_is_selected as proof}
use Rattle.vx_formula.proofs.laws.level_is_selected.Goals as goal

pub returns : goal.returns
returns c = proof
