use Rattle.vx_formula.proofs.FigureLemmas.{clear_index_is_decided as proof}
use Rattle.vx_formula.proofs.laws.clear_index_is_decided.Goals as goal

pub returns : goal.returns
returns c = proof
