use Rattle.vx_formula.proofs.FigureLemmas.{far_forward_is_decided as proof}
use Rattle.vx_formula.proofs.laws.far_forward_is_decided.Goals as goal

pub returns : goal.returns
returns c = proof
