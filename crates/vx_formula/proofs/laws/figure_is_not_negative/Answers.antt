use Rattle.vx_formula.proofs.FigureLemmas.{figure_is_not_negative as proof}
use Rattle.vx_formula.proofs.laws.figure_is_not_negative.Goals as goal

pub returns : goal.returns
returns c = proof
