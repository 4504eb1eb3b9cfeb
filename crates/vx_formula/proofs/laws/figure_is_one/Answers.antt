use Rattle.vx_formula.proofs.FigureLemmas.{figure_is_one as proof}
use Rattle.vx_formula.proofs.laws.figure_is_one.Goals as goal

pub returns : goal.returns
returns c = proof
