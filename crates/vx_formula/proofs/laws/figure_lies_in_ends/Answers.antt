use Rattle.vx_formula.proofs.FigureLemmas.{figure_lies_in_ends as proof}
use Rattle.vx_formula.proofs.laws.figure_lies_in_ends.Goals as goal

pub returns : goal.returns
returns c = proof
