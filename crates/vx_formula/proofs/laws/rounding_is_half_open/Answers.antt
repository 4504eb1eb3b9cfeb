use Rattle.vx_formula.proofs.FigureLemmas.{rounding_is_half_open as proof}
use Rattle.vx_formula.proofs.laws.rounding_is_half_open.Goals as goal

pub returns : goal.returns
returns c = proof
