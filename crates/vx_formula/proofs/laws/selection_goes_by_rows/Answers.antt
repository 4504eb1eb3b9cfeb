use Rattle.vx_formula.proofs.SelectionLemmas.{selection_goes_by_rows as proof}
use Rattle.vx_formula.proofs.laws.selection_goes_by_rows.Goals as goal

pub returns : goal.returns
returns c = proof
