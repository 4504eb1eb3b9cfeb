use Rattle.vx_formula.proofs.SelectionLemmas.{selected_rows_rise as proof}
use Rattle.vx_formula.proofs.laws.selected_rows_rise.Goals as goal

pub returns : goal.returns
returns c = proof
