use Rattle.vx_formula.proofs.SelectionLemmas.{selected_rows_are_listed as proof}
use Rattle.vx_formula.proofs.laws.selected_rows_are_listed.Goals as goal

pub returns : goal.returns
returns c = proof
