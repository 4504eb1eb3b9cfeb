use Rattle.vx_lines.proofs.CutLemmas.{lines_are_cut as proof}
use Rattle.vx_lines.proofs.laws.lines_are_cut.Goals as goal

pub returns : goal.returns
returns c = proof
