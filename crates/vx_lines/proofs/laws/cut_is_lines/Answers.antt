use Rattle.vx_lines.proofs.CutLemmas.{cut_is_lines as proof}
use Rattle.vx_lines.proofs.laws.cut_is_lines.Goals as goal

pub returns : goal.returns
returns c = proof
