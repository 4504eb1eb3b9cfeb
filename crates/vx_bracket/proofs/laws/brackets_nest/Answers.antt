use Rattle.vx_bracket.proofs.Members.{brackets_nest as proof}
use Rattle.vx_bracket.proofs.laws.brackets_nest.Goals as goal

pub returns : goal.returns
returns c = proof
