use Rattle.vx_bracket.proofs.Members.{brackets_meet as proof}
use Rattle.vx_bracket.proofs.laws.brackets_meet.Goals as goal

pub returns : goal.returns
returns c = proof
