use Rattle.vx_bracket.proofs.Members.{members_are_positive as proof}
use Rattle.vx_bracket.proofs.laws.members_are_positive.Goals as goal

pub returns : goal.returns
returns c = proof
