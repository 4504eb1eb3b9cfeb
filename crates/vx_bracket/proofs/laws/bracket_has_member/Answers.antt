use Rattle.vx_bracket.proofs.Members.{bracket_has_member as proof}
use Rattle.vx_bracket.proofs.laws.bracket_has_member.Goals as goal

pub returns : goal.returns
returns c = proof
