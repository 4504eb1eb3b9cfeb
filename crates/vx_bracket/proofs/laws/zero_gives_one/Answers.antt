use Rattle.vx_bracket.proofs.Members.{zero_gives_one as proof}
use Rattle.vx_bracket.proofs.laws.zero_gives_one.Goals as goal

pub returns : goal.returns
returns c = proof
