use Rattle.vx_bracket.proofs.Members.{forms_agree_at_zero as proof}
use Rattle.vx_bracket.proofs.laws.forms_agree_at_zero.Goals as goal

pub returns : goal.returns
returns c = proof
