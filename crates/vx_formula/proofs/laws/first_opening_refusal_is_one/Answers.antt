use Rattle.vx_formula.proofs.RefusalLemmas.{first_opening_refusal_is_one as proof}
use Rattle.vx_formula.proofs.laws.first_opening_refusal_is_one.Goals as goal

pub returns : goal.returns
returns c = proof
