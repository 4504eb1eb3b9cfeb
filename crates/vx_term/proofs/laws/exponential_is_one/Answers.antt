use Rattle.vx_term.proofs.TermLaws.{exponential_at_zero as proof}
use Rattle.vx_term.proofs.laws.exponential_is_one.Goals as goal

pub returns : goal.returns
returns c = proof
