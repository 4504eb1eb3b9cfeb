use Rattle.vx_settle.proofs.Netting.{netted_settles_to_zero as proof}
use Rattle.vx_settle.proofs.laws.netted_settles_to_zero.Goals as goal

pub returns : goal.returns
returns c = proof
