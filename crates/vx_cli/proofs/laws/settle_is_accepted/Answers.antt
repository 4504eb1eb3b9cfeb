use Rattle.vx_cli.proofs.SettleAccepted.{settle_is_accepted as proof}
use Rattle.vx_cli.proofs.laws.settle_is_accepted.Goals as goal

pub returns : goal.returns
returns c = proof
