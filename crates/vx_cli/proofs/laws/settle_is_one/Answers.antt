use Rattle.vx_cli.proofs.SettleIsOne.{settle_is_one as proof}
use Rattle.vx_cli.proofs.laws.settle_is_one.Goals as goal

pub returns : goal.returns
returns c = proof
