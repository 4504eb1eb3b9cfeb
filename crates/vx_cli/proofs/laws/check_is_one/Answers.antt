use Rattle.vx_cli.proofs.CheckIsOne.{check_is_one as proof}
use Rattle.vx_cli.proofs.laws.check_is_one.Goals as goal

pub returns : goal.returns
returns c = proof
