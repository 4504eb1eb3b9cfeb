use Rattle.vx_cli.proofs.ReplayIsOne.{replay_is_one as proof}
use Rattle.vx_cli.proofs.laws.replay_is_one.Goals as goal

pub returns : goal.returns
returns c = proof
