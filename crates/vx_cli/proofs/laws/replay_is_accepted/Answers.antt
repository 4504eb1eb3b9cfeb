use Rattle.vx_cli.proofs.ReplayAccepted.{replay_is_accepted as proof}
use Rattle.vx_cli.proofs.laws.replay_is_accepted.Goals as goal

pub returns : goal.returns
returns c = proof
