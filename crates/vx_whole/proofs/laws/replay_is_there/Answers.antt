-- The law is a lemma of Ticks.
use Rattle.vx_whole.proofs.Ticks.{replay_is_there as proof}
use Rattle.vx_whole.proofs.laws.replay_is_there.Goals as goal

pub returns : goal.returns
returns c = proof
