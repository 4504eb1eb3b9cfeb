-- The law is a lemma of Joining.
use Rattle.vx_replay.proofs.Joining.{picked_answers_are_joinable as proof}
use Rattle.vx_replay.proofs.laws.picked_answers_are_joinable.Goals as goal

pub returns : goal.returns
returns c = proof
