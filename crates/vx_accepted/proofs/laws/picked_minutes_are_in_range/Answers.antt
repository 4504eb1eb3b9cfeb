-- The law is a lemma of PickedMinutes.
use Rattle.vx_accepted.proofs.PickedMinutes.{picked_minutes_are_in_range as proof}
use Rattle.vx_accepted.proofs.laws.picked_minutes_are_in_range.Goals as goal

pub returns : goal.returns
returns c = proof
