-- The law is a lemma of Writable.
use Rattle.vx_soq.proofs.Writable.{opening_can_be_written as proof}
use Rattle.vx_soq.proofs.laws.opening_can_be_written.Goals as goal

pub returns : goal.returns
returns c = proof
