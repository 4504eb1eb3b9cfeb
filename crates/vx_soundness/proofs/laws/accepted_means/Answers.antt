-- The law is a lemma of Meaning.
use Rattle.vx_soundness.proofs.Meaning.{accepted_means as proof}
use Rattle.vx_soundness.proofs.laws.accepted_means.Goals as goal

pub returns : goal.returns
returns c = proof
