-- The law is a lemma of Certificates.
use Rattle.vx_whole.proofs.Certificates.{check_is_there as proof}
use Rattle.vx_whole.proofs.laws.check_is_there.Goals as goal

pub returns : goal.returns
returns c = proof
