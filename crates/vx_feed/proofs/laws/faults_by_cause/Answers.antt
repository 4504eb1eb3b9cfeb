use Rattle.vx_feed.proofs.CauseLemmas.{faults_by_cause as proof}
use Rattle.vx_feed.proofs.laws.faults_by_cause.Goals as goal

pub returns : goal.returns
returns c = proof
