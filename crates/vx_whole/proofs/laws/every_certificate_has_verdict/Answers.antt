-- Each clause of the law is a lemma of its own.
use Rattle.vx_whole.proofs.Certificates.{every_certificate_has_verdict as proof}
use Rattle.vx_whole.proofs.Verdicts.{every_certificate_is_judged}
use Rattle.vx_whole.proofs.laws.every_certificate_has_verdict.Goals as goal

pub returns-clause-judged : goal.returns-clause-judged
returns-clause-judged c = every_certificate_is_judged

pub returns-clause-verdict : goal.returns-clause-verdict
returns-clause-verdict c = proof
