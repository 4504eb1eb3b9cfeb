use Rattle.vx_drivers.proofs.RunIsThere.{run_is_there}
use Rattle.vx_drivers.proofs.laws.certificate_run_is_there.Goals as goal

pub returns : goal.returns
returns g c = run_is_there g.C.AnswersCertificates.rules
