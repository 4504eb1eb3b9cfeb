use Rattle.vx_drivers.proofs.OneRun.{run_is_one}
use Rattle.vx_drivers.proofs.laws.certificate_run_is_one.Goals as goal

pub returns : goal.returns
returns g c = λ feed certs a b x y h k.
    run_is_one g.C.AnswersCertificates.rules g.met.C.AnswersCertificates.reads_one g.met.C.AnswersCertificates.judges_one feed certs a b x y h k
