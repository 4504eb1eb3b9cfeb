use Rattle.vx_desk.proofs.UntoldLemmas.{write_failed}
use Rattle.vx_desk.proofs.real.count_write.Goals as goal

pub returns-in-Ok-eq0 : goal.returns-in-Ok-eq0
returns-in-Ok-eq0 c = λ bytes within. write_failed bytes _ c.args.failures.now c.count_write.new.self _ c.count_write.ensures.counted c.count_write.ensures.rose
