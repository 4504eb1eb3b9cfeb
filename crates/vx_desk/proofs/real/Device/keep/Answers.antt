use Rattle.vx_desk.proofs.UntoldLemmas.{open_failed}
use Rattle.vx_desk.proofs.real.Device.keep.Goals as goal

pub returns-in-Err : goal.returns-in-Err
returns-in-Err g c = λ slot name. open_failed slot name _ c.args.self.now.failures c.count_open.new.self _ c.count_open.ensures.counted c.count_open.ensures.rose
