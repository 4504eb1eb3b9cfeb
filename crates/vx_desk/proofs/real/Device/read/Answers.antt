use Rattle.vx_desk.proofs.UntoldLemmas.{read_failed}
use Rattle.vx_desk.proofs.real.Device.read.Goals as goal

pub returns-in-Err : goal.returns-in-Err
returns-in-Err g c = read_failed _ _ c.args.self.now.failures c.count_read.new.self _ c.count_read.ensures.counted c.count_read.ensures.rose
