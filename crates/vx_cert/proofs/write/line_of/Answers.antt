use Rattle.vx_cert.proofs.WrittenData.{on_ok}
use Rattle.vx_cert.proofs.write.line_of.Goals as goal

pub returns-clause-value : goal.returns-clause-value
returns-clause-value c = on_ok c.ended.result c.in_ok-text.ensures.value

pub returns-clause-read_back : goal.returns-clause-read_back
returns-clause-read_back c = on_ok c.ended.result c.in_ok-text.ensures.read_back
