use Rattle.std.proofs.Common.{arith}
use Rattle.vx_cert.proofs.WrittenBack.{word_back}
use Rattle.vx_cert.proofs.WrittenData.{on_ok}
use Rattle.vx_cert.proofs.send.word.Goals as goal

pub returns-clause-read_back : goal.returns-clause-read_back
returns-clause-read_back g c = on_ok c.u64.result (word_back c.args.number (omega arith))
