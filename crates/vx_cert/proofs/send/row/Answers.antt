use Rattle.std.proofs.Common.{arith}
use Rattle.vx_cert.proofs.WrittenBack.{row_back}
use Rattle.vx_cert.proofs.WrittenData.{on_ok}
use Rattle.vx_cert.proofs.send.row.Goals as goal

pub returns-clause-read_back : goal.returns-clause-read_back
returns-clause-read_back g c = on_ok c.end_seq.result (row_back c.args.row (omega arith) (omega arith) (omega arith) (omega arith) (omega arith))
