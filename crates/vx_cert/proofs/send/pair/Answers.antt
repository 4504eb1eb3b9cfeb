use Rattle.std.proofs.Common.{arith}
use Rattle.std.proofs.lemmas.Int.{ints}
use Rattle.vx_cert.proofs.WrittenBack.{pair_back}
use Rattle.vx_cert.proofs.WrittenData.{on_ok}
use Rattle.vx_cert.proofs.send.pair.Goals as goal

pub returns-clause-read_back : goal.returns-clause-read_back
returns-clause-read_back g c = on_ok c.end_seq.result (pair_back c.args.pair (omega arith) (omega (arith, ints)) (omega (arith, ints)))
