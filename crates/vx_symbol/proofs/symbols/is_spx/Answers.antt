use Rattle.std.proofs.Common.{arith}
use Rattle.vx_symbol.proofs.RootTexts.{six_bytes}
use Rattle.vx_symbol.proofs.symbols.is_spx.Goals as goal

pub returns-in-83 : goal.returns-in-83
returns-in-83 c = six_bytes c.args.text.now 83 80 88 32 32 32 (omega arith) (omega arith) (omega arith) (omega arith) (omega arith) (omega arith) (omega arith)
