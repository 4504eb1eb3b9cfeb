-- A number has room behind its word.
use Rattle.std.proofs.Common.{arith}
use Rattle.vx_room.proofs.Lengths.{narrow_short}
use Rattle.vx_cli.proofs.settle_lines.put_start.Goals as goal

pub put_decimal-comma-requires : goal.put_decimal-comma-requires
put_decimal-comma-requires c =
    let short = narrow_short c.args.number 0 (omega arith) (omega arith) in
    (omega arith, (omega arith, (c.requires.within, omega arith)))

pub put_all-requires : goal.put_all-requires
put_all-requires c =
    let short = narrow_short c.args.number 0 (omega arith) (omega arith) in
    (omega arith, (omega arith, omega arith))
