-- A price within its range has room behind its comma.
use Rattle.std.proofs.Common.{arith}
use Rattle.vx_room.proofs.Lengths.{decimal_short}
use Rattle.vx_make.proofs.line.put_price.Goals as goal

pub put_decimal-comma-requires : goal.put_decimal-comma-requires
put_decimal-comma-requires c =
    let short = decimal_short 7 c.from.result 2 (omega arith) (omega arith) in
    (omega arith, (omega arith, (c.requires.within, omega arith)))

pub put-requires : goal.put-requires
put-requires c =
    let short = decimal_short 7 c.from.result 2 (omega arith) (omega arith) in
    (omega arith, (omega arith, omega arith))

pub returns-clause-least : goal.returns-clause-least
returns-clause-least c =
    let short = decimal_short 7 c.from.result 2 (omega arith) (omega arith) in
    omega arith
