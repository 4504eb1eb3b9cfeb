-- An amount has room behind its comma.
use Rattle.std.proofs.Common.{arith}
use Rattle.vx_cli.proofs.LineLemmas.{wide_given_short}
use Rattle.vx_cli.proofs.settle_lines.put_amount.Goals as goal

pub put_wide_signed-comma-requires : goal.put_wide_signed-comma-requires
put_wide_signed-comma-requires c =
    let short = wide_given_short c.args.amount 2 c.ranges.amount (omega arith) in
    (omega arith, (omega arith, (c.requires.within, omega arith)))

pub put-requires : goal.put-requires
put-requires c =
    let short = wide_given_short c.args.amount 2 c.ranges.amount (omega arith) in
    (omega arith, (omega arith, omega arith))

pub returns-clause-least : goal.returns-clause-least
returns-clause-least c =
    let short = wide_given_short c.args.amount 2 c.ranges.amount (omega arith) in
    omega arith
