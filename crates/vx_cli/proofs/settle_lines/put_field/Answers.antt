-- A number has room behind its comma.
use Rattle.std.proofs.Common.{arith}
use Rattle.vx_cli.proofs.LineLemmas.{narrow_given_short}
use Rattle.vx_cli.proofs.settle_lines.put_field.Goals as goal

pub put_signed-comma-requires : goal.put_signed-comma-requires
put_signed-comma-requires c =
    let short = narrow_given_short c.args.value c.args.places c.ranges.value c.requires.places in
    (omega arith, (omega arith, (c.requires.within, c.requires.places)))

pub put-requires : goal.put-requires
put-requires c =
    let short = narrow_given_short c.args.value c.args.places c.ranges.value c.requires.places in
    (omega arith, (omega arith, omega arith))

pub returns-clause-least : goal.returns-clause-least
returns-clause-least c =
    let short = narrow_given_short c.args.value c.args.places c.ranges.value c.requires.places in
    omega arith
