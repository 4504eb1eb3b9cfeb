-- The sign has room in front of the digits.
use Rattle.std.proofs.Common.{ap, length, arith}
use Rattle.vx_num.proofs.ReadBack.{decimal_text_short}
use Rattle.vx_num.proofs.writing.signed_backwards.Goals as goal

pub put-requires : goal.put-requires
put-requires c =
    let same = ap length c.decimal_backwards-text.ensures in
    let short = decimal_text_short c.unsigned_abs.result c.args.places (omega arith) c.requires in
    omega arith
