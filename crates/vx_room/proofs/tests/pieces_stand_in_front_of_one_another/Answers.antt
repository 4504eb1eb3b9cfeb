-- Each number has room.
use Rattle.std.proofs.Common.{rules, arith}
use Rattle.vx_num.proofs.ReadBack.{length-natural_text-le}
use Rattle.vx_room.proofs.tests.pieces_stand_in_front_of_one_another.Goals as goal

pub put_wide_natural-wide-requires : goal.put_wide_natural-wide-requires
put_wide_natural-wide-requires g c =
    let few = length-natural_text-le 20 (omega arith) 18446744073709551616 (omega arith) in
    (omega arith, (omega arith, search rules))

pub put_natural-start-requires : goal.put_natural-start-requires
put_natural-start-requires g c =
    let few = length-natural_text-le 20 (omega arith) 18446744073709551616 (omega arith) in
    let fewer = length-natural_text-le 7 (omega arith) 1000000 (omega arith) in
    (omega arith, (omega arith, search rules))
