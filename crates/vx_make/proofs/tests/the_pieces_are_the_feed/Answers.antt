-- One tick was made before the second.
use Rattle.std.proofs.Common.{arith}
use Rattle.vx_make.proofs.tests.the_pieces_are_the_feed.Goals as goal

pub make_tick-requires-2-clause-ready : goal.make_tick-requires-2-clause-ready
make_tick-requires-2-clause-ready g c =
    let one = c.make_tick.ensures.made 7 2 0 c.in_ok-pieces.ensures in
    one.ready

pub make_tick-requires-2-clause-most : goal.make_tick-requires-2-clause-most
make_tick-requires-2-clause-most g c =
    let one = c.make_tick.ensures.made 7 2 0 c.in_ok-pieces.ensures in
    omega (arith, one.count)
