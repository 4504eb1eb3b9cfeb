-- The ends of the index are in order, as those of its square are.
use Rattle.std.proofs.Common.{◌≤ℤ◌, arith, to_z-of_z}
use Rattle.vx_interval.specs.Ends.{unit}
use Rattle.vx_interval.proofs.EndsLemmas.{unit_positive}
use Rattle.vx_bounds.proofs.RootsAreOne.{roots_are_ordered}
use Rattle.vx_certify.proofs.figure.decide_index.Goals as goal

pub decide-requires : goal.decide-requires
decide-requires g c =
    let ends = c.root_ends-lo.result in
    let square = c.args.square.now in
    let ordered : ends.0 ≤ℤ ends.1 =
    roots_are_ordered (unit g.row.P) square.lo square.hi ends.0 ends.1 (unit_positive g.row.P) c.requires.interval.ordered c.root_ends-lo.ensures.first c.root_ends-lo.ensures.second in
    grind (arith, to_z-of_z, ordered)
