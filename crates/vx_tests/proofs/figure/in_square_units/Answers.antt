use Rattle.std.proofs.Common.{to_z-of_z}
use Rattle.vx_tests.proofs.Products.{square_within}
use Rattle.vx_tests.proofs.figure.in_square_units.Goals as goal

pub times_wide-requires-clause-end : goal.times_wide-requires-clause-end
times_wide-requires-clause-end c = rw (to_z-of_z c.ranges.x) (square_within c.args.scale c.args.x c.requires.scale c.requires.square)
