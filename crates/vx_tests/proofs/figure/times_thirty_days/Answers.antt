use Rattle.std.proofs.Common.{to_z-of_z}
use Rattle.vx_tests.proofs.Products.{square_within}
use Rattle.vx_tests.proofs.figure.times_thirty_days.Goals as goal

pub times_wide-requires-clause-end : goal.times_wide-requires-clause-end
times_wide-requires-clause-end c = rw (to_z-of_z c.ranges.end) (square_within c.args.scale c.args.end c.requires.scale c.requires.end)
