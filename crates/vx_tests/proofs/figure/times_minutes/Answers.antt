use Rattle.std.proofs.Common.{to_z-of_z}
use Rattle.vx_tests.proofs.Products.{variance_within}
use Rattle.vx_tests.proofs.figure.times_minutes.Goals as goal

pub times_small-requires-clause-end : goal.times_small-requires-clause-end
times_small-requires-clause-end c = rw (to_z-of_z c.ranges.variance) (variance_within c.args.scale c.args.variance c.requires.scale c.requires.variance)
