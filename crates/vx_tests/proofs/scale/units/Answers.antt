use Rattle.vx_tests.proofs.Comparisons.{power_at_scale}
use Rattle.vx_tests.proofs.scale.units.Goals as goal

pub returns-clause-most : goal.returns-clause-most
returns-clause-most c = power_at_scale c.args.scale c.requires
