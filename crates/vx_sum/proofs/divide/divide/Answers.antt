use Rattle.vx_sum.proofs.Division.{power_of_two_at_most}
use Rattle.vx_sum.proofs.divide.divide.Goals as goal

pub dividend-dividend-requires-clause-small : goal.dividend-dividend-requires-clause-small
dividend-dividend-requires-clause-small g c = power_of_two_at_most c.args.scale c.units.result c.requires.scale c.units.ensures
