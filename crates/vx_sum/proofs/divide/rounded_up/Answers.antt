use Rattle.vx_sum.proofs.Division.{one_up}
use Rattle.vx_sum.proofs.divide.rounded_up.Goals as goal

pub returns-else-floor-divisor : goal.returns-else-floor-divisor
returns-else-floor-divisor c =
    one_up c.args.dividend c.args.divisor c.args.floor c.requires.positive c.requires.floor c.if-floor-divisor.false
