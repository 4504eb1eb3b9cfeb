use Rattle.vx_forward.proofs.Printed.{level_lies_below}
use Rattle.vx_forward.proofs.laws.level_lies_below_forward.Goals as goal

pub returns : goal.returns
returns c = level_lies_below
