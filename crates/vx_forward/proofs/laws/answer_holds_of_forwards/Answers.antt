use Rattle.vx_forward.proofs.Printed.{answer_holds}
use Rattle.vx_forward.proofs.laws.answer_holds_of_forwards.Goals as goal

pub returns : goal.returns
returns c = answer_holds
