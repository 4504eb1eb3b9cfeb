use Rattle.vx_forward.proofs.ForwardLemmas.{forward_reaches}
use Rattle.vx_forward.proofs.laws.forward_reaches_ends.Goals as goal

pub returns : goal.returns
returns c = forward_reaches
