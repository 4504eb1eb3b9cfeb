use Rattle.vx_forward.proofs.ForwardLemmas.{forward_encloses}
use Rattle.vx_forward.proofs.laws.forward_is_enclosed.Goals as goal

pub returns : goal.returns
returns c = forward_encloses
