use Rattle.vx_forward.proofs.Widths.{ends_are_near}
use Rattle.vx_forward.proofs.laws.printed_ends_are_near.Goals as goal

pub returns : goal.returns
returns c = ends_are_near
