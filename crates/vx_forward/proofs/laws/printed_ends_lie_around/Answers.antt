use Rattle.vx_forward.proofs.Printed.{printed_low_is_at_most, printed_high_is_at_least}
use Rattle.vx_forward.proofs.laws.printed_ends_lie_around.Goals as goal

pub returns : goal.returns
returns c = λ P f forward m. (printed_low_is_at_most P f forward m, printed_high_is_at_least P f forward m)
