-- The law is a lemma of DeclaredExpiries.
use Rattle.vx_accepted.proofs.DeclaredExpiries.{declared_expiries_are_in_range as proof}
use Rattle.vx_accepted.proofs.laws.declared_expiries_are_in_range.Goals as goal

pub returns : goal.returns
returns c = proof
