use Rattle.vx_settle.proofs.Amounts.{amount_is_one as one, amount_is_there as there}
use Rattle.vx_settle.proofs.laws.amount_is_one.Goals as goal

pub returns-clause-one : goal.returns-clause-one
returns-clause-one c = one

pub returns-clause-there : goal.returns-clause-there
returns-clause-there c = there
