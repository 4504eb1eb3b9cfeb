-- Each clause of the law is a lemma of its own.
use Rattle.vx_existence.proofs.DayExampleProofs.{day_is_lawful, day_is_answered, day_is_accepted}
use Rattle.vx_existence.proofs.laws.worked_day_is_answered.Goals as goal

pub returns-clause-lawful : goal.returns-clause-lawful
returns-clause-lawful c = day_is_lawful

pub returns-clause-answered : goal.returns-clause-answered
returns-clause-answered c = day_is_answered

pub returns-clause-accepted : goal.returns-clause-accepted
returns-clause-accepted c = day_is_accepted
