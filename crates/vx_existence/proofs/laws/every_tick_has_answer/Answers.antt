-- Each clause of the law is a lemma of its own.
use Rattle.vx_existence.proofs.Ticks.{every_tick_has_answer as proof, every_tick_has_lawful_answer}
use Rattle.vx_existence.proofs.laws.every_tick_has_answer.Goals as goal

pub returns-clause-answered : goal.returns-clause-answered
returns-clause-answered c = proof

pub returns-clause-lawful : goal.returns-clause-lawful
returns-clause-lawful c = every_tick_has_lawful_answer
