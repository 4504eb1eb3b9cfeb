use Rattle.vx_drivers.proofs.TickLawLemmas.{run_is_one, run_is_there}
use Rattle.vx_drivers.proofs.tick_laws.tick_run_is_one.Goals as goal

pub returns-clause-one : goal.returns-clause-one
returns-clause-one g c = run_is_one g.T.AnswersTicks.rules g.met.T.AnswersTicks.gives_one

pub returns-clause-there : goal.returns-clause-there
returns-clause-there g c = run_is_there g.T.AnswersTicks.rules
