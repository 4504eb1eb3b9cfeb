-- Each clause of the law is a lemma of its own.
use Rattle.vx_accepted.proofs.Statable.{run_is_statable, figure_is_statable}
use Rattle.vx_accepted.proofs.laws.certified_is_statable.Goals as goal

pub returns-clause-run : goal.returns-clause-run
returns-clause-run c = run_is_statable

pub returns-clause-figure : goal.returns-clause-figure
returns-clause-figure c = figure_is_statable
