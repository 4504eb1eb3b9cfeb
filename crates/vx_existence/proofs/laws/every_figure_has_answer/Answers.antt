-- Each clause of the law is a lemma of its own.
use Rattle.vx_existence.proofs.Roots.{square_has_index_ends}
use Rattle.vx_existence.proofs.Decisions.{ends_are_decided}
use Rattle.vx_existence.proofs.Figures.{every_figure_has_answer as proof}
use Rattle.vx_existence.proofs.laws.every_figure_has_answer.Goals as goal

pub returns-clause-ends : goal.returns-clause-ends
returns-clause-ends c = square_has_index_ends

pub returns-clause-decided : goal.returns-clause-decided
returns-clause-decided c = ends_are_decided

pub returns-clause-answered : goal.returns-clause-answered
returns-clause-answered c = proof
