-- Each clause of the law is a lemma of its own.
use Rattle.vx_soq.proofs.Completeness.{clear_opening_is_published, first_opening_refusal_is_answered}
use Rattle.vx_soq.proofs.laws.clear_opening_is_answered.Goals as goal

pub returns-clause-published : goal.returns-clause-published
returns-clause-published c = clear_opening_is_published

pub returns-clause-refused : goal.returns-clause-refused
returns-clause-refused c = first_opening_refusal_is_answered
