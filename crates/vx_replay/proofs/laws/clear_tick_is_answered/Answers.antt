-- Each clause of the law is a lemma of its own.
use Rattle.vx_replay.proofs.Completeness.{clear_tick_is_published, first_refusal_is_answered}
use Rattle.vx_replay.proofs.laws.clear_tick_is_answered.Goals as goal

pub returns-clause-published : goal.returns-clause-published
returns-clause-published c = clear_tick_is_published

pub returns-clause-refused : goal.returns-clause-refused
returns-clause-refused c = first_refusal_is_answered
