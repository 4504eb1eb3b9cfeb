-- Each clause of the law is a lemma of its own.
use Rattle.vx_accepted.proofs.Picks.{near_is_picked_or_none, next_is_picked_or_none}
use Rattle.vx_accepted.proofs.laws.terms_are_picked_or_none.Goals as goal

pub returns-clause-near : goal.returns-clause-near
returns-clause-near c = near_is_picked_or_none

pub returns-clause-next : goal.returns-clause-next
returns-clause-next c = next_is_picked_or_none
