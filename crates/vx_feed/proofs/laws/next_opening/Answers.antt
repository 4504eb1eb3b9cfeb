use Rattle.vx_feed.proofs.NextEvent.{next_before_opening, next_trade, unlisted_has_none}
use Rattle.vx_feed.proofs.laws.next_opening.Goals as goal

pub returns-clause-before : goal.returns-clause-before
returns-clause-before c = next_before_opening

pub returns-clause-trade : goal.returns-clause-trade
returns-clause-trade c = next_trade

pub returns-clause-unlisted : goal.returns-clause-unlisted
returns-clause-unlisted c = unlisted_has_none
