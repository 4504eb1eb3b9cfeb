use Rattle.vx_feed.proofs.NextEvent.{next_listed, next_declared, next_trade_date, next_strikes}
use Rattle.vx_feed.proofs.laws.next_listing.Goals as goal

pub returns-clause-listed : goal.returns-clause-listed
returns-clause-listed c = next_listed

pub returns-clause-declared : goal.returns-clause-declared
returns-clause-declared c = next_declared

pub returns-clause-trade_date : goal.returns-clause-trade_date
returns-clause-trade_date c = next_trade_date

pub returns-clause-strikes : goal.returns-clause-strikes
returns-clause-strikes c = next_strikes
