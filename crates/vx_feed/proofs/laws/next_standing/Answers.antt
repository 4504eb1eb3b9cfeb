use Rattle.vx_feed.proofs.NextEvent.{next_quote, next_rate}
use Rattle.vx_feed.proofs.laws.next_standing.Goals as goal

pub returns-clause-quote : goal.returns-clause-quote
returns-clause-quote c = next_quote

pub returns-clause-rate : goal.returns-clause-rate
returns-clause-rate c = next_rate
