-- Each part of the law is a lemma of its own.
use Rattle.vx_days.proofs.FeedExampleProofs.{crossed_is_lawful, uncrossed_stands, crossed_stands_not, crossed_shows_no_call, crossed_has_no_pair, crossed_pair_is_beside, crossed_forward, crossed_level, crossed_lacks_money}
use Rattle.vx_days.proofs.days.crossed_quote.Goals as goal

pub returns : goal.returns
returns c = record {
  lawful = crossed_is_lawful;
  stands_before = uncrossed_stands;
  stands_not = crossed_stands_not;
  no_call = crossed_shows_no_call;
  no_pair = crossed_has_no_pair;
  pair_beside = crossed_pair_is_beside;
  forward = crossed_forward;
  level = crossed_level;
  no_money = crossed_lacks_money;
}
