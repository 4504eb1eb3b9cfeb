-- Each part of the law is a lemma of its own.
use Rattle.vx_feed.proofs.ReadingLemmas.{prefix_is_lawful, bad_line_follows_prefix, lawful_feed_ends}
use Rattle.vx_feed.proofs.laws.lawful_prefixes.Goals as goal

pub returns : goal.returns
returns c = record {
  lawful = prefix_is_lawful;
  follows = bad_line_follows_prefix;
  ends = lawful_feed_ends;
}
