-- Each part of the law is a lemma of its own.
use Rattle.vx_days.proofs.FeedExampleProofs.{sample_is_lawful, sample_shows_rows}
use Rattle.vx_days.proofs.days.sample_feed.Goals as goal

pub returns : goal.returns
returns c = record { lawful = sample_is_lawful; rows = sample_shows_rows }
