use Rattle.vx_make.proofs.FeedLemmas.{length-make}
use Rattle.vx_make.proofs.laws.feeds_have_their_lines.Goals as goal

pub returns : goal.returns
returns c = length-make
