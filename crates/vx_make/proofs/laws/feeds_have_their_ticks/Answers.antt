use Rattle.vx_make.proofs.SampleFeeds.{samples_tick_by_minute, samples_have_their_ticks}
use Rattle.vx_make.proofs.laws.feeds_have_their_ticks.Goals as goal

pub returns : goal.returns
returns c = record { by_minute = samples_tick_by_minute; count = samples_have_their_ticks }
