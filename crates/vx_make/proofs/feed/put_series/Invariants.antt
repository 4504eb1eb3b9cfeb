use Rattle.std.proofs.Common.{◌≡◌, ◌++◌}
use Rattle.vx_feed.specs.Written.{text_of_events}
use Rattle.vx_make.specs.Feed.{strike_series}
use Rattle.vx_make.specs.Quotes.{for_each}
use Rattle.vx_make.proofs.feed.put_series.Given as goal

-- the series of the strikes so far are written
abbrev pub invariant-loop-place : goal.invariant-loop-place
invariant-loop-place l = l.out.items ≡ l.initial.out.items ++ text_of_events (for_each l.place (strike_series l.expiry))
