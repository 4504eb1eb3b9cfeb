use Rattle.std.proofs.Common.{◌≡◌, ◌++◌, ◌+◌, ◌*◌, ◌<◌, ◌≤◌}
use Rattle.std.specs.Prelude.{vec_capacity, vec_len}
use Rattle.vx_feed.specs.Written.{text_of_events}
use Rattle.vx_make.specs.Drawing.{state_after}
use Rattle.vx_make.specs.Feed.{tick_events}
use Rattle.vx_make.specs.Quotes.{for_each}
use Rattle.vx_make.proofs.feed.put_ticks.Given as goal

-- the ticks so far are written, and there is room for the others
abbrev pub invariant-loop-tick : goal.invariant-loop-tick
invariant-loop-tick l =
    (l.out.items ≡ l.initial.out.items ++ text_of_events (for_each l.tick (λ t. tick_events (510 + t) (state_after (1601 * t) l.number))))
    × (l.state ≡ state_after (1601 * l.tick) l.number) × (l.state < 2147483648)
    × (vec_len l.out ≤ vec_len l.initial.out + 38448 * l.tick) × (vec_capacity l.initial.out ≤ vec_capacity l.out)
