use Rattle.std.proofs.Common.{◌≡◌, ◌++◌, ◌+◌, ◌*◌, ◌<◌, ◌≤◌}
use Rattle.std.specs.Prelude.{vec_capacity, vec_len}
use Rattle.vx_feed.specs.Written.{text_of_events}
use Rattle.vx_make.specs.Drawing.{state_after}
use Rattle.vx_make.specs.Quotes.{for_each, strike_quotes}
use Rattle.vx_make.proofs.feed.put_expiry_quotes.Given as goal

-- the quotes at the strikes so far are written, with four draws for each, and there is room for the others
abbrev pub invariant-loop-place : goal.invariant-loop-place
invariant-loop-place l =
    (l.out.items ≡ l.initial.out.items ++ text_of_events (for_each l.place (λ i. strike_quotes l.time l.centre l.expiry i (state_after (4 * i) l.initial.state))))
    × (l.state ≡ state_after (4 * l.place) l.initial.state) × (l.state < 2147483648)
    × (vec_len l.out ≤ vec_len l.initial.out + 96 * l.place) × (vec_capacity l.initial.out ≤ vec_capacity l.out)
