use Rattle.std.proofs.Common.{◌≡◌, ◌∙◌}
use Rattle.vx_clock.specs.Minutes.{minutes_between}
use Rattle.vx_feed.specs.Standing.{standing_rate}
use Rattle.vx_feed.specs.Listed.{listed_rows}
use Rattle.vx_claims.specs.Seen.{events_before}
use Rattle.vx_check.proofs.AtTick.{rows_are, rate_is}
use Rattle.vx_check.proofs.tick.seen_term.Goals as goal

pub returns : goal.returns
returns c = λ events line h.
    let book = c.args.book.now in
    let x = c.args.expiry in
    let time = c.args.now.minute in
    let rows : c.rows.result.now ≡ listed_rows x (events_before events line) = c.rows.ensures ∙ rows_are book events line time h x in
    let rate : c.rate.result ≡ standing_rate x (events_before events line) = c.rate.ensures ∙ rate_is book events line time h x in
    let minutes : c.minutes_between.result ≡ minutes_between c.args.now x = c.minutes_between.ensures in
    λ i. record { rows = rows i; rate = rate i; minutes = minutes i }
