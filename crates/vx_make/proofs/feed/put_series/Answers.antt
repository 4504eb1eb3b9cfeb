use Rattle.std.proofs.Common.{◌≡◌, arith}
use Rattle.vx_make.specs.Feed.{strike_series}
use Rattle.vx_make.proofs.FeedLemmas.{text_none, text_one_part_more, text_all}
use Rattle.vx_make.proofs.feed.put_series.Goals as goal

pub loop-place-init : goal.loop-place-init
loop-place-init c = text_none c.args.out.now.items (strike_series c.args.expiry)

pub loop-place-preserved : goal.loop-place-preserved
loop-place-preserved c = text_one_part_more _ _ _ (strike_series c.args.expiry) c.loop-place.place c.loop-place.invariant c.in_ok-put_strike_series.ensures

pub returns : goal.returns
returns c =
    let all : c.loop-place.place ≡ 200 = omega arith in
    text_all _ _ (strike_series c.args.expiry) c.loop-place.place 200 all c.loop-place.invariant
