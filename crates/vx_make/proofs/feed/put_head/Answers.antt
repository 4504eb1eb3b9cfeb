use Rattle.std.proofs.lemmas.Result.{on_ok_weaker}
use Rattle.vx_make.proofs.FeedLemmas.{head_is_its_text}
use Rattle.vx_make.proofs.feed.put_head.Goals as goal

pub returns : goal.returns
returns c =
    on_ok_weaker c.put_series-2.result
    (head_is_its_text _ _ _ _ c.standard_term.result c.weekly_term.result c.standard_term.ensures.term c.weekly_term.ensures.term c.in_ok-put_terms.ensures c.in_ok-put_series.ensures)
    c.put_series-2.ensures
