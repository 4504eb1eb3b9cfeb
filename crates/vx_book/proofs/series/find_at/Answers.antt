use Rattle.std.proofs.Common.{◌≡◌, ◌∙◌, true, ap, sym}
use Rattle.vx_feed.specs.Same.{is_same_series}
use Rattle.vx_feed.proofs.SameLemmas.{series_by_parts}
use Rattle.vx_book.specs.Series.{kept}
use Rattle.vx_book.proofs.Kept.{series_from_same}
use Rattle.vx_book.proofs.Lookups.{lookup_by_parts}
use Rattle.vx_book.proofs.series.find_at.Goals as goal

pub returns-then-eq : goal.returns-then-eq
returns-then-eq c =
    let series = c.args.series.now in
    let s = c.args.symbol.now in
    let there = c.in_ok-there.there.now in
    let same : is_same_series there s ≡ true = sym (series_by_parts there s) ∙ sym c.eq.ensures ∙ c.if-eq.true in
    ap (kept series) (sym (series_from_same there s same)) ∙ sym (lookup_by_parts _ series_by_parts there series.entries) ∙ c.in_ok-there.ensures.value
