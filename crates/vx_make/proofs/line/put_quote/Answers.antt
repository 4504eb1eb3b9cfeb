use Rattle.std.proofs.Common.{◌∷◌, ◌++◌, ap, ◌∙◌, drop}
use Rattle.vx_clock.specs.Clock.{clock_text}
use Rattle.vx_symbol.specs.SymbolText.{symbol_text}
use Rattle.vx_feed.specs.Written.{price_text}
use Rattle.vx_make.proofs.LineLemmas.{quote_parts}
use Rattle.vx_make.proofs.line.put_quote.Goals as goal

pub returns-clause-written : goal.returns-clause-written
returns-clause-written c series symbol =
    let end = c.put-ask.ensures.written in
    let ask = c.put_price-bid.ensures.written ∙ ap (λ t. 44 ∷ (price_text c.args.prices.ask ++ t)) end in
    let bid = c.put_price-named.ensures.written ∙ ap (λ t. 44 ∷ (price_text c.args.prices.bid ++ t)) ask in
    let named = c.put_all-series.ensures.written ∙ ap (λ t. t ++ drop c.put_price-named.result c.put_price-named.new.bytes) symbol ∙ ap (λ t. symbol_text series ++ t) bid in
    let line = c.put_start-start.ensures.written ∙ ap (λ t. 81 ∷ 44 ∷ clock_text c.args.time ++ 44 ∷ t) named ∙ quote_parts c.args.time series c.args.prices.bid c.args.prices.ask in
    c.append.ensures.written ∙ ap (λ t. c.args.out.now.items ++ t) (c.written.ensures ∙ line)
