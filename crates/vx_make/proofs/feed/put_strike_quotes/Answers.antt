use Rattle.std.proofs.Common.{◌≡◌, sym, ap, ◌∙◌}
use Rattle.std.specs.Prelude.{slice_set}
use Rattle.vx_symbol.specs.SymbolText.{symbol_text}
use Rattle.vx_symbol.specs.declared.symbols.Side.TheVariants.{Put}
use Rattle.vx_make.specs.Quotes.{sample_series_at, drawn_quote}
use Rattle.vx_make.proofs.LineLemmas.{put_symbol, two_lines}
use Rattle.vx_make.proofs.feed.put_strike_quotes.Goals as goal

pub returns-clause-written : goal.returns-clause-written
returns-clause-written c =
    let time = c.args.time in
    let centre = c.args.centre in
    let call = c.draw_prices-call_prices.ensures.value time ∙ ap (λ s. drawn_quote time centre s c.args.state.now) c.series_at-call.ensures.value in
    let put = c.draw_prices-put_prices.ensures.value time ∙ ap (λ s. drawn_quote time centre s c.draw_prices-call_prices.new.state) c.series_at-put.ensures.value
    ∙ ap (λ state. drawn_quote time centre (sample_series_at c.args.expiry Put c.args.place) state) c.draw_prices-call_prices.ensures.step in
    let symbol : slice_set c.write_symbol-symbol.result 12 80 ≡ symbol_text c.series_at-put.result =
    ap (λ t. slice_set t 12 80) (c.write_symbol-symbol.ensures.text ∙ ap symbol_text c.series_at-call.ensures.value)
    ∙ put_symbol c.args.expiry c.args.place ∙ ap symbol_text (sym c.series_at-put.ensures.value) in
    two_lines _ _ _ _ _ _ _ call put (c.put_quote.ensures.written c.series_at-call.result c.write_symbol-symbol.ensures.text)
    (c.put_quote-2.ensures.written c.series_at-put.result symbol)
