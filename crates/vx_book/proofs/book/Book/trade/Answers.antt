use Rattle.std.proofs.Common.{◌∙◌, ℕ, Option, Some, cond, ap, sym, refl}
use Rattle.std.proofs.lemmas.Result.{on_ok_weaker}
use Rattle.vx_feed.specs.Same.{is_same_series}
use Rattle.vx_book.specs.declared.series.Series.{Series}
use Rattle.vx_book.specs.Series.{kept}
use Rattle.vx_book.proofs.NextSeries.{stands_traded, stands_traded_late, stands_traded_none}
use Rattle.vx_book.proofs.book.Book.trade.Goals as goal

pub returns-then-is_some-clause-taken : goal.returns-then-is_some-clause-taken
returns-then-is_some-clause-taken c = λ time events h.
    stands_traded_late c.args.self.now c.args.symbol.now time c.args.price (sym c.is_some.ensures ∙ c.if-is_some.true) events h

pub returns-in_default-clause-taken : goal.returns-in_default-clause-taken
returns-in_default-clause-taken c = λ time events h.
    stands_traded_none c.args.self.now c.args.symbol.now time c.args.price (sym c.find.ensures ∙ c.in_default.is) events h

pub returns-clause-taken : goal.returns-clause-taken
returns-clause-taken c =
    let old = c.args.self.now in
    let s = c.args.symbol.now in
    let traded : Option ℕ → Series = λ o. record c.in-Some.one { traded = o } in
    on_ok_weaker c.set.result
    (λ sets time events h.
    stands_traded old (record old { series = c.set.new.series }) c.args.symbol.now c.in-Some.one time c.args.price (sym c.is_some.ensures ∙ c.if-is_some.false)
    (sym c.find.ensures ∙ c.in-Some.is) c.requires refl
    (λ t. sets t ∙ ap (λ o. cond (is_same_series s t) (Some (traded o)) (kept old.series t)) c.or-traded.ensures) events h)
    c.set.ensures.done
