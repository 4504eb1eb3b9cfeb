use Rattle.std.proofs.Common.{◌∙◌, ap, arith}
use Rattle.std.proofs.lemmas.List.{get_or_default}
use Rattle.vx_check.specs.Trades.{trades_strike}
use Rattle.vx_check.proofs.Rising.{stands_at_first, fits_at_first}
use Rattle.vx_check.proofs.trades.place_of_trades.Goals as goal
use Rattle.vx_check.proofs.trades.place_of_trades.Goals.{else-place-trades-via-then-place-trades+else-trades-place, else-place-trades-via-else-place-trades}

pub returns-then-trades-place-clause-place : goal.returns-then-trades-place-clause-place
returns-then-trades-place-clause-place c = λ rises.
    let place = c.first_trades_from-place.result in
    stands_at_first trades_strike c.args.strike place c.args.trades.now c.if-place-trades.true
    (c.first_trades_from-place.ensures.first rises)
    (λ d. ap trades_strike (get_or_default c.args.trades.now place d _ c.if-place-trades.true) ∙ c.if-trades-place.true)

pub returns-else-place-trades-clause-place : goal.returns-else-place-trades-clause-place
returns-else-place-trades-clause-place c = λ rises.
    let place = c.first_trades_from-place.result in
    fits_at_first trades_strike c.args.strike place c.args.trades.now c.first_trades_from-place.ensures.within
    (c.first_trades_from-place.ensures.first rises)
    (λ d within e.
    elim c.else-place-trades.branch [
      | else-place-trades-via-then-place-trades+else-trades-place w ↦ w.if-trades-place.false
          (ap trades_strike (get_or_default c.args.trades.now place _ d within) ∙ e)
      | else-place-trades-via-else-place-trades w ↦ (let past = w.if-place-trades.false in absurd (omega arith))
    ])
