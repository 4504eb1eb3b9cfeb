use Rattle.std.proofs.Common.{◌≡◌, take}
use Rattle.vx_book.specs.Series.{kept_trade}
use Rattle.vx_book.specs.Opening.{rows_with_trades}
use Rattle.vx_book.proofs.opening.opening_rows.Given as goal

-- the rows so far have their opening prices
abbrev pub invariant-loop-row : goal.invariant-loop-row
invariant-loop-row l = l.opening.items ≡ rows_with_trades (kept_trade l.series) l.expiry (take l.row-index l.rows)
