use Rattle.std.proofs.Common.{◌≡◌, map, take}
use Rattle.vx_check.specs.Rising.{Rises}
use Rattle.vx_check.specs.Trades.{row_at_opening, trades_strike}
use Rattle.vx_check.proofs.opening.opening_rows.Given as goal

-- the rows so far have their opening prices
abbrev pub invariant-loop-row : goal.invariant-loop-row
invariant-loop-row l = Rises trades_strike l.trades → l.opening.items ≡ map (row_at_opening l.trades) (take l.row-index l.rows)
