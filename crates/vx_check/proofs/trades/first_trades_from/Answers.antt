use Rattle.std.proofs.Common.{rules}
use Rattle.std.specs.Prelude.{nat_lt}
use Rattle.std.proofs.lemmas.List.Sorted.{IsPartitionPoint-from_clause}
use Rattle.vx_check.specs.Trades.{trades_strike}
use Rattle.vx_check.proofs.Rising.{is_partitioned}
use Rattle.vx_check.proofs.trades.first_trades_from.Goals as goal

pub returns-clause-first : goal.returns-clause-first
returns-clause-first c = λ rises.
    IsPartitionPoint-from_clause (λ x. nat_lt
    (trades_strike x) c.args.strike) c.args.trades.now c.partition_point.result c.partition_point.ensures.partitioned
    (is_partitioned trades_strike c.args.strike c.args.trades.now rises) (λ a r f h. search rules)
