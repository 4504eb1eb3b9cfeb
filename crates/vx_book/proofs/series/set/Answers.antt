use Rattle.std.specs.Prelude.{IsOk}
use Rattle.vx_feed.proofs.SameLemmas.{series_by_parts}
use Rattle.vx_book.proofs.Lookups.{not_there, set_by_parts}
use Rattle.vx_book.proofs.series.set.Goals as goal

pub returns-clause-done : goal.returns-clause-done
returns-clause-done c =
    set_by_parts _ series_by_parts c.args.symbol.now c.args.one c.args.series.now.entries c.insert.new.self.entries c.in_ok-insert.ensures.updates.0

pub returns-in_err-insert-clause-known : goal.returns-in_err-insert-clause-known
returns-in_err-insert-clause-known c = λ some.
    not_there _ series_by_parts (IsOk c.from_residual.result) c.args.symbol.now c.args.series.now.entries c.in_err-insert.ensures.absent some
