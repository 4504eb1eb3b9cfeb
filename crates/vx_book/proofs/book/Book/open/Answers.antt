use Rattle.std.proofs.Common.{◌≡◌, ◌+◌, Some, length, ap, arith}
use Rattle.vx_book.specs.declared.opening.Opened.{Opened}
use Rattle.vx_book.proofs.NextSeries.{stands_opened}
use Rattle.vx_book.proofs.book.Book.open.Goals as goal

pub returns-clause-taken : goal.returns-clause-taken
returns-clause-taken c =
    let old = c.args.self.now in
    let count : c.len.result ≡ length old.expiries.items = omega (arith, c.len.ensures, old.expiries.ok.0) in
    let opened : Opened = record { line = old.lines + 1; time = c.args.time; expiries = c.len.result } in
    stands_opened old (record old { opened = Some opened; opening = c.in_ok-self.field-0 }) c.args.time c.requires
    (ap (λ n. Some (record { line = old.lines + 1; time = c.args.time; expiries = n })) count) c.in_ok-self.ensures
