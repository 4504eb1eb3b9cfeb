use Rattle.vx_book.specs.Series.{kept_trade}
use Rattle.vx_book.proofs.Openings.{TakesFirst}
use Rattle.vx_book.proofs.book.Book.opening_terms.Given as goal

-- the terms so far
abbrev pub invariant-loop-i : goal.invariant-loop-i
invariant-loop-i l = TakesFirst l.i l.self.expiries.items l.self.tables.items (kept_trade l.self.series) l.terms.items
