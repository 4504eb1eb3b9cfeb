use Rattle.std.proofs.Common.{List}
use Rattle.vx_feed.specs.declared.events.Event.{Event}
use Rattle.vx_feed.specs.Noted as noted
use Rattle.vx_book.specs.StandsFor.{BookStandsFor}
use Rattle.vx_book.proofs.tests.book_after.Given as goal

-- both stand for the same events
abbrev pub invariant-loop-line : goal.invariant-loop-line
invariant-loop-line l = (events : List Event) × noted.StandsFor l.seen events × BookStandsFor l.book events
