-- The book of no event, and after a refusal.
use Rattle.std.proofs.Common.{◌≡◌, List, Option, None, sym, subst, ◌∙◌}
use Rattle.std.specs.Prelude.{MatchOption}
use Rattle.vx_feed.specs.declared.events.Event.{Event}
use Rattle.vx_feed.specs.Opening.{opening_time}
use Rattle.vx_check.specs.declared.book.PlainBook.{PlainBook}
use Rattle.vx_check.specs.declared.opening.Opening.{Opening}
use Rattle.vx_check.specs.Opening.{IsOpeningOfEvents}
use Rattle.vx_check.specs.StandsFor.{PlainStandsFor, IsSameBook}
use Rattle.vx_check.proofs.NextTables.{AllSay, all_say_still}
use Rattle.vx_check.proofs.NextTrades.{AllTraded, all_traded_still}

pub tables_say : (book : PlainBook) (events : List Event) → PlainStandsFor book events → AllSay book.tables.items events
tables_say book events h x = record { rate_is = h.rate x; keeps = record { rows_are = h.rows x; halves_are = h.halves x } }

pub tables_traded : (book : PlainBook) (events : List Event) → PlainStandsFor book events → AllTraded book.tables.items events
tables_traded book events h x = h.trades x

pub same_book_stands : (old new : PlainBook) (events : List Event) → IsSameBook old new → PlainStandsFor old events → PlainStandsFor new events
same_book_stands old new events same h =
    let all = all_say_still old.tables.items new.tables.items events same.tables (tables_say old events h) in
    let traded = all_traded_still old.tables.items new.tables.items events same.tables (tables_traded old events h) in
    record {
      lines = same.lines ∙ h.lines;
      day = same.day ∙ h.day;
      tick = same.tick ∙ h.tick;
      expiries = same.expiries ∙ h.expiries;
      tables = same.tables.expiries ∙ h.tables;
      rate = λ x. (all x).rate_is;
      rows = λ x. (all x).keeps.rows_are;
      halves = λ x. (all x).keeps.halves_are;
      trades = traded;
      opening = subst (λ (o : Option Opening). MatchOption o (opening_time events ≡ None) (IsOpeningOfEvents events)) (sym same.opening) h.opening;
    }
