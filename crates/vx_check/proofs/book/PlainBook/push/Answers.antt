use Rattle.std.proofs.Common.{◌++◌, sym, ◌∙◌, ap, option_and_then, option_to_list, arith}
use Rattle.std.specs.Prelude.{is_some}
use Rattle.std.specs.Option.{option_or}
use Rattle.vx_feed.specs.Listed.{header_day, declared_expiry}
use Rattle.vx_feed.specs.Order.{tick_minute}
use Rattle.vx_check.proofs.Pushes.{one_line_more, last_event-push, trade_date-push, declared-push, length-push}
use Rattle.vx_check.proofs.NextTables.{all_say_after, expiries_after}
use Rattle.vx_check.proofs.NextTrades.{all_traded_after}
use Rattle.vx_check.proofs.NextOpening.{is_opened, opening_after}
use Rattle.vx_check.proofs.NextBook.{tables_say, tables_traded}
use Rattle.vx_check.proofs.book.PlainBook.push.Goals as goal

pub returns-clause-taken : goal.returns-clause-taken
returns-clause-taken c = λ events h lawful.
    let e = c.args.e in
    let old = c.args.self.now in
    let taken = c.in_ok-take.ensures.taken in
    let new = c.take.new.self in
    let opened = is_some old.opening in
    let say = tables_say old events h in
    let all = all_say_after opened old.tables.items new.tables.items events e lawful h.tables taken.tables say in
    let is_taken = is_opened old.opening events h.opening in
    record {
      lines = omega (arith, c.saturating_add-self.ensures, taken.lines, h.lines, one_line_more events e lawful, length-push events e);
      day = taken.day ∙ ap (option_or (header_day e)) h.day ∙ sym (trade_date-push events e lawful);
      tick = c.tick_minute-self.ensures ∙ sym (ap (option_and_then tick_minute) (last_event-push events e));
      expiries = taken.expiries ∙ ap (λ xs. xs ++ option_to_list (declared_expiry e)) h.expiries ∙ sym (declared-push events e);
      tables = expiries_after opened old.tables.items new.tables.items e taken.tables ∙ ap (λ xs. xs ++ option_to_list (declared_expiry e)) h.tables ∙ sym (declared-push events e);
      rate = λ x. (all x).rate_is;
      rows = λ x. (all x).keeps.rows_are;
      halves = λ x. (all x).keeps.halves_are;
      trades = all_traded_after opened old.tables.items new.tables.items events e is_taken lawful taken.tables say (tables_traded old events h);
      opening = opening_after old new.opening events e lawful h say taken.opening;
    }
