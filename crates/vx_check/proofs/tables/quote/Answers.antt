use Rattle.std.proofs.Common.{get_or, ap, subst}
use Rattle.vx_clock.specs.declared.terms.Expiry.{Expiry}
use Rattle.vx_symbol.specs.declared.rows.Price.{Price}
use Rattle.vx_feed.specs.Listed.{expiry_of}
use Rattle.vx_check.specs.Kept.{is_table_of}
use Rattle.vx_check.specs.Tables.{IsFirstAt, PutsPrice, SetsPriceInTable, QuotesInTable}
use Rattle.vx_check.proofs.TableLists.{changed_at}
use Rattle.vx_check.proofs.tables.quote.Goals as goal

pub returns-in-Some : goal.returns-in-Some
returns-in-Some c =
    let s = c.args.symbol.now in
    let tables = c.args.tables.now in
    let place = c.in-Some.place in
    let old = get_or tables place c.index-tables-place.result in
    let new = c.set_price.new.self in
    let First : Expiry → Type 0 = λ x. IsFirstAt (is_table_of x) place tables in
    let Sets : Price → Type 0 = λ price. PutsPrice s.side s.strike price old.rows.items new.rows.items old.halves.items new.halves.items in
    let sets : SetsPriceInTable s.side s.strike c.quoted.result old new = c.set_price.ensures in
    let quotes : QuotesInTable s.side s.strike c.args.bid c.args.ask old new = record {
      expiry = sets.expiry;
      rate = sets.rate;
      trades = sets.trades;
      series = λ low high rising. subst Sets (c.quoted.ensures low high) (sets.series rising);
    } in
    changed_at (expiry_of s) (QuotesInTable s.side s.strike c.args.bid c.args.ask) place tables old new
    (subst First c.expiry_of.ensures c.in-Some.ensures.first) (ap (get_or tables place) c.index-tables-place.is) quotes.expiry quotes
