use Rattle.std.proofs.Common.{◌∙◌, ℕ, List, Option, length, is_some, ap, sym, refl, arith}
use Rattle.std.specs.Option.{option_map}
use Rattle.std.specs.Vec.{with_item}
use Rattle.std.proofs.lemmas.Option.{slice_get_read}
use Rattle.std.proofs.lemmas.Result.{on_ok_weaker}
use Rattle.vx_feed.specs.declared.events.Event.{Event}
use Rattle.vx_feed.specs.Listed.{expiry_of}
use Rattle.vx_book.specs.declared.book.Book.{Book}
use Rattle.vx_book.specs.declared.series.Series.{Series}
use Rattle.vx_book.specs.StandsFor.{BookStandsFor}
use Rattle.vx_book.proofs.NextBook.{table_at}
use Rattle.vx_book.proofs.NextSeries.{kept_expiry, kept_strike, place_within, stands_quoted_alone, stands_quoted_row, stands_unquoted}
use Rattle.vx_book.proofs.book.Book.quote.Goals as goal

-- what is found beside its place
abbrev series_of : Option (ℕ × Series) → Option Series
series_of found = option_map (λ pair. pair.1) found

-- the place of the series that was quoted last says nothing of the events
abbrev with_last : ℕ → Book → Book
with_last place book = record book { last = place }

stands_at_place : (book : Book) (place : ℕ) (events : List Event) → BookStandsFor book events → BookStandsFor (with_last place book) events
stands_at_place book place events h = record {
  lines = h.lines;
  day = h.day;
  opened = h.opened;
  expiries = h.expiries;
  distinct = h.distinct;
  tables = h.tables;
  opening = h.opening;
  series = h.series;
  orderly = h.orderly;
}

pub returns-in_default-clause-taken : goal.returns-in_default-clause-taken
returns-in_default-clause-taken c = λ time bid ask price_is events h.
    stands_unquoted c.args.self.now c.args.symbol.now time bid ask (sym c.find_near.ensures ∙ ap series_of c.in_default.is) events h

pub index_mut-requires : goal.index_mut-requires
index_mut-requires c =
    let old = c.args.self.now in
    let s = c.args.symbol.now in
    let one = c.in-Some.one in
    let some = c.requires.stands in
    let within = place_within old some.0 one.expiry (expiry_of s) some.1 (kept_expiry old some.0 s one some.1 (sym c.find_near.ensures ∙ ap series_of c.in-Some.is)) in
    omega (arith, within, old.tables.ok.0)

pub set_price-requires-clause-rising : goal.set_price-requires-clause-rising
set_price-requires-clause-rising c =
    let old = c.args.self.now in
    let s = c.args.symbol.now in
    let one = c.in-Some.one in
    let some = c.requires.stands in
    let table = c.index_mut.result.now in
    let at = kept_expiry old some.0 s one some.1 (sym c.find_near.ensures ∙ ap series_of c.in-Some.is) in
    let there = slice_get_read old.tables.items (length old.tables.items) one.expiry table refl (place_within old some.0 one.expiry (expiry_of s) some.1 at) c.index_mut.ensures.value in
    (table_at old.expiries.items old.tables.items some.0 one.expiry (expiry_of s) table (some.1).tables at there).shows.rows_lawful.rising

pub set_price-requires-clause-has_row : goal.set_price-requires-clause-has_row
set_price-requires-clause-has_row c =
    let old = c.args.self.now in
    let s = c.args.symbol.now in
    let one = c.in-Some.one in
    let some = c.requires.stands in
    let table = c.index_mut.result.now in
    let is = sym c.find_near.ensures ∙ ap series_of c.in-Some.is in
    let at = kept_expiry old some.0 s one some.1 is in
    let there = slice_get_read old.tables.items (length old.tables.items) one.expiry table refl (place_within old some.0 one.expiry (expiry_of s) some.1 at) c.index_mut.ensures.value in
    ap is_some (kept_strike old some.0 s one c.in-Row.number table some.1 is c.in-Row.is there)

pub returns-in-Row-clause-taken : goal.returns-in-Row-clause-taken
returns-in-Row-clause-taken c = λ time bid ask price_is events h.
    let old = c.args.self.now in
    let s = c.args.symbol.now in
    let one = c.in-Some.one in
    let some = c.requires.stands in
    let table = c.index_mut.result.now in
    let is = sym c.find_near.ensures ∙ ap series_of c.in-Some.is in
    let at = kept_expiry old some.0 s one some.1 is in
    let there = slice_get_read old.tables.items (length old.tables.items) one.expiry table refl (place_within old some.0 one.expiry (expiry_of s) some.1 at) c.index_mut.ensures.value in
    let here = with_last c.in-Some.place old in
    stands_quoted_row here (record here { tables = with_item old.tables one.expiry c.set_price.new.self }) s one c.in-Row.number c.args.price table c.set_price.new.self time bid ask
    is c.in-Row.is c.requires.lawful price_is there c.set_price.ensures refl (λ t. refl) events (stands_at_place old c.in-Some.place events h)

pub returns-in-Alone-clause-taken : goal.returns-in-Alone-clause-taken
returns-in-Alone-clause-taken c =
    let old = c.args.self.now in
    let s = c.args.symbol.now in
    let one = c.in-Some.one in
    let here = with_last c.in-Some.place old in
    on_ok_weaker c.set.result
    (λ sets time bid ask price_is events h.
    stands_quoted_alone here (record here { series = c.set.new.series }) s one c.in-Alone.field-0 c.args.price time bid ask (sym c.find_near.ensures ∙ ap series_of c.in-Some.is) c.in-Alone.is
    c.requires.lawful price_is refl sets events (stands_at_place old c.in-Some.place events h))
    c.set.ensures.done
