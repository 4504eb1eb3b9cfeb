-- The rows that are kept are lawful.
use Rattle.std.proofs.Common.{◌≡◌, ◌∙◌, ap, refl, ◌<◌, ◌≤◌, ℕ, zero, suc, Bool, true, false, cond, ◌==◌, List, [], ◌∷◌, map, length, get_or, Option, Some, None, arith}
use Rattle.std.specs.Prelude.{nat_lt, IfSome}
use Rattle.std.specs.List.{All, filter}
use Rattle.std.proofs.lemmas.List.{length-map}
use Rattle.std.proofs.lemmas.List.Elements.{All-cons, All-head, All-map, All-tail, All-weaker}
use Rattle.vx_clock.specs.declared.terms.Expiry.{Expiry}
use Rattle.vx_symbol.specs.declared.limits.TheConstants.{ROWS_MAX}
use Rattle.vx_symbol.specs.declared.symbols.Side.{Side}
use Rattle.vx_symbol.specs.declared.symbols.Side.TheVariants.{Call, Put}
use Rattle.vx_symbol.specs.declared.symbols.Symbol.{Symbol}
use Rattle.vx_symbol.specs.declared.rows.Price.{Price}
use Rattle.vx_symbol.specs.declared.rows.StrikeRow.{StrikeRow}
use Rattle.vx_symbol.specs.Rows.{AreLawfulRows, IsLawfulPrice, IsLawfulRow}
use Rattle.vx_symbol.specs.Symbol.{IsStrikeInRange}
use Rattle.vx_feed.specs.declared.events.Event.{Event}
use Rattle.vx_feed.specs.Ranges.{IsPrice}
use Rattle.vx_feed.specs.Listed.{is_strike_listed, listed_rows, listed_strikes, no_price, row_of, series_at, standing_price, strikes_of}
use Rattle.vx_feed.specs.Opening.{traded_price}
use Rattle.vx_feed.specs.NextRows.{insert_row, row_without}
use Rattle.vx_book.specs.Opening.{row_with_trades}
use Rattle.vx_book.specs.Tables.{row_with}
use Rattle.vx_feed.proofs.RisingStrikes.{rows_rise}

-- ---- rows that are changed one by one, and keep their strikes

get_or_mapped : (f : StrikeRow → StrikeRow) (rows : List StrikeRow) (i : ℕ) (d : StrikeRow) → i < length rows → get_or (map f rows) i d ≡ f (get_or rows i d)
get_or_mapped f [] i d h = absurd (omega arith)
get_or_mapped f (r ∷ rows) zero d h = refl
get_or_mapped f (r ∷ rows) (suc i) d h = get_or_mapped f rows i d (omega arith)

pub lawful_mapped : (f : StrikeRow → StrikeRow) → ((r : StrikeRow) → (f r).strike ≡ r.strike) → ((r : StrikeRow) → IsLawfulRow r → IsLawfulRow (f r))
    → (rows : List StrikeRow) → AreLawfulRows rows → AreLawfulRows (map f rows)
lawful_mapped f keeps goes rows lawful = record {
  count = (let same : length (map f rows) ≡ length rows = length-map rows f in let few = lawful.count in omega arith);
  each = All-map IsLawfulRow f rows (All-weaker IsLawfulRow (λ r. IsLawfulRow (f r)) goes rows lawful.each);
  rising = λ i j d lt within.
      let same : length (map f rows) ≡ length rows = length-map rows f in
      let low : (get_or (map f rows) i d).strike ≡ (get_or rows i d).strike = ap (λ (r : StrikeRow). r.strike) (get_or_mapped f rows i d (omega arith)) ∙ keeps (get_or rows i d) in
      let high : (get_or (map f rows) j d).strike ≡ (get_or rows j d).strike = ap (λ (r : StrikeRow). r.strike) (get_or_mapped f rows j d (omega arith)) ∙ keeps (get_or rows j d) in
      let up : (get_or rows i d).strike < (get_or rows j d).strike = lawful.rising i j d lt (omega arith) in
      omega arith;
}

-- another price on one side of the row of a strike
abbrev pub row_if : ℕ → Side → Price → StrikeRow → StrikeRow
row_if k side price row = cond (row.strike == k) (row_with side price row) row

pub row_if-strike : (k : ℕ) (side : Side) (price : Price) (row : StrikeRow) → (row_if k side price row).strike ≡ row.strike
row_if-strike k Put price row = elim (row.strike == k) as (λ b. (cond b (row_with Put price row) row).strike ≡ row.strike) [ true ↦ refl | false ↦ refl ]
row_if-strike k Call price row = elim (row.strike == k) as (λ b. (cond b (row_with Call price row) row).strike ≡ row.strike) [ true ↦ refl | false ↦ refl ]

row_with-lawful : (side : Side) (price : Price) (row : StrikeRow) → IsLawfulPrice price → IsLawfulRow row → IsLawfulRow (row_with side price row)
row_with-lawful Put price row p r = record { strike_min = r.strike_min; strike_max = r.strike_max; put = p; call = r.call }
row_with-lawful Call price row p r = record { strike_min = r.strike_min; strike_max = r.strike_max; put = r.put; call = p }

pub quoted_lawful : (k : ℕ) (side : Side) (price : Price) (rows : List StrikeRow) → IsLawfulPrice price → AreLawfulRows rows → AreLawfulRows (map (row_if k side price) rows)
quoted_lawful k side price rows p lawful =
    lawful_mapped (row_if k side price) (row_if-strike k side price)
    (λ row r. elim (row.strike == k) as (λ b. IsLawfulRow (cond b (row_with side price row) row)) [ true ↦ row_with-lawful side price row p r | false ↦ r ]) rows lawful

-- opening trades
traded-lawful : (t : Option ℕ) (price : Price) → IfSome t IsPrice → IsLawfulPrice price → IsLawfulPrice (traded_price t price)
traded-lawful None price t p = p
traded-lawful (Some cents) price t p = record { in_range = omega arith; absent = λ none. cc }

pub traded_rows_lawful : (trade : Symbol → Option ℕ) → ((s : Symbol) → IfSome (trade s) IsPrice) → (x : Expiry) (rows : List StrikeRow) → AreLawfulRows rows
    → AreLawfulRows (map (row_with_trades trade x) rows)
traded_rows_lawful trade ranges x rows lawful =
    lawful_mapped (row_with_trades trade x) (λ row. refl)
    (λ row r. record {
      strike_min = r.strike_min;
      strike_max = r.strike_max;
      put = traded-lawful (trade (series_at x Put row.strike)) row.put (ranges (series_at x Put row.strike)) r.put;
      call = traded-lawful (trade (series_at x Call row.strike)) row.call (ranges (series_at x Call row.strike)) r.call;
    }) rows lawful

-- ---- listed rows

filter_short : (t : ℕ → Bool) (ks : List ℕ) → length (filter t ks) ≤ length ks
filter_short t [] = omega arith
filter_short t (k ∷ ks) =
    let short = filter_short t ks in
    elim (t k) as (λ b. length (cond b (k ∷ filter t ks) (filter t ks)) ≤ length (k ∷ ks)) [ true ↦ omega arith | false ↦ omega arith ]

-- listed rows are lawful where there are not too many strikes and each row is lawful
pub listed_lawful : (x : Expiry) (events : List Event) → length (strikes_of x events) ≤ ROWS_MAX → All IsLawfulRow (listed_rows x events) → AreLawfulRows (listed_rows x events)
listed_lawful x events few each = record {
  count = (let same : length (listed_rows x events) ≡ length (listed_strikes x events) = length-map (listed_strikes x events) (row_of (standing_price events) x) in
      let short = filter_short (is_strike_listed x events) (strikes_of x events) in omega arith);
  each = each;
  rising = rows_rise (standing_price events) x events;
}

pub all_inserted : (row : StrikeRow) (rows : List StrikeRow) → IsLawfulRow row → All IsLawfulRow rows → All IsLawfulRow (insert_row row rows)
all_inserted row [] p all = All-cons IsLawfulRow row [] p all
all_inserted row (r ∷ rows) p all =
    elim (nat_lt row.strike r.strike) as (λ b. All IsLawfulRow (cond b (row ∷ r ∷ rows) (r ∷ insert_row row rows))) [
      | true ↦ All-cons IsLawfulRow row (r ∷ rows) p all
      | false ↦ All-cons IsLawfulRow r (insert_row row rows) (All-head IsLawfulRow r rows all) (all_inserted row rows p (All-tail IsLawfulRow r rows all))
    ]

pub no_price-lawful : IsLawfulPrice no_price
no_price-lawful = record { in_range = omega arith; absent = λ none. (refl, refl) }

pub row_without-lawful : (side : Side) (k : ℕ) (price : Price) → IsStrikeInRange k → IsLawfulPrice price → IsLawfulRow (row_without side k price)
row_without-lawful Put k price range p = record { strike_min = range.0; strike_max = range.1; put = no_price-lawful; call = p }
row_without-lawful Call k price range p = record { strike_min = range.0; strike_max = range.1; put = p; call = no_price-lawful }
