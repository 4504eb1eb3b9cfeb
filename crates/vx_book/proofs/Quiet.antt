-- The rows that an event leaves as they are, and those that a quote changes.
use Rattle.std.proofs.Common.{◌≡◌, ◌∙◌, sym, ap, subst, refl, inl, inr, ℕ, Bool, true, false, cond, ◌&&◌, ◌==◌, List, [], ◌∷◌, ◌++◌, map, Option, Some, None}
use Rattle.std.specs.List.{filter}
use Rattle.std.proofs.lemmas.Bool.{cases_Bool, ne_eqb}
use Rattle.vx_clock.specs.declared.terms.Expiry.{Expiry}
use Rattle.vx_symbol.specs.declared.symbols.Side.{Side}
use Rattle.vx_symbol.specs.declared.symbols.Side.TheVariants.{Call, Put}
use Rattle.vx_symbol.specs.declared.symbols.Symbol.{Symbol}
use Rattle.vx_symbol.specs.declared.rows.Price.{Price}
use Rattle.vx_symbol.specs.declared.rows.StrikeRow.{StrikeRow}
use Rattle.vx_feed.specs.declared.events.Event.{Event}
use Rattle.vx_feed.specs.declared.events.Event.TheVariants as event
use Rattle.vx_feed.specs.Same.{is_same_expiry, is_same_side}
use Rattle.vx_feed.specs.Standing.{BidAsk, if_standing, quote_of}
use Rattle.vx_feed.specs.Listed.{expiry_of, is_strike_listed, listed_rows, quoted_price, row_of, series_at, standing_price, strikes_of, price_of}
use Rattle.vx_feed.specs.NextRows.{is_listing, price_after, row_after}
use Rattle.vx_book.specs.Tables.{row_with, rows_with}
use Rattle.vx_feed.proofs.NextRows.{next_rows}
use Rattle.vx_feed.proofs.RisingStrikes.{dropped, kept}
use Rattle.vx_feed.proofs.SameAfter.{map_same}

-- ---- rows

map_itself : (f : StrikeRow → StrikeRow) → ((r : StrikeRow) → f r ≡ r) → (rows : List StrikeRow) → map f rows ≡ rows
map_itself f same [] = refl
map_itself f same (r ∷ rows) = ap (λ x. x ∷ map f rows) (same r) ∙ ap (λ l. r ∷ l) (map_itself f same rows)

abbrev row_at : ℕ → Price → Price → StrikeRow
row_at k put call = record { strike = k; put = put; call = call }

row_stays : (x : Expiry) (e : Event) → ((side : Side) (k : ℕ) → quote_of (series_at x side k) e ≡ None) → (row : StrikeRow) → row_after x e row ≡ row
row_stays x e none row =
    ap (λ o. row_at row.strike (price_after o row.put) (price_after (quote_of (series_at x Call row.strike) e) row.call)) (none Put row.strike)
    ∙ ap (λ o. row_at row.strike row.put (price_after o row.call)) (none Call row.strike)

pub rows_same : (x : Expiry) (events : List Event) (e : Event) → is_listing e ≡ false → ((side : Side) (k : ℕ) → quote_of (series_at x side k) e ≡ None)
    → listed_rows x (events ++ e ∷ []) ≡ listed_rows x events
rows_same x events e lists none = next_rows x events e lists ∙ map_itself (row_after x e) (row_stays x e none) (listed_rows x events)

-- what a quote of a series changes of the row at a strike
priced : (side : Side) (b : Bool) (row : StrikeRow) (q : BidAsk)
    → row_at row.strike (price_after (cond (is_same_side Put side && b) (Some q) None) row.put) (price_after (cond (is_same_side Call side && b) (Some q) None) row.call)
    ≡ cond b (row_with side (quoted_price (if_standing q)) row) row
priced Put true row q = refl
priced Put false row q = refl
priced Call true row q = refl
priced Call false row q = refl

abbrev quote : ℕ → ℕ → BidAsk
quote bid ask = record { bid = bid; ask = ask }

-- what the quote says of the series of an expiry, where the expiry is that of the quoted one or not
abbrev said_at : Symbol → BidAsk → Side → ℕ → Bool → Option BidAsk
said_at s q side k same = cond (same && is_same_side side s.side && (k == s.strike)) (Some q) None

row_quoted : (x : Expiry) (time : ℕ) (s : Symbol) (bid ask : ℕ) → is_same_expiry x (expiry_of s) ≡ true → (row : StrikeRow)
    → row_after x (event.Quote time s bid ask) row ≡ cond (row.strike == s.strike) (row_with s.side (price_of bid ask) row) row
row_quoted x time s bid ask own row =
    let q = quote bid ask in
    ap (λ b. row_at row.strike (price_after (said_at s q Put row.strike b) row.put) (price_after (said_at s q Call row.strike b) row.call)) own
    ∙ priced s.side (row.strike == s.strike) row q

pub rows_quoted : (x : Expiry) (events : List Event) (time : ℕ) (s : Symbol) (bid ask : ℕ) → is_same_expiry x (expiry_of s) ≡ true
    → listed_rows x (events ++ event.Quote time s bid ask ∷ []) ≡ rows_with s.strike s.side (price_of bid ask) (listed_rows x events)
rows_quoted x events time s bid ask own =
    next_rows x events (event.Quote time s bid ask) refl
    ∙ map_same (row_after x (event.Quote time s bid ask)) (λ (row : StrikeRow). cond (row.strike == s.strike) (row_with s.side (price_of bid ask) row) row)
    (row_quoted x time s bid ask own) (listed_rows x events)

-- no row is at a strike that is not listed
no_row : (t : ℕ → Bool) (f : ℕ → StrikeRow) (k : ℕ) (side : Side) (price : Price) → ((j : ℕ) → (f j).strike ≡ j) → t k ≡ false → (ks : List ℕ)
    → rows_with k side price (map f (filter t ks)) ≡ map f (filter t ks)
no_row t f k side price at fails [] = refl
no_row t f k side price at fails (j ∷ js) =
    let same : List ℕ → Type 0 = λ l. rows_with k side price (map f l) ≡ map f l in
    elim (cases_Bool (t j)) [
      | inl passes ↦
          let other : ((f j).strike == k) ≡ false = ne_eqb (f j).strike k (λ e. (let both : true ≡ false = sym passes ∙ ap t (sym (at j) ∙ e) ∙ fails in absurd (cc both))) in
          subst same (sym (kept t j js passes))
          (ap (λ b. cond b (row_with side price (f j)) (f j) ∷ rows_with k side price (map f (filter t js))) other ∙ ap (λ l. f j ∷ l) (no_row t f k side price at fails js))
      | inr drops ↦ subst same (sym (dropped t j js drops)) (no_row t f k side price at fails js)
    ]

pub rows_with_unlisted : (x : Expiry) (events : List Event) (k : ℕ) (side : Side) (price : Price) → is_strike_listed x events k ≡ false
    → rows_with k side price (listed_rows x events) ≡ listed_rows x events
rows_with_unlisted x events k side price none =
    no_row (is_strike_listed x events) (row_of (standing_price events) x) k side price (λ j. refl) none (strikes_of x events)
