-- What one more event changes of the listed strikes of an expiry, and of their rows. An event that lists no series gives each row
-- the price of the quote that it carries; one that lists a series adds at most one row, and leaves all others as they are.
use Rattle.std.specs.Prelude.{◌≡◌, ℕ, Bool, true, false, ◌&&◌, nat_lt, List, [], ◌∷◌, ◌++◌, map, Option, Some, None, if◌then◌else◌}
use Rattle.vx_clock.specs.declared.terms.Expiry.{Expiry}
use Rattle.vx_symbol.specs.declared.symbols.Side.{Side}
use Rattle.vx_symbol.specs.declared.symbols.Side.TheVariants.{Call, Put}
use Rattle.vx_symbol.specs.declared.symbols.Symbol.{Symbol}
use Rattle.vx_symbol.specs.declared.rows.Price.{Price}
use Rattle.vx_symbol.specs.declared.rows.StrikeRow.{StrikeRow}
use Rattle.vx_feed.specs.declared.events.Event.{Event}
use Rattle.vx_feed.specs.declared.events.Event.TheVariants as event
use Rattle.vx_feed.specs.Same.{is_same_expiry}
use Rattle.vx_feed.specs.Standing.{BidAsk, if_standing, quote_of}
use Rattle.vx_feed.specs.Listed.{expiry_of, is_listed, listed_rows, listed_strikes, no_price, other_side, quoted_price, series_at, standing_price, with_strike}

-- ---- strikes

-- once this series is listed, both sides of its strike are: it is one of the expiry, and the series on the other side is listed
abbrev pub completes_strike : Expiry → List Event → Symbol → Bool
completes_strike x events s = is_same_expiry x (expiry_of s) && is_listed (other_side s) events

-- the strike of the series that the event lists, if with it both sides of the strike are listed for the expiry
abbrev pub completed_strike : Expiry → List Event → Event → Option ℕ
completed_strike x events (event.Series s) = if completes_strike x events s then Some s.strike else None
completed_strike x events _ = None

-- the listed strikes after one more event: that strike in its place among them, if there is one, and else the same ones
abbrev pub NextStrikesListed : Type 0
NextStrikesListed = (x : Expiry) (events : List Event) (e : Event) →
    listed_strikes x (events ++ e ∷ []) ≡ with_strike (completed_strike x events e) (listed_strikes x events)

-- ---- rows after an event that lists no series

abbrev pub is_listing : Event → Bool
is_listing (event.Series s) = true
is_listing _ = false

-- the price of a listed series after an event that may quote it: the price that it had, where the event does not; else that of the
-- new quote, if that stands, and none if it does not
abbrev pub price_after : Option BidAsk → Price → Price
price_after None price = price
price_after (Some quote) price = quoted_price (if_standing quote)

-- a row of the expiry after an event that may quote one of its two series
abbrev pub row_after : Expiry → Event → StrikeRow → StrikeRow
row_after x e row = record {
  strike = row.strike;
  put = price_after (quote_of (series_at x Put row.strike) e) row.put;
  call = price_after (quote_of (series_at x Call row.strike) e) row.call;
}

-- the rows after one more event that lists no series: each as it is after the event
abbrev pub NextRows : Type 0
NextRows = (x : Expiry) (events : List Event) (e : Event) → is_listing e ≡ false →
    listed_rows x (events ++ e ∷ []) ≡ map (row_after x e) (listed_rows x events)

-- ---- rows after an event that lists a series

-- a row among rows that rise in strike and have none of its strike
abbrev pub insert_row : StrikeRow → List StrikeRow → List StrikeRow
insert_row row [] = row ∷ []
insert_row row (r ∷ rows) = if nat_lt row.strike r.strike then row ∷ r ∷ rows else r ∷ insert_row row rows

-- the row of a strike with no price on this side, and this price on the other
abbrev pub row_without : Side → ℕ → Price → StrikeRow
row_without Put k price = record { strike = k; put = no_price; call = price }
row_without Call k price = record { strike = k; put = price; call = no_price }

-- the row of a series listed now: no price on its side, and on the other the standing price
abbrev pub row_when_listed : List Event → Symbol → StrikeRow
row_when_listed events s = row_without s.side s.strike (standing_price events (other_side s))

-- the rows after a series is listed that was not listed before, which is so of any that may be listed next: if now both sides of its
-- strike are listed, its row in its place among them, and else the same ones
abbrev pub NextRowsListed : Type 0
NextRowsListed = (x : Expiry) (events : List Event) (s : Symbol) → is_listed s events ≡ false →
    listed_rows x (events ++ event.Series s ∷ [])
    ≡ (if completes_strike x events s then insert_row (row_when_listed events s) (listed_rows x events) else listed_rows x events)
