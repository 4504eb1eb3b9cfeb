-- The prices and the rates that events in range show are in range.
use Rattle.std.proofs.Common.{◌≡◌, inl, inr, refl, subst, ℕ, ℤ, Bool, true, false, cond, List, [], ◌∷◌, Option, Some, None, arith}
use Rattle.std.specs.Prelude.{IfSome}
use Rattle.std.specs.Option.{option_and_then}
use Rattle.vx_clock.specs.declared.terms.Expiry.{Expiry}
use Rattle.vx_symbol.specs.declared.rows.Price.{Price}
use Rattle.vx_symbol.specs.declared.symbols.Symbol.{Symbol}
use Rattle.vx_symbol.specs.Rows.{IsLawfulPrice, IsRateInRange}
use Rattle.vx_feed.specs.declared.events.Event.{Event}
use Rattle.vx_feed.specs.declared.events.Event.TheVariants as event
use Rattle.vx_feed.specs.Same.{is_same_series}
use Rattle.vx_feed.specs.Ranges.{IsEventInRange, IsPrice}
use Rattle.vx_feed.specs.Said.{first_said, last_said}
use Rattle.vx_feed.specs.Standing.{BidAsk, quote_of, rate_of, trade_of, can_stand, if_standing, since_listed, before_opening, standing_quote, standing_rate, opening_trade}
use Rattle.vx_feed.specs.Listed.{quoted_price, standing_price}
use Rattle.vx_feed.specs.Opening.{traded_price, opening_price}
use Rattle.vx_formula.proofs.Lists.{In}
use Rattle.vx_claims.proofs.InRange.{AllInRange, since_in_range, before_in_range, chosen, or_either, last_in, said_rate_in_range}

-- ---- rates

-- the rate that is said last is in range, where there is one
rate_of_last : (x : Expiry) (events : List Event) (o : Option ℤ) → AllInRange events → last_said (rate_of x) events ≡ o → IfSome o IsRateInRange
rate_of_last x events None range h = tt
rate_of_last x events (Some r) range h = said_rate_in_range x events r range h

-- the standing rate of events in range is in range
pub rate_in_range : (x : Expiry) (events : List Event) → AllInRange events → IfSome (standing_rate x events) IsRateInRange
rate_in_range x events range = rate_of_last x events (standing_rate x events) range refl

-- ---- quotes

-- the bid and the ask are in range
pub record IsQuoteInRange (quote : BidAsk) : Type 0 where
  pub bid_is : IsPrice quote.bid
  pub ask_is : IsPrice quote.ask

said_quote : (s : Symbol) (e : Event) (q : BidAsk) → IsEventInRange e → quote_of s e ≡ Some q → IsQuoteInRange q
said_quote s (event.Quote time t bid ask) q range h =
    subst IsQuoteInRange (chosen (is_same_series s t) (record { bid = bid; ask = ask }) q h) (record { bid_is = range.2; ask_is = range.3 })
said_quote s (event.Header day) q range h = absurd cc
said_quote s (event.Expiry y) q range h = absurd cc
said_quote s (event.Rate y rate) q range h = absurd cc
said_quote s (event.Series t) q range h = absurd cc
said_quote s (event.Trade time t price) q range h = absurd cc
said_quote s (event.Tick time) q range h = absurd cc
said_quote s (event.Opening time) q range h = absurd cc
said_quote s (event.End count) q range h = absurd cc

-- the price of a quote in range is lawful
quoted_price_lawful : (o : Option BidAsk) → IfSome o IsQuoteInRange → IsLawfulPrice (quoted_price o)
quoted_price_lawful None h = record { in_range = omega arith; absent = λ e. (refl, refl) }
quoted_price_lawful (Some q) h = let bid = h.bid_is in let ask = h.ask_is in record { in_range = omega arith; absent = λ e. absurd cc }

if_lawful : (q : BidAsk) (b : Bool) → IsQuoteInRange q → IfSome {T = BidAsk} (cond b (Some q) None) IsQuoteInRange
if_lawful q true h = h
if_lawful q false h = tt

stands_in_range : (s : Symbol) (events : List Event) (o : Option BidAsk) → AllInRange events → last_said (quote_of s) events ≡ o
    → IfSome (option_and_then if_standing o) IsQuoteInRange
stands_in_range s events None range h = tt
stands_in_range s events (Some q) range h =
    let found = last_in (quote_of s) events q h in
    if_lawful q (can_stand q) (said_quote s found.0 q (range found.0 found.1) found.2)

-- the standing price of events in range is lawful
pub standing_lawful : (events : List Event) (s : Symbol) → AllInRange events → IsLawfulPrice (standing_price events s)
standing_lawful events s range =
    let since = since_listed s events in
    quoted_price_lawful (standing_quote s events) (stands_in_range s since (last_said (quote_of s) since) (since_in_range s events range) refl)

-- ---- opening trades

said_trade : (s : Symbol) (e : Event) (price : ℕ) → IsEventInRange e → trade_of s e ≡ Some price → IsPrice price
said_trade s (event.Trade time t price) p range h = subst IsPrice (chosen (is_same_series s t) price p h) range.3
said_trade s (event.Header day) p range h = absurd cc
said_trade s (event.Expiry y) p range h = absurd cc
said_trade s (event.Rate y rate) p range h = absurd cc
said_trade s (event.Series t) p range h = absurd cc
said_trade s (event.Quote time t bid ask) p range h = absurd cc
said_trade s (event.Tick time) p range h = absurd cc
said_trade s (event.Opening time) p range h = absurd cc
said_trade s (event.End count) p range h = absurd cc

-- what is said first is said by one of the events
first_said_in : {A : Type 0} (says : Event → Option A) (events : List Event) (r : A) → first_said says events ≡ Some r → (e : Event) × In events e × (says e ≡ Some r)
first_said_in says [] r h = absurd cc
first_said_in says (e ∷ events) r h =
    elim (or_either (says e) (first_said says events) r h) [
      | inl here ↦ (e, inl refl, here)
      | inr later ↦ let found = first_said_in says events r later in (found.0, inr found.1, found.2)
    ]

traded_lawful : (s : Symbol) (events : List Event) (o : Option ℕ) (quoted : Price) → AllInRange events → first_said (trade_of s) events ≡ o
    → IsLawfulPrice quoted → IsLawfulPrice (traded_price o quoted)
traded_lawful s events None quoted range h lawful = lawful
traded_lawful s events (Some price) quoted range h lawful =
    let found = first_said_in (trade_of s) events price h in
    let fits = said_trade s found.0 price (range found.0 found.1) found.2 in
    record { in_range = omega arith; absent = λ e. absurd cc }

-- the price at the opening of events in range is lawful
pub opening_lawful : (events : List Event) (s : Symbol) → AllInRange events → IsLawfulPrice (opening_price events s)
opening_lawful events s range =
    let before = before_opening events in
    let in_range = before_in_range events range in
    traded_lawful s (since_listed s before) (opening_trade s events) (standing_price before s) (since_in_range s before in_range) refl (standing_lawful before s in_range)
