-- What one more event changes.
use Rattle.std.specs.Prelude.{◌≡◌, ℕ, Bool, true, false, ◌||◌, List, [], ◌∷◌, ◌++◌, Option, Some, None, if◌then◌else◌}
use Rattle.std.specs.List.{list_any}
use Rattle.std.specs.Option.{option_or, option_to_list}
use Rattle.vx_clock.specs.declared.terms.Expiry.{Expiry}
use Rattle.vx_symbol.specs.declared.symbols.Symbol.{Symbol}
use Rattle.vx_feed.specs.declared.events.Event.{Event}
use Rattle.vx_feed.specs.Standing.{BidAsk, before_opening, if_standing, is_opening, lists_series, opening_trade, quote_of, rate_of, standing_quote, standing_rate, trade_of}
use Rattle.vx_feed.specs.Listed.{declared_expiries, declared_expiry, header_day, is_listed, listed_strike, strikes_of, trade_date, with_strike}

-- the standing quote of a series, listed or not, after an event that may quote it
abbrev pub quote_after : Bool → Option BidAsk → Option BidAsk → Option BidAsk
quote_after listed standing None = standing
quote_after false standing (Some quote) = standing
quote_after true standing (Some quote) = if_standing quote

-- the opening trade of a series, with the opening taken or not, after an event that may be its trade
abbrev pub trade_after : Bool → Bool → Option ℕ → Option ℕ → Option ℕ
trade_after opened listed first traded = if opened then first else (if listed then option_or first traded else first)

-- the standing quote after one more event
abbrev pub NextQuote : Type 0
NextQuote = (s : Symbol) (events : List Event) (e : Event) →
    standing_quote s (events ++ e ∷ []) ≡ quote_after (is_listed s events) (standing_quote s events) (quote_of s e)

-- the standing rate after one more event
abbrev pub NextRate : Type 0
NextRate = (x : Expiry) (events : List Event) (e : Event) →
    standing_rate x (events ++ e ∷ []) ≡ option_or (rate_of x e) (standing_rate x events)

-- the opening trade after one more event
abbrev pub NextTrade : Type 0
NextTrade = (s : Symbol) (events : List Event) (e : Event) →
    opening_trade s (events ++ e ∷ [])
    ≡ trade_after (list_any is_opening events) (is_listed s events) (opening_trade s events) (trade_of s e)

-- a series that is not listed has no standing quote and no opening trade
abbrev pub UnlistedHasNone : Type 0
UnlistedHasNone = (s : Symbol) (events : List Event) → is_listed s events ≡ false →
    (standing_quote s events ≡ None) × (opening_trade s events ≡ None)

-- the events before the opening after one more event
abbrev pub NextBeforeOpening : Type 0
NextBeforeOpening = (events : List Event) (e : Event) →
    before_opening (events ++ e ∷ [])
    ≡ (if list_any is_opening events then before_opening events else (if is_opening e then events else events ++ e ∷ []))

-- the listed series after one more event
abbrev pub NextListed : Type 0
NextListed = (s : Symbol) (events : List Event) (e : Event) →
    is_listed s (events ++ e ∷ []) ≡ (is_listed s events || lists_series s e)

-- the declared expiries after one more event
abbrev pub NextDeclared : Type 0
NextDeclared = (events : List Event) (e : Event) →
    declared_expiries (events ++ e ∷ []) ≡ declared_expiries events ++ option_to_list (declared_expiry e)

-- the trade date after one more event
abbrev pub NextTradeDate : Type 0
NextTradeDate = (events : List Event) (e : Event) →
    trade_date (events ++ e ∷ []) ≡ option_or (trade_date events) (header_day e)

-- the strikes of an expiry after one more event
abbrev pub NextStrikes : Type 0
NextStrikes = (x : Expiry) (events : List Event) (e : Event) →
    strikes_of x (events ++ e ∷ []) ≡ with_strike (listed_strike x e) (strikes_of x events)
