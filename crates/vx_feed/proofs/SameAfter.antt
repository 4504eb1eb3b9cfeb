-- What an event that says nothing of a matter leaves as it is.
use Rattle.std.proofs.Common.{◌≡◌, ◌∙◌, ap, refl, ℕ, Bool, true, false, ◌||◌, List, [], ◌∷◌, ◌++◌, map, Option, None}
use Rattle.std.specs.List.{list_any}
use Rattle.std.specs.Option.{option_or}
use Rattle.vx_clock.specs.declared.terms.Expiry.{Expiry}
use Rattle.vx_symbol.specs.declared.symbols.Symbol.{Symbol}
use Rattle.vx_symbol.specs.declared.rows.StrikeRow.{StrikeRow}
use Rattle.vx_feed.specs.declared.events.Event.{Event}
use Rattle.vx_feed.specs.Standing.{BidAsk, is_opening, lists_series, opening_trade, quote_of, rate_of, standing_quote, standing_rate, trade_of}
use Rattle.vx_feed.specs.Listed.{is_listed, listed_strike, quoted_price, standing_price, strikes_of, with_strike}
use Rattle.vx_feed.specs.Next.{quote_after, trade_after}
use Rattle.vx_feed.proofs.NextEvent.{next_listed, next_quote, next_rate, next_strikes, next_trade, option_or-none, or-false}

as_quoted : (listed : Bool) (q : Option BidAsk) → quote_after listed q None ≡ q
as_quoted true q = refl
as_quoted false q = refl

as_traded : (opened listed : Bool) (t : Option ℕ) → trade_after opened listed t None ≡ t
as_traded true listed t = refl
as_traded false true t = option_or-none t
as_traded false false t = refl

-- an event that quotes a series not leaves its price
pub price_same : (s : Symbol) (events : List Event) (e : Event) → quote_of s e ≡ None → standing_price (events ++ e ∷ []) s ≡ standing_price events s
price_same s events e none =
    ap quoted_price (next_quote s events e ∙ ap (quote_after (is_listed s events) (standing_quote s events)) none ∙ as_quoted (is_listed s events) (standing_quote s events))

-- one that trades it not leaves its opening trade
pub trade_same : (s : Symbol) (events : List Event) (e : Event) → trade_of s e ≡ None → opening_trade s (events ++ e ∷ []) ≡ opening_trade s events
trade_same s events e none =
    next_trade s events e ∙ ap (trade_after (list_any is_opening events) (is_listed s events) (opening_trade s events)) none
    ∙ as_traded (list_any is_opening events) (is_listed s events) (opening_trade s events)

-- and once the opening was taken, so does every event
pub trade_opened : (s : Symbol) (events : List Event) (e : Event) → list_any is_opening events ≡ true → opening_trade s (events ++ e ∷ []) ≡ opening_trade s events
trade_opened s events e opened =
    next_trade s events e ∙ ap (λ b. trade_after b (is_listed s events) (opening_trade s events) (trade_of s e)) opened

-- one that gives no rate of an expiry leaves its rate
pub rate_same : (x : Expiry) (events : List Event) (e : Event) → rate_of x e ≡ None → standing_rate x (events ++ e ∷ []) ≡ standing_rate x events
rate_same x events e none = next_rate x events e ∙ ap (λ o. option_or o (standing_rate x events)) none

-- one that lists a series not leaves whether it is listed
pub listed_same : (s : Symbol) (events : List Event) (e : Event) → lists_series s e ≡ false → is_listed s (events ++ e ∷ []) ≡ is_listed s events
listed_same s events e none = next_listed s events e ∙ ap (λ b. is_listed s events || b) none ∙ or-false (is_listed s events)

-- and a listed series stays listed
pub listed_still : (s : Symbol) (events : List Event) (e : Event) → is_listed s events ≡ true → is_listed s (events ++ e ∷ []) ≡ true
listed_still s events e listed = next_listed s events e ∙ ap (λ b. b || lists_series s e) listed

-- one that lists no strike of an expiry leaves its strikes
pub strikes_same : (x : Expiry) (events : List Event) (e : Event) → listed_strike x e ≡ None → strikes_of x (events ++ e ∷ []) ≡ strikes_of x events
strikes_same x events e none = next_strikes x events e ∙ ap (λ o. with_strike o (strikes_of x events)) none

-- rows that are made the same one by one
pub map_same : {X : Type 0} (f g : X → StrikeRow) → ((x : X) → f x ≡ g x) → (xs : List X) → map f xs ≡ map g xs
map_same f g same [] = refl
map_same f g same (x ∷ xs) = ap (λ r. r ∷ map f xs) (same x) ∙ ap (λ l. g x ∷ l) (map_same f g same xs)
