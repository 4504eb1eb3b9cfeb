-- The list of events for which an order of events stands.
use Rattle.std.specs.Prelude.{◌≡◌, ℕ, ◌+◌, ◌<◌, Bool, true, false, not, ◌&&◌, ◌||◌, ◌==◌, nat_lt, List, [], ◌∷◌, ◌++◌, length, map, None, if◌then◌else◌}
use Rattle.std.specs.List.{find, list_any}
use Rattle.std.specs.Option.{option_map_or, option_or, option_to_list}
use Rattle.std.specs.HashSet.{contains}
use Rattle.vx_clock.specs.declared.terms.Expiry.{Expiry}
use Rattle.vx_symbol.specs.declared.symbols.Symbol.{Symbol}
use Rattle.vx_feed.specs.declared.events.Event.{Event}
use Rattle.vx_feed.specs.declared.events.Event.TheVariants as event
use Rattle.vx_feed.specs.declared.limits.TheConstants.{STRIKES_MAX}
use Rattle.vx_feed.specs.declared.order.Declared.{Declared}
use Rattle.vx_feed.specs.declared.order.Order.{Order}
use Rattle.vx_feed.specs.Same.{is_same_expiry, is_same_series}
use Rattle.vx_feed.specs.Standing.{is_opening, lists_series}
use Rattle.vx_feed.specs.Listed.{declared_expiries, declared_expiry, expiry_of, header_day, is_listed, other_side, strikes_of, trade_date}
use Rattle.vx_feed.specs.Order.{IsLawfulNext, is_end, is_later_than}

-- the expiry that is kept
abbrev pub kept_expiry : Declared → Expiry
kept_expiry d = d.expiry

-- this is what is kept of the expiry
abbrev pub keeps : Expiry → Declared → Bool
keeps x d = is_same_expiry x d.expiry

-- how many strikes are kept for an expiry
abbrev pub kept_strikes : Expiry → List Declared → ℕ
kept_strikes x ds = option_map_or (λ d. d.strikes) (find (keeps x) ds) 0

-- each part that the order keeps is what the list of events says
pub record StandsFor (order : Order) (events : List Event) : Type 0 where
  pub lines : order.lines ≡ length events
  pub day : order.day ≡ trade_date events
  pub latest : (time : ℕ) → list_any (is_later_than time) events ≡ nat_lt time order.latest
  pub ended : order.ended ≡ list_any is_end events
  pub opened : order.opened ≡ list_any is_opening events
  pub expiries : map kept_expiry order.expiries.items ≡ declared_expiries events
  pub strikes : (x : Expiry) → kept_strikes x order.expiries.items ≡ length (strikes_of x events)
  pub series : (s : Symbol) → contains is_same_series order.series s ≡ is_listed s events

-- there is a list of events for which the order stands
abbrev pub StandsForSome : Order → Type 0
StandsForSome order = (events : List Event) × StandsFor order events

-- the event is lawful next after a list of events for which the order stands
abbrev pub MayNote : Order → Event → Type 0
MayNote order e = (events : List Event) × StandsFor order events × IsLawfulNext events e

-- no series of this expiry is listed at this strike
abbrev pub is_new_strike : List Event → Symbol → Bool
is_new_strike events s = not (list_any (λ k. k == s.strike) (strikes_of (expiry_of s) events))

-- what is kept, with one strike more for the expiry
abbrev pub with_one_more : Expiry → List Declared → List Declared
with_one_more x [] = []
with_one_more x (d ∷ ds) =
    if keeps x d then record d { strikes = d.strikes + 1 } ∷ ds else d ∷ with_one_more x ds

-- how many strikes more the event lists for the expiry, where a series that it lists was not listed before
abbrev pub strikes_more : Order → Event → Expiry → ℕ
strikes_more order (event.Series s) x =
    if is_same_expiry x (expiry_of s) && not (contains is_same_series order.series (other_side s)) then 1 else 0
strikes_more order _ x = 0

-- a series can be taken up: it is a new one of a declared expiry, which has room for its strike where that is new
pub record CanList (order : Order) (s : Symbol) : Type 0 where
  pub unlisted : contains is_same_series order.series s ≡ false
  pub declared : list_any (keeps (expiry_of s)) order.expiries.items ≡ true
  pub room : contains is_same_series order.series (other_side s) ≡ false →
      kept_strikes (expiry_of s) order.expiries.items < STRIKES_MAX

-- what the order asks of an event that it takes up, beside its time
abbrev pub CanTake : Order → Event → Type 0
CanTake order (event.Header day) = order.day ≡ None
CanTake order (event.Series s) = CanList order s
CanTake order _ = Unit {0}

-- the order with what the event says beside its time
pub record Takes (order : Order) (e : Event) (after : Order) : Type 0 where
  pub lines : after.lines ≡ order.lines
  pub latest : after.latest ≡ order.latest
  pub day : after.day ≡ option_or order.day (header_day e)
  pub ended : after.ended ≡ (order.ended || is_end e)
  pub opened : after.opened ≡ (order.opened || is_opening e)
  pub expiries : map kept_expiry after.expiries.items ≡ map kept_expiry order.expiries.items ++ option_to_list (declared_expiry e)
  pub strikes : (x : Expiry) → kept_strikes x after.expiries.items ≡ kept_strikes x order.expiries.items + strikes_more order e x
  pub series : (s : Symbol) → contains is_same_series after.series s ≡ (contains is_same_series order.series s || lists_series s e)

-- each part that is kept is as before
pub record IsSameOrder (old new : Order) : Type 0 where
  pub lines : new.lines ≡ old.lines
  pub day : new.day ≡ old.day
  pub latest : new.latest ≡ old.latest
  pub ended : new.ended ≡ old.ended
  pub opened : new.opened ≡ old.opened
  pub expiries : new.expiries.items ≡ old.expiries.items
  pub series : new.series.keys ≡ old.series.keys
