-- The book of one event more.
use Rattle.std.proofs.Common.{◌≡◌, ◌+◌, ◌<◌, true, false, List, [], ◌∷◌, ◌++◌, length, Option, Some, None, option_to_list, refl, sym, ◌∙◌, ap, length-append}
use Rattle.std.specs.Option.{option_or}
use Rattle.vx_feed.specs.declared.events.Event.{Event}
use Rattle.vx_feed.specs.declared.events.Event.TheVariants as event
use Rattle.vx_feed.specs.declared.limits.TheConstants.{LINES_MAX}
use Rattle.vx_feed.specs.Listed.{trade_date, header_day, declared_expiries, declared_expiry}
use Rattle.vx_feed.specs.Order.{IsLawfulNext, is_header, is_misplaced, is_undeclared, is_duplicate_series, is_second_opening}
use Rattle.vx_feed.proofs.FaultLemmas.{few_lines}
use Rattle.vx_feed.proofs.NextEvent.{next_trade_date, next_declared}
use Rattle.vx_feed.proofs.NoCauses.{no_causes}
use Rattle.vx_check.specs.StandsFor.{last_event}

-- ---- what a lawful event says

-- a feed has room for one line more
pub one_line_more : (events : List Event) (e : Event) → IsLawfulNext events e → length events < LINES_MAX
one_line_more events e h = few_lines events e (no_causes events e h.in_order).few

first_is_empty : (events : List Event) (e : Event) → is_header e ≡ true → is_misplaced events e ≡ false → events ≡ []
first_is_empty [] e t h = refl
first_is_empty (y ∷ ys) e t h = absurd (cc (sym t ∙ h))

-- a header comes first alone
pub header_is_first : (events : List Event) (e : Event) → is_header e ≡ true → IsLawfulNext events e → events ≡ []
header_is_first events e t h = first_is_empty events e t (no_causes events e h.in_order).placed

-- a rate or a series is of a declared expiry
pub not_undeclared : (events : List Event) (e : Event) → IsLawfulNext events e → is_undeclared events e ≡ false
not_undeclared events e h = (no_causes events e h.in_order).declared

-- no series is listed twice
pub not_duplicate : (events : List Event) (e : Event) → IsLawfulNext events e → is_duplicate_series events e ≡ false
not_duplicate events e h = (no_causes events e h.in_order).new_series

-- no opening is taken twice
pub not_second : (events : List Event) (e : Event) → IsLawfulNext events e → is_second_opening events e ≡ false
not_second events e h = (no_causes events e h.in_order).first_opening

-- ---- the parts after one event more

pub last_event-push : (events : List Event) (e : Event) → last_event (events ++ e ∷ []) ≡ Some e
last_event-push [] e = refl
last_event-push (y ∷ []) e = refl
last_event-push (y ∷ (z ∷ ys)) e = last_event-push (z ∷ ys) e

pub trade_date-push : (events : List Event) (e : Event) → IsLawfulNext events e → trade_date (events ++ e ∷ []) ≡ option_or (header_day e) (trade_date events)
trade_date-push events e h = next_trade_date events e ∙ by_event e h where
  or_none : {A : Type 0} (o : Option A) → option_or o None ≡ o
  or_none None = refl
  or_none (Some x) = refl

  by_event : (e : Event) → IsLawfulNext events e → option_or (trade_date events) (header_day e) ≡ option_or (header_day e) (trade_date events)
  by_event (event.Header day) h = let none : trade_date events ≡ None = ap trade_date (header_is_first events (event.Header day) refl h) in rw none refl
  by_event (event.Expiry x) h = or_none (trade_date events)
  by_event (event.Rate x rate) h = or_none (trade_date events)
  by_event (event.Series s) h = or_none (trade_date events)
  by_event (event.Quote time s bid ask) h = or_none (trade_date events)
  by_event (event.Trade time s price) h = or_none (trade_date events)
  by_event (event.Tick time) h = or_none (trade_date events)
  by_event (event.Opening time) h = or_none (trade_date events)
  by_event (event.End count) h = or_none (trade_date events)

pub declared-push : (events : List Event) (e : Event) → declared_expiries (events ++ e ∷ []) ≡ declared_expiries events ++ option_to_list (declared_expiry e)
declared-push events e = next_declared events e

pub length-push : (events : List Event) (e : Event) → length (events ++ e ∷ []) ≡ length events + 1
length-push events e = length-append events (e ∷ [])
