-- Which event may follow which (this project's own): the faults of an event after a list of events,
-- each by itself and then the first in their order.
use Rattle.std.specs.Prelude.{◌≡◌, ℕ, ◌-◌, Bool, true, false, not, ◌&&◌, ◌||◌, ◌==◌, nat_le, nat_lt, List, [], ◌∷◌, ◌++◌, length, Option, Some, None, pos, int_le, if◌then◌else◌}
use Rattle.std.specs.Option.{option_map_or}
use Rattle.std.specs.List.{list_any}
use Rattle.vx_clock.specs.Minutes.{days_until}
use Rattle.vx_clock.specs.declared.terms.Expiry.{Expiry}
use Rattle.vx_clock.specs.declared.days.DayNo.{DayNo}
use Rattle.vx_symbol.specs.declared.limits.TheConstants.{ROWS_MAX}
use Rattle.vx_feed.specs.declared.events.Event.{Event}
use Rattle.vx_feed.specs.declared.events.Event.TheVariants as event
use Rattle.vx_feed.specs.declared.faults.FeedFault.{FeedFault}
use Rattle.vx_feed.specs.declared.faults.FeedFault.TheVariants as fault
use Rattle.vx_feed.specs.declared.limits.TheConstants.{EXPIRIES_MAX, LINES_MAX, EXPIRY_DAYS_MAX}
use Rattle.vx_feed.specs.Standing.{is_opening}
use Rattle.vx_feed.specs.Listed.{declared_expiries, expiry_of, is_declared, is_listed, strikes_of, trade_date}
use Rattle.vx_feed.specs.Ranges.{IsEventInRange}

abbrev pub is_header : Event → Bool
is_header (event.Header day) = true
is_header _ = false

abbrev pub is_end : Event → Bool
is_end (event.End count) = true
is_end _ = false

abbrev pub is_empty : List Event → Bool
is_empty [] = true
is_empty (e ∷ events) = false

-- not-first: the first line is no header, or a later line is one
abbrev pub is_misplaced : List Event → Event → Bool
is_misplaced before e = if is_empty before then not (is_header e) else is_header e

-- after-end: an END line came before
abbrev pub is_after_end : List Event → Event → Bool
is_after_end before e = list_any is_end before

-- the minute of a quote, a trade, a tick or an opening
abbrev pub time_of : Event → Option ℕ
time_of (event.Quote time s bid ask) = Some time
time_of (event.Trade time s price) = Some time
time_of (event.Tick time) = Some time
time_of (event.Opening time) = Some time
time_of _ = None

-- the minute of a tick
abbrev pub tick_minute : Event → Option ℕ
tick_minute (event.Tick time) = Some time
tick_minute _ = None

-- the event is at a minute after this one
abbrev pub is_later_than : ℕ → Event → Bool
is_later_than time e = option_map_or (nat_lt time) (time_of e) false

-- time-back: the time is less than that of an earlier line
abbrev pub is_time_back : List Event → Event → Bool
is_time_back before e = option_map_or (λ time. list_any (is_later_than time) before) (time_of e) false

-- duplicate-expiry: the expiry was declared before
abbrev pub is_duplicate_expiry : List Event → Event → Bool
is_duplicate_expiry before (event.Expiry x) = is_declared x before
is_duplicate_expiry before _ = false

-- duplicate-series: the series was listed before
abbrev pub is_duplicate_series : List Event → Event → Bool
is_duplicate_series before (event.Series s) = is_listed s before
is_duplicate_series before _ = false

-- undeclared-expiry: the expiry of a rate or of a listed series was not declared before
abbrev pub is_undeclared : List Event → Event → Bool
is_undeclared before (event.Rate x rate) = not (is_declared x before)
is_undeclared before (event.Series s) = not (is_declared (expiry_of s) before)
is_undeclared before _ = false

-- a 17th expiry
abbrev pub has_too_many_expiries : List Event → Event → Bool
has_too_many_expiries before (event.Expiry x) = nat_le EXPIRIES_MAX (length (declared_expiries before))
has_too_many_expiries before _ = false

-- a 2,001st distinct strike of an expiry
abbrev pub has_too_many_strikes : List Event → Event → Bool
has_too_many_strikes before (event.Series s) =
    let strikes = strikes_of (expiry_of s) before in
    nat_le ROWS_MAX (length strikes) && not (list_any (λ k. k == s.strike) strikes)
has_too_many_strikes before _ = false

-- too-many: one expiry, one distinct strike of an expiry, or one line more than a feed may have
abbrev pub is_too_many : List Event → Event → Bool
is_too_many before e =
    has_too_many_expiries before e || has_too_many_strikes before e
    || nat_le LINES_MAX (length before)

-- end-count: the END line counts another number of lines between the header and it
abbrev pub is_other_count : List Event → Event → Bool
is_other_count before (event.End count) = not (count == (length before - 1))
is_other_count before _ = false

-- 1 to 180 days after the trade date
abbrev pub is_days_ahead : Expiry → DayNo → Bool
is_days_ahead x day =
    int_le (pos 1) (days_until day x.date) && int_le (days_until day x.date) (pos EXPIRY_DAYS_MAX)

-- time-range: an expiry that is not 1 to 180 days after the trade date
abbrev pub is_out_of_days : List Event → Event → Bool
is_out_of_days before (event.Expiry x) = not (option_map_or (is_days_ahead x) (trade_date before) false)
is_out_of_days before _ = false

-- second-opening: an opening after an opening
abbrev pub is_second_opening : List Event → Event → Bool
is_second_opening before (event.Opening time) = list_any is_opening before
is_second_opening before _ = false

-- the first fault whose cause holds, of causes with their faults
abbrev pub first_fault : List (Bool × FeedFault) → Option FeedFault
first_fault [] = None
first_fault (c ∷ causes) = if c.0 then Some c.1 else first_fault causes

-- the causes of an event's faults after a list of events, in their order
abbrev pub order_causes : List Event → Event → List (Bool × FeedFault)
order_causes before e =
    (is_misplaced before e, fault.NotFirst)
    ∷ (is_after_end before e, fault.AfterEnd)
    ∷ (is_time_back before e, fault.TimeBack)
    ∷ (is_duplicate_expiry before e, fault.DuplicateExpiry)
    ∷ (is_duplicate_series before e, fault.DuplicateSeries)
    ∷ (is_undeclared before e, fault.UndeclaredExpiry)
    ∷ (is_too_many before e, fault.TooMany)
    ∷ (is_other_count before e, fault.EndCount)
    ∷ (is_out_of_days before e, fault.TimeRange)
    ∷ (is_second_opening before e, fault.SecondOpening)
    ∷ []

-- the first fault of an event after a list of events, if it has one
abbrev pub order_fault : List Event → Event → Option FeedFault
order_fault before e = first_fault (order_causes before e)

-- an event that may come next after a list of events
pub record IsLawfulNext (before : List Event) (e : Event) : Type 0 where
  pub in_range : IsEventInRange e
  pub in_order : order_fault before e ≡ None

-- each of the events may come after those before it, which come after these
abbrev pub AreLawfulAfter : List Event → List Event → Type 0
AreLawfulAfter before [] = Unit {0}
AreLawfulAfter before (e ∷ events) = IsLawfulNext before e × AreLawfulAfter (before ++ e ∷ []) events

-- each event may come after those before it
abbrev pub AreLawful : List Event → Type 0
AreLawful events = AreLawfulAfter [] events
