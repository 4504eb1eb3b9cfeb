-- What a feed shows at a line, in the words of the formula. Events stand in the order of the feed's lines, and the first is line 1.
use Rattle.std.specs.Prelude.{◌≡◌, ℕ, ◌-◌, ◌*◌, ◌≤◌, pos, ◌+ℤ◌, List, take, Option, Some, None, is_some, MatchOption, Contains, if◌then◌else◌}
use Rattle.std.specs.List.{slice_get}
use Rattle.std.specs.Option.{option_and_then}
use Rattle.vx_clock.specs.declared.days.DayNo.{DayNo}
use Rattle.vx_clock.specs.declared.terms.Root.TheVariants.{Spx}
use Rattle.vx_clock.specs.declared.terms.Expiry.{Expiry}
use Rattle.vx_clock.specs.declared.terms.Moment.{Moment}
use Rattle.vx_clock.specs.declared.limits.TheConstants.{DAY_MINUTES, INDEX_DAYS}
use Rattle.vx_clock.specs.Minutes.{minutes_between}
use Rattle.vx_clock.specs.Terms.{IsInNearWindow, IsInNextWindow, IsNearTerm, IsNextTerm}
use Rattle.vx_feed.specs.declared.events.Event.{Event}
use Rattle.vx_feed.specs.declared.events.Event.TheVariants as event
use Rattle.vx_feed.specs.Standing.{before_opening, standing_rate}
use Rattle.vx_feed.specs.Listed.{trade_date, declared_expiries, is_declared, listed_rows}
use Rattle.vx_feed.specs.Opening.{opening_time, opening_rows, opening_rate}
use Rattle.vx_formula.specs.declared.limits.TheConstants.{THIRTY_DAYS}
use Rattle.vx_formula.specs.Term.{TermFacts}
use Rattle.vx_formula.specs.Refusal.{TickFacts, OpeningFacts}

-- the event of a line, and the events before it
abbrev pub event_at : List Event → ℕ → Option Event
event_at events line = slice_get events (line - 1)

abbrev pub events_before : List Event → ℕ → List Event
events_before events line = take (line - 1) events

-- a tick, and the taking of the opening, at a line and a minute of the day
abbrev pub IsTickAt : List Event → ℕ → ℕ → Type 0
IsTickAt events line time = (1 ≤ line) × (event_at events line ≡ Some (event.Tick time))

abbrev pub IsOpeningAt : List Event → ℕ → ℕ → Type 0
IsOpeningAt events line time = (1 ≤ line) × (event_at events line ≡ Some (event.Opening time))

-- the moment of a minute of the trade date
abbrev pub moment_of : DayNo → ℕ → Moment
moment_of day time = record { day = day; minute = time }

-- a term after some events at a moment: the listed rows of its expiry with their standing quotes, its standing rate, and the
-- minutes to its settlement
abbrev pub term_facts : List Event → Moment → Expiry → TermFacts
term_facts events now x = record { rows = listed_rows x events; rate = standing_rate x events; minutes = minutes_between now x }

-- the two terms are the picked ones, for so many days within a window
pub record ArePickedTerms (events : List Event) (line days window : ℕ) (near next : Expiry) : Type 0 where
  pub day : DayNo
  pub day_is : trade_date events ≡ Some day
  pub is_near : IsNearTerm day days window (declared_expiries (events_before events line)) near
  pub is_next : IsNextTerm day days window (declared_expiries (events_before events line)) next

-- the facts are those of the near term for so many days within a window, or there is none
abbrev pub AreNearFacts : List Event → Moment → ℕ → ℕ → Option TermFacts → Type 0
AreNearFacts events now days window chosen = MatchOption chosen
    ((x : Expiry) → Contains (declared_expiries events) x → ¬ IsInNearWindow now.day days window x)
    (λ facts. (x : Expiry) × IsNearTerm now.day days window (declared_expiries events) x × (facts ≡ term_facts events now x))

-- and of the next term
abbrev pub AreNextFacts : List Event → Moment → ℕ → ℕ → Option TermFacts → Type 0
AreNextFacts events now days window chosen = MatchOption chosen
    ((x : Expiry) → Contains (declared_expiries events) x → ¬ IsInNextWindow now.day days window x)
    (λ facts. (x : Expiry) × IsNextTerm now.day days window (declared_expiries events) x × (facts ≡ term_facts events now x))

-- what the feed shows at the tick of a line, for so many days within a window
pub record AreTickFacts (events : List Event) (line time days window : ℕ) (facts : TickFacts) : Type 0 where
  pub is_tick : IsTickAt events line time
  pub day : DayNo
  pub day_is : trade_date events ≡ Some day
  pub near_facts : AreNearFacts (events_before events line) (moment_of day time) days window facts.near
  pub next_facts : AreNextFacts (events_before events line) (moment_of day time) days window facts.next
  pub target_is : facts.target ≡ DAY_MINUTES * days

-- the term of the opening: the SPX expiry 30 days after the trade date
abbrev pub opening_expiry : DayNo → Expiry
opening_expiry day = record { root = Spx; date = record { 0 = day.0 +ℤ pos INDEX_DAYS } }

-- that term with its opening prices and rate; its minutes are always those of 30 days
abbrev pub opening_term_facts : List Event → DayNo → TermFacts
opening_term_facts events day = record {
  rows = opening_rows (opening_expiry day) events;
  rate = opening_rate (opening_expiry day) events;
  minutes = THIRTY_DAYS;
}

-- the term, where it is declared before the opening
abbrev pub opening_term_of : List Event → DayNo → Option TermFacts
opening_term_of events day =
    if is_declared (opening_expiry day) (before_opening events) then Some (opening_term_facts events day) else None

-- what the feed shows at the opening
abbrev pub opening_facts : List Event → OpeningFacts
opening_facts events = record {
  is_taken = is_some (opening_time events);
  term = option_and_then (opening_term_of events) (trade_date events);
}
