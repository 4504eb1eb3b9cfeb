-- That sample feeds are lawful, whatever the number: a feed of at most so many ticks as a day has minutes.
use Rattle.std.specs.Prelude.{◌≡◌, ℕ, ◌+◌, ◌≤◌, List, [], ◌∷◌, length, map, None}
use Rattle.std.specs.List.{filter_map}
use Rattle.vx_lines.specs.TextLines.{at_end, lines_of}
use Rattle.vx_feed.specs.declared.events.Event.{Event}
use Rattle.vx_feed.specs.declared.limits.TheConstants.{LINE_LEN_MAX}
use Rattle.vx_feed.specs.Feed.{IsLawfulFeed, reading_of}
use Rattle.vx_feed.specs.NextEvents.{EndWithCount}
use Rattle.vx_feed.specs.Order.{AreLawful, tick_minute}
use Rattle.vx_feed.specs.Written.{event_line}
use Rattle.vx_make.specs.declared.limits.TheConstants.{FIRST_MINUTE, TICKS_MAX}
use Rattle.vx_make.specs.Quotes.{for_each}
use Rattle.vx_make.specs.Feed.{make_events, make_text}

-- each event may come after those before it
abbrev pub SamplesAreLawful : Type 0
SamplesAreLawful = (number ticks : ℕ) → ticks ≤ TICKS_MAX → AreLawful (make_events number ticks)

-- the last event, and no other, is an END, which counts the events between the first and it
abbrev pub SamplesEnd : Type 0
SamplesEnd = (number ticks : ℕ) → ticks ≤ TICKS_MAX → EndWithCount (make_events number ticks)

-- the lines of the text are the events' lines: none is too long, and nothing stands behind the last
abbrev pub SampleLinesAreOfEvents : Type 0
SampleLinesAreOfEvents = (number ticks : ℕ) → ticks ≤ TICKS_MAX →
    lines_of LINE_LEN_MAX (make_text number ticks)
    ≡ record { lines = map event_line (make_events number ticks); ending = at_end }

-- the text is read as these events, and no line is bad
abbrev pub SamplesAreReadBack : Type 0
SamplesAreReadBack = (number ticks : ℕ) → ticks ≤ TICKS_MAX →
    reading_of (make_text number ticks) ≡ record { events = make_events number ticks; bad = None }

-- so it is a lawful feed
abbrev pub SampleTextsAreLawful : Type 0
SampleTextsAreLawful = (number ticks : ℕ) → ticks ≤ TICKS_MAX → IsLawfulFeed (make_text number ticks)

-- the minutes of the ticks among events, in their order
abbrev pub tick_minutes : List Event → List ℕ
tick_minutes events = filter_map tick_minute events

-- the ticks come a minute apart, from the first minute on
abbrev pub SamplesTickByMinute : Type 0
SamplesTickByMinute = (number ticks : ℕ) →
    tick_minutes (make_events number ticks) ≡ for_each ticks (λ t. (FIRST_MINUTE + t) ∷ [])

-- and they are as many as are asked for
abbrev pub SamplesHaveTheirTicks : Type 0
SamplesHaveTheirTicks = (number ticks : ℕ) → length (tick_minutes (make_events number ticks)) ≡ ticks
