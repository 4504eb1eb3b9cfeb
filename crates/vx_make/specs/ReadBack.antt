-- That the text of lawful events is read back as these events.
use Rattle.std.specs.Prelude.{◌≡◌, List, true, map, None}
use Rattle.std.specs.List.{list_any}
use Rattle.vx_lines.specs.TextLines.{at_end, lines_of}
use Rattle.vx_feed.specs.declared.events.Event.{Event}
use Rattle.vx_feed.specs.declared.limits.TheConstants.{LINE_LEN_MAX}
use Rattle.vx_feed.specs.Feed.{reading_of}
use Rattle.vx_feed.specs.Order.{AreLawful, is_end}
use Rattle.vx_feed.specs.Written.{event_line, text_of_events}

-- the lines of their text are the events' lines: none is too long, and nothing stands behind the last
abbrev pub LinesAreOfEvents : Type 0
LinesAreOfEvents = (events : List Event) → AreLawful events →
    lines_of LINE_LEN_MAX (text_of_events events) ≡ record { lines = map event_line events; ending = at_end }

-- where one of them is an END, their text is read as these events, and no line is bad
abbrev pub TextsAreReadBack : Type 0
TextsAreReadBack = (events : List Event) → AreLawful events → list_any is_end events ≡ true →
    reading_of (text_of_events events) ≡ record { events = events; bad = None }
