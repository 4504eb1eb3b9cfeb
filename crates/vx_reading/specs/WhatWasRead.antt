-- What was read of a slot by a time, and which events of a feed were.
use Rattle.std.specs.Prelude.{◌≡◌, ℕ, List, [], length, Option}
use Rattle.vx_lines.specs.TextLines.{at_end}
use Rattle.vx_desk.specs.Told.{Told}
pub use Rattle.vx_blocks.specs.Given.{IsCutAfter, WereRead}
use Rattle.vx_feed.specs.declared.events.Event.{Event}
use Rattle.vx_feed.specs.Feed.{reading_from}

-- each of these lines says a lawful next event, and these are the events
pub record SayEvents (lines : List (List ℕ)) (events : List Event) : Type 0 where
  pub events_are : (reading_from [] lines at_end).events ≡ events
  pub none_bad : length lines ≡ length events

-- these events are what lines of the feed say that were read
pub record EventsRead (events : List Event) (held : Option (List ℕ)) (now : Told) : Type 0 where
  pub lines : List (List ℕ)
  pub were_read : WereRead lines held now
  pub say : SayEvents lines events
