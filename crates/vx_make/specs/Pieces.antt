-- A sample feed that is made piece by piece.
use Rattle.std.specs.Prelude.{◌≡◌, ℕ, ◌*◌, ◌<◌, ◌≤◌, List, ◌++◌, vec_capacity}
use Rattle.vx_feed.specs.Written.{event_text, text_of_events}
use Rattle.vx_make.specs.declared.feed.TheConstants.{TICK_ROOM}
use Rattle.vx_make.specs.declared.limits.TheConstants.{STATES}
use Rattle.vx_make.specs.declared.pieces.SampleFeed.{SampleFeed}
use Rattle.vx_make.specs.Drawing.{state_after}
use Rattle.vx_make.specs.Feed.{closing_event, head_events, tick_draws, tick_events_at, ticks_events}

-- a tick can be made: the generator's state is one of its states, and there is room for the lines
pub record IsReady (feed : SampleFeed) : Type 0 where
  pub states : feed.state < STATES
  pub room : TICK_ROOM ≤ vec_capacity feed.tick_lines

-- of the sample feed with a number and so many ticks, the first so many ticks were made
pub record HasMade (number ticks made : ℕ) (feed : SampleFeed) : Type 0 where
  pub head : feed.head.items ≡ text_of_events head_events
  pub last_line : feed.last_line.items ≡ event_text (closing_event number ticks)
  pub count : feed.made ≡ made
  pub state : feed.state ≡ state_after (tick_draws * made) number
  pub ready : IsReady feed

-- the text of what stands before the first tick and of the first so many ticks
abbrev pub made_text : ℕ → ℕ → List ℕ
made_text number made = text_of_events head_events ++ text_of_events (ticks_events number made)

-- it holds the lines of this tick, counted from 0
abbrev pub HoldsTick : ℕ → ℕ → SampleFeed → Type 0
HoldsTick number tick feed = feed.tick_lines.items ≡ text_of_events (tick_events_at number tick)
