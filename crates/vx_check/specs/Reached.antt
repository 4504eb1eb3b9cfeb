-- A book that has not passed the feed line of a certificate. This project's own.
use Rattle.std.specs.Prelude.{ℕ, ◌≤◌, ◌==◌, ◌&&◌, Bool, false, List, length}
use Rattle.std.specs.Option.{option_map_or}
use Rattle.vx_feed.specs.declared.events.Event.{Event}
use Rattle.vx_feed.specs.Order.{AreLawful}
use Rattle.vx_claims.specs.Seen.{IsTickAt, IsOpeningAt}
use Rattle.vx_check.specs.declared.book.PlainBook.{PlainBook}
use Rattle.vx_check.specs.StandsFor.{PlainStandsFor}

-- the last event is the tick of this line, at this minute
abbrev pub shows_tick : PlainBook → ℕ → ℕ → Bool
shows_tick book line time = (book.lines == line) && option_map_or (λ minute. minute == time) book.tick false

-- the book stands for the events, which reach the line at most
pub record IsReached (book : PlainBook) (events : List Event) (line : ℕ) : Type 0 where
  pub stands : PlainStandsFor book events
  pub within : length events ≤ line

-- and the event of the line, which then is the last, is a tick at this minute
pub record IsAtTick (book : PlainBook) (events : List Event) (line time : ℕ) : Type 0 where
  pub reached : IsReached book events line
  pub is_tick : IsTickAt events line time

-- the book stands for lawful events, and the one opening of them is taken at this line and minute
pub record IsAtOpening (book : PlainBook) (events : List Event) (line time : ℕ) : Type 0 where
  pub stands : PlainStandsFor book events
  pub lawful : AreLawful events
  pub is_opening : IsOpeningAt events line time
