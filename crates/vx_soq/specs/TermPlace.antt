-- Where the opening's term stands among the declared expiries.
use Rattle.std.specs.Prelude.{◌≡◌, ℕ, List, Option, Some, None, IsTrue, MatchOption, slice_get}
use Rattle.vx_clock.specs.declared.days.DayNo.{DayNo}
use Rattle.vx_feed.specs.declared.events.Event.{Event}
use Rattle.vx_feed.specs.Standing.{before_opening}
use Rattle.vx_feed.specs.Listed.{trade_date, declared_expiries, is_declared}
use Rattle.vx_claims.specs.Seen.{opening_expiry, opening_facts}

-- the opening's term stands at this place in order of declaration, from 0, and was declared before the opening
pub record IsTermPlace (events : List Event) (place : ℕ) : Type 0 where
  pub day : DayNo
  pub day_is : trade_date events ≡ Some day
  pub stands : slice_get (declared_expiries events) place ≡ Some (opening_expiry day)
  pub declared : IsTrue (is_declared (opening_expiry day) (before_opening events))

-- the place of the opening's term, or nothing where the opening shows no term
abbrev pub FindsTerm : List Event → Option ℕ → Type 0
FindsTerm events found = MatchOption found ((opening_facts events).term ≡ None) (IsTermPlace events)
