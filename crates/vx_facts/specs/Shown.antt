-- What lawful events show is in range: the rows and the rate of every expiry, as they stand and at the opening.
use Rattle.std.specs.Prelude.{ℤ, List, Option, IfSome}
use Rattle.vx_clock.specs.declared.terms.Expiry.{Expiry}
use Rattle.vx_symbol.specs.declared.rows.StrikeRow.{StrikeRow}
use Rattle.vx_symbol.specs.Rows.{AreLawfulRows, IsRateInRange}
use Rattle.vx_feed.specs.declared.events.Event.{Event}
use Rattle.vx_feed.specs.Standing.{standing_rate}
use Rattle.vx_feed.specs.Listed.{listed_rows}
use Rattle.vx_feed.specs.Opening.{opening_rows, opening_rate}
use Rattle.vx_feed.specs.Order.{AreLawful}

-- the rows are lawful, and a rate that stands is in range
pub record AreLawfulFacts (rows : List StrikeRow) (rate : Option ℤ) : Type 0 where
  pub rows_are : AreLawfulRows rows
  pub rate_is : IfSome rate IsRateInRange

-- as they stand after lawful events
abbrev pub StandingIsLawful : Type 0
StandingIsLawful = (x : Expiry) (events : List Event) → AreLawful events → AreLawfulFacts (listed_rows x events) (standing_rate x events)

-- and as they stood when lawful events took the opening
abbrev pub OpeningIsLawful : Type 0
OpeningIsLawful = (x : Expiry) (events : List Event) → AreLawful events → AreLawfulFacts (opening_rows x events) (opening_rate x events)
