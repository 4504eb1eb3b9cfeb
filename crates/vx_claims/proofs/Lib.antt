-- the rows of a feed rise
pub mod RisingRows
-- events, strikes and rates are in range
pub mod InRange
-- where the opening stands
pub mod OpeningPlaces
-- tests and levels
pub mod TestNumbers
pub mod FailingLemmas
pub mod LevelLemmas
-- what a tick comes to
pub mod TickOutcomes
