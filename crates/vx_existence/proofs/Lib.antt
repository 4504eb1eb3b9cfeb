-- the exponential, the level and the term
pub mod Exponentials
pub mod Levels
pub mod Terms
-- the ends of the index and the decision
pub mod Roots
pub mod Decisions
pub mod Figures
-- the tick, and the opening
pub mod Ticks
pub mod Openings
-- a day
pub mod DayExampleProofs
