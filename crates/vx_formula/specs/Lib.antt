-- The formula, in the order in which a figure is computed.

-- a term, its closest pair and its forward
pub mod Pair
pub mod Term
pub mod Forward
-- the level, the strikes that take part, and their strip
pub mod Level
pub mod Selection
pub mod Strip
pub mod Walk
-- the variance, and the index
pub mod Variance
pub mod Index
pub mod Rounds
pub mod Between
-- where there is no figure
pub mod Refusal
pub mod Undecided
pub mod Clear
-- what two ends of a forward decide, and what answers a term has
pub mod StrikesByEnds
pub mod TermOutcomes
-- what is kept between figures, and what a figure settles
pub mod Touched
pub mod Settlement
-- what holds of them
pub mod Laws
-- and worked examples
pub mod Examples
