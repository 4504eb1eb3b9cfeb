-- the exponential
pub mod Exponentials
-- the forward, the level and the excess
pub mod Forwards
-- the strip, its contributions and their sum
pub mod Strips
-- the variance
pub mod Variances
-- the figure
pub mod Figures
-- a term, test by test
pub mod Terms
-- the minutes of picked terms
pub mod PickedMinutes
-- which expiries are picked
pub mod Picks
-- the printed ends of the index
pub mod IndexEnds
-- what a tick and the opening show
pub mod FactsLawful
-- the ranges of what is stated, and of declared expiries
pub mod Statable
pub mod DeclaredExpiries
-- what is clear, and what is decided
pub mod ClearTerms
pub mod FigureDecisions
