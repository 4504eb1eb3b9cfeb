-- a run is one
pub mod RunIsOne
-- and so is the answer
pub mod TermAnswerIsOne
-- the square of the index
pub mod Weights
-- ends are in order
pub mod Ordered
-- the excess of the forward and the variance
pub mod Variances
-- from a told level to the answer
pub mod ToldLevels
-- how wide they are
pub mod Widths
-- what an answer says of the exponential's values
pub mod Holding
-- and what it means
pub mod Meanings
-- and how tight it is
pub mod Tightness
-- together, of a term's answer
pub mod TermLaws
-- results
pub mod Results
-- what is kept
pub mod KeptTerms
