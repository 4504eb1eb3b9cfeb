-- the closest pair
pub mod PairOrder
-- the forward's interval, and how far its printed ends lie apart
pub mod ForwardLemmas
pub mod Widths
-- the level
pub mod Places
pub mod Printed
pub mod AnswersAreOne
