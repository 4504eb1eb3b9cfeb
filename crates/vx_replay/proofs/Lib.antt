-- the terms of a tick are one
-- and so is its answer
pub mod FigureIsOne
pub mod TickAnswerIsOne
pub mod Places
pub mod Accepted
pub mod LawfulTicks
pub mod Completeness
pub mod Joining
-- the replay
pub mod StripSteps
pub mod TickSteps
pub mod TermsShown
pub mod TermsKept
pub mod NextReplay
pub mod QuietEvents
