-- The answers to the ticks of a feed, their laws, and what the replay keeps.
pub mod Figures
pub mod Joined
pub mod Joinable
pub mod Ticks
pub mod Lawful
pub mod Complete
pub mod Laws
pub mod StandsFor
pub mod Stepped
pub mod StripsAfter
pub mod TermSteps
