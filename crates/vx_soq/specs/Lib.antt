-- The answer to the opening, and its laws.
pub mod Figures
pub mod Openings
pub mod TermPlace
pub mod Lawful
pub mod Complete
pub mod Written
pub mod Laws
