-- Lemmas: each event leaves a book that stands for one event more.
pub mod Places
pub mod Rows
pub mod Lookups
pub mod Quiet
pub mod Lawful
pub mod Terms
pub mod Kept
pub mod Room
pub mod Openings
pub mod NextBook
pub mod NextSeries
